use Rattle.std.proofs.Common.{◌≡◌, ◌∙◌, ℕ, List, None, subst, sym, ap, true, false}
use Rattle.rom_fields.specs.Written.{Puts, sink}
use Rattle.rom_fields.proofs.Joins.{chain, puts_nothing}
use Rattle.image_extents.specs.declared.extent.Extent.{Extent}
use Rattle.image_extents.specs.Lines.{between, is_start, run_text, starting}
use Rattle.image_extents.proofs.lines.put_piece.Goals as goal

pub returns-then-is_start : goal.returns-then-is_start
returns-then-is_start g c =
    let e : is_start c.args.before c.args.x.start ≡ true = sym c.is_start.ensures ∙ c.if-is_start.true in
    rw e (puts_nothing (sink (g.W.ByteWrite.output c.args.w.now) c.args.failed.now))

pub returns : goal.returns
returns g c =
    let f = c.args.found.now in
    let x = c.args.x in
    let e : is_start c.args.before x.start ≡ false = sym c.is_start.ensures ∙ c.if-is_start.false in
    let B : ℕ → Type 0 = λ v. Puts (sink (g.W.ByteWrite.output c.args.w.now) c.args.failed.now)
    (sink (g.W.ByteWrite.output c.put_between.new.w) c.put_between.new.failed)
    (between c.args.base f.bytes.now c.args.reach v) in
    let R : List Extent → Type 0 = λ v. Puts (sink (g.W.ByteWrite.output c.put_between.new.w) c.put_between.new.failed)
    (sink (g.W.ByteWrite.output c.put_run.new.w) c.put_run.new.failed) (run_text c.args.base f None v) in
    rw e (chain (subst B c.from.ensures c.put_between.ensures)
    (subst R (c.run_at.ensures ∙ ap (starting x.start) c.deref.ensures.value) c.put_run.ensures))
