use Rattle.std.proofs.Common.{List, ℕ, subst, sym, ◌∙◌}
use Rattle.rom_fields.specs.Written.{Puts, sink}
use Rattle.image_extents.proofs.Owners.{which_in, which_out}
use Rattle.image_extents.proofs.which.put_which.Goals as goal

pub returns-then-inside-clause-text : goal.returns-then-inside-clause-text
returns-then-inside-clause-text g c =
    let P : List ℕ → Type 0 = λ v. Puts (sink (g.W.ByteWrite.output c.args.w.now) c.args.failed.now)
    (sink (g.W.ByteWrite.output c.put_inside.new.w) c.put_inside.new.failed) v in
    subst P (which_in c.args.base c.args.file c.args.found.now c.args.address
    (sym c.has_byte-inside.ensures ∙ c.if-inside.true)) c.put_inside.ensures

pub returns-else-inside-clause-text : goal.returns-else-inside-clause-text
returns-else-inside-clause-text g c =
    let P : List ℕ → Type 0 = λ v. Puts (sink (g.W.ByteWrite.output c.args.w.now) c.args.failed.now)
    (sink (g.W.ByteWrite.output c.put.new.w) c.put.new.failed) v in
    subst P (which_out c.args.base c.args.file c.args.found.now c.args.address
    (sym c.has_byte-inside.ensures ∙ c.if-inside.false)) c.put.ensures
