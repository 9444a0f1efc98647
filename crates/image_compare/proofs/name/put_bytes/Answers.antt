use Rattle.std.proofs.Common.{List, ℕ, sym, subst}
use Rattle.rom_fields.specs.Written.{Puts, sink}
use Rattle.rom_fields.proofs.Joins.{puts_nothing, chain}
use Rattle.image_compare.proofs.Shown.{shown_none, shown_more}
use Rattle.image_compare.proofs.name.put_bytes.Goals as goal

pub loop-byte-init : goal.loop-byte-init
loop-byte-init g c =
    let P : List ℕ → Type 0 = λ v. Puts (sink (g.W.ByteWrite.output c.args.w.now) c.args.failed.now)
    (sink (g.W.ByteWrite.output c.args.w.now) c.args.failed.now) v in
    subst P (sym shown_none) (puts_nothing (sink (g.W.ByteWrite.output c.args.w.now) c.args.failed.now))

pub loop-byte-preserved : goal.loop-byte-preserved
loop-byte-preserved g c =
    let P : List ℕ → Type 0 = λ v. Puts (sink (g.W.ByteWrite.output c.args.w.now) c.args.failed.now)
    (sink (g.W.ByteWrite.output c.put_byte.new.w) c.put_byte.new.failed) v in
    subst P (sym (shown_more c.args.name.now c.loop-byte.byte-index c.loop-byte-test.true))
    (chain c.loop-byte.invariant c.put_byte.ensures)
