use Rattle.std.proofs.Common.{ℕ, [], ◌∷◌, subst}
use Rattle.rom_fields.specs.Written.{Puts, sink}
use Rattle.rom_fields.proofs.Joins.{chain}
use Rattle.image_compare.specs.Diff.{attributes_text}
use Rattle.image_compare.proofs.lines.put_attributes.Goals as goal

pub returns : goal.returns
unfolding attributes_text
returns g c =
    let P : ℕ → Type 0 = λ v. Puts (sink (g.W.ByteWrite.output c.args.w.now) c.args.failed.now)
    (sink (g.W.ByteWrite.output c.put.new.w) c.put.new.failed) (v ∷ 47 ∷ []) in
    chain (subst P c.letter_of.ensures c.put.ensures) (chain c.put_octal.ensures (chain c.put-2.ensures
    (chain c.put_decimal.ensures (chain c.put-3.ensures (chain c.put_decimal-2.ensures (chain c.put-4.ensures
    (chain c.put_decimal-3.ensures (chain c.put-5.ensures c.put_decimal-4.ensures))))))))
