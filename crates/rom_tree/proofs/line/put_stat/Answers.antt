use Rattle.std.proofs.Common.{subst, ℕ, ◌∷◌, []}
use Rattle.rom_fields.specs.Written.{Puts, sink}
use Rattle.rom_fields.proofs.Joins.{chain}
use Rattle.rom_tree.specs.Listing.{stat_text}
use Rattle.rom_tree.proofs.line.put_stat.Goals as goal

pub returns : goal.returns
unfolding stat_text
returns g c =
    let Q : ℕ → Type 0 = λ v. Puts (sink (g.W.ByteWrite.output c.put_decimal.new.w) c.put_decimal.new.failed)
    (sink (g.W.ByteWrite.output c.put.new.w) c.put.new.failed) (32 ∷ v ∷ 32 ∷ []) in
    chain c.put_decimal.ensures (chain (subst Q c.letter_of-letter.ensures c.put.ensures) (chain c.put_octal.ensures
    (chain c.put-2.ensures (chain c.put_decimal-2.ensures
    (chain c.put-3.ensures (chain c.put_decimal-3.ensures (chain c.put-4.ensures (chain c.put_decimal-4.ensures
    (chain c.put-5.ensures (chain c.put_decimal-5.ensures (chain c.put-6.ensures c.put_decimal-6.ensures)))))))))))
