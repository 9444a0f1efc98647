use Rattle.std.proofs.Common.{List, ℕ, ap, ◌∙◌, subst}
use Rattle.hex.specs.Hex.{encode_lower}
use Rattle.rom_fields.specs.Written.{Puts, sink}
use Rattle.rom_fields.proofs.Joins.{chain}
use Rattle.image_compare.specs.Digests.{sum_line}
use Rattle.image_compare.proofs.line.put_sum.Goals as goal

pub returns : goal.returns
unfolding sum_line
returns g c = λ bytes e.
    let P : List ℕ → Type 0 = λ v. Puts (sink (g.W.ByteWrite.output c.put_mark.new.w) c.put_mark.new.failed)
    (sink (g.W.ByteWrite.output c.put.new.w) c.put.new.failed) v in
    chain c.put_mark.ensures (chain (subst P (c.digits_of.ensures ∙ ap encode_lower e) c.put.ensures)
    (chain c.put-2.ensures (chain c.put_beside.ensures (chain c.put_bytes.ensures c.put-3.ensures))))
