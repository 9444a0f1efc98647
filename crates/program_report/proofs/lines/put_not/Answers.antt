use Rattle.std.proofs.Common.{ℕ, List, subst}
use Rattle.rom_fields.specs.Written.{Puts, sink}
use Rattle.rom_fields.proofs.Joins.{chain}
use Rattle.program_report.proofs.lines.put_not.Goals as goal

pub returns : goal.returns
returns g c =
    let P : List ℕ → Type 0 = λ v. Puts (sink (g.W.ByteWrite.output c.put.new.w) c.put.new.failed)
    (sink (g.W.ByteWrite.output c.put-2.new.w) c.put-2.new.failed) v in
    chain c.put_head.ensures (chain c.put.ensures (chain (subst P c.word.ensures c.put-2.ensures)
    (chain c.put_number.ensures c.put-3.ensures)))
