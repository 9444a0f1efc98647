use Rattle.std.proofs.Common.{ℕ, List, subst}
use Rattle.rom_fields.specs.Written.{Puts, Sink, sink}
use Rattle.rom_fields.proofs.Joins.{chain}
use Rattle.rom_commands.proofs.ending.put_no_file.Goals as goal

pub returns : goal.returns
returns g c =
    let from : Sink = sink (g.W.ByteWrite.output c.put.new.w) c.put.new.failed in
    let to : Sink = sink (g.W.ByteWrite.output c.put-2.new.w) c.put-2.new.failed in
    let P : List ℕ → Type 0 = λ v. Puts from to v in
    chain c.put.ensures (chain (subst P c.name.ensures c.put-2.ensures) c.put-3.ensures)
