use Rattle.std.proofs.Common.{ℕ, ◌+◌, subst}
use Rattle.rom_fields.specs.Written.{Puts, sink}
use Rattle.rom_fields.proofs.Joins.{chain}
use Rattle.image_info.specs.Map.{address_text, run_line}
use Rattle.image_info.proofs.map_line.put_run.Goals as goal

pub returns : goal.returns
unfolding run_line
returns g c =
    let P : ℕ → Type 0 = λ v. Puts (sink (g.W.ByteWrite.output c.args.w.now) c.args.failed.now)
    (sink (g.W.ByteWrite.output c.put_address.new.w) c.put_address.new.failed) (address_text (c.args.base + v)) in
    chain (subst P c.from.ensures c.put_address.ensures) (chain c.put.ensures (chain c.put_decimal.ensures
    (chain c.put-2.ensures (chain c.put_decimal-2.ensures
    (chain c.put-3.ensures (chain c.put_path.ensures c.put-4.ensures))))))
