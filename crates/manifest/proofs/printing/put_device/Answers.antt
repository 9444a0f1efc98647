use Rattle.std.proofs.Common.{codes, [], ◌∷◌}
use Rattle.std.specs.Prelude.{decimal}
use Rattle.rom_fields.proofs.Joins.{chain}
use Rattle.manifest.specs.Printed.{attributes}
use Rattle.manifest.specs.Entries.{line_of}
use Rattle.manifest.proofs.Joined.{and_fields}
use Rattle.manifest.proofs.printing.put_device.Goals as goal

pub returns : goal.returns
returns g c =
    let l = line_of c.args.e.now in
    and_fields (codes "nod") (attributes l) c.args.letter.now
    (decimal l.major ∷ decimal l.minor ∷ []) c.put_owned.ensures
    (chain c.put.ensures (chain c.put-2.ensures
    (chain c.put-3.ensures (chain c.put_decimal.ensures (chain c.put-4.ensures c.put_decimal-2.ensures)))))
