use Rattle.std.proofs.Common.{◌∙◌, ap, List, ℕ}
use Rattle.rom_tree.specs.Names.{names}
use Rattle.rom_tree.specs.Walks.{given_path}
use Rattle.linux_misreads.specs.Tables.{view}
use Rattle.linux_misreads.specs.Misreads.{in_cramfs, cramfs_lines}
use Rattle.linux_misreads.proofs.Printed.{prints_by}
use Rattle.linux_misreads.proofs.names.put_cramfs_name.Goals as goal

pub returns : goal.returns
returns g c = λ x e.
    prints_by (cramfs_lines (given_path c.args.walk.now))
    (c.found_in_cramfs-found.ensures x e
    ∙ ap (λ (v : List ℕ). in_cramfs c.args.image.now (names (view c.args.image.now).tree) v x) c.name.ensures)
    c.put_cramfs_lines.ensures
