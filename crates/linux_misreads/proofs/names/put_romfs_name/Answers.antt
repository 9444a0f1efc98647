use Rattle.std.proofs.Common.{◌∙◌, ap, List, ℕ}
use Rattle.rom_tree.specs.Walks.{given_path}
use Rattle.linux_misreads.specs.Misreads.{in_romfs, romfs_lines}
use Rattle.linux_misreads.proofs.Printed.{prints_by}
use Rattle.linux_misreads.proofs.names.put_romfs_name.Goals as goal

pub returns : goal.returns
returns g c = λ x e.
    prints_by (romfs_lines (given_path c.args.walk.now))
    (c.found_in_romfs-found.ensures x e
    ∙ ap (λ (v : List ℕ). in_romfs c.args.image.now v x) c.name.ensures) c.put_romfs_lines.ensures
