use Rattle.std.proofs.Math.Logic.{∥∥₁_elim}
use Rattle.std.proofs.Props.{props}
use Rattle.image_check.specs.Parts.{tree_of_parts}
use Rattle.rom_c.specs.Files.{parts_in}
use Rattle.rom_c.proofs.files.romtool_reopen_v3.Goals as goal

pub opened_at-requires : goal.opened_at-requires
opened_at-requires c =
    let i = c.args.image.now in
    let z = c.if-image-ne-OPEN.false in
    ∥∥₁_elim (i.tree z) (Prim.hlevel props) (λ k. c.requires z (tree_of_parts i.bytes.now (parts_in i)) k)
