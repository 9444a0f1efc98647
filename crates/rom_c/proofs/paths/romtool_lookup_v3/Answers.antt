use Rattle.std.proofs.Common.{◌≡◌, ℕ, List}
use Rattle.rom_tree.specs.Tree.{Node}
use Rattle.path_walk.specs.Resolution.{resolution, tree_namespace}
use Rattle.image_check.specs.Any.{any_view}
use Rattle.image_check.specs.Parts.{tree_of_parts}
use Rattle.std.proofs.Props.{props}
use Rattle.rom_c.specs.Reported.{led_reported}
use Rattle.rom_c.proofs.Alone.{reported}
use Rattle.rom_c.specs.Files.{parts_in}
use Rattle.rom_c.proofs.paths.romtool_lookup_v3.Goals as goal

pub returns-clause-leads : goal.returns-clause-leads
returns-clause-leads c = λ z t h.
    let i = c.args.image.now in
    let m = any_view c.image_of.result in
    let P : List ℕ → Node → Type 0 =
    λ b u. c.lookup_in.result ≡ led_reported (resolution (tree_namespace b u) c.args.path.now c.args.follow) in
    reported P i.bytes.now m.bytes t (tree_of_parts i.bytes.now (parts_in i)) m.tree c.one_tree.ensures
    (Prim.hlevel props)
    (i.tree z) h
    c.image_of.ensures.bytes c.image_of.ensures.tree c.lookup_in.ensures
