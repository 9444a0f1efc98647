use Rattle.std.proofs.Common.{◌≡◌, List, Option, map, sym, subst, true}
use Rattle.rom_tree.specs.Image.{Image}
use Rattle.path_walk.specs.declared.mount.Mount.{Mount}
use Rattle.path_walk.specs.Graft.{are_mounts}
use Rattle.path_walk.proofs.Alike.{no_mounts}
use Rattle.open_files.specs.declared.slot.OpenNode.{OpenNode}
use Rattle.open_files.specs.Slots.{graft_view, stands, are_sound}
use Rattle.open_files.proofs.Tables.{stand-replicate}
use Rattle.open_files.proofs.Sessions.{eight_sound, eight_empty}
use Rattle.open_files.proofs.space.Space.new.Goals as goal

pub invariant_of-result-clause-mounted : goal.invariant_of-result-clause-mounted
invariant_of-result-clause-mounted g c =
    let ms : List Image = map g.T.Viewed.image c.args.images.items in
    let P : List Mount → Type 0 = λ z. are_mounts ms z ≡ true in
    subst P (sym c.new.ensures) (no_mounts ms)

pub invariant_of-result-clause-sound : goal.invariant_of-result-clause-sound
invariant_of-result-clause-sound g c =
    let ms : List Image = map g.T.Viewed.image c.args.images.items in
    let us : List Mount = c.new.result.items in
    let P : List (Option OpenNode) → Type 0 = λ z. are_sound (graft_view ms us) z ≡ true in
    eight_sound ms us c.new-slots.result.slots
    (subst P (sym c.new-slots.ensures.blank) (stand-replicate (stands (graft_view ms us)) g.row.N))

pub returns-clause-empty : goal.returns-clause-empty
returns-clause-empty g c = eight_empty g.row.N
    (map g.T.Viewed.image c.args.images.items) c.new.result.items c.new-slots.result.slots c.new.ensures
    c.new-slots.ensures.blank
