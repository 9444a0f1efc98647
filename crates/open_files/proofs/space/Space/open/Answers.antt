use Rattle.std.proofs.Common.{ℕ, true, ◌∙◌, rules}
use Rattle.std.specs.Prelude.{◌||◌}
use Rattle.rom_tree.specs.Tree.{is_directory, is_regular}
use Rattle.path_walk.specs.Graft.{MountedNode}
use Rattle.open_files.specs.Calls.{Answer, viewed}
use Rattle.open_files.specs.Machine.{Table, open_place}
use Rattle.open_files.specs.Sessions.{space_calls}
use Rattle.open_files.proofs.OneSession.{slots_sound, still_sound, is_walked, walk_refused, place_still}
use Rattle.open_files.proofs.OneSession.{same_call, led_answers}
use Rattle.open_files.proofs.space.Space.open.Goals as goal

-- the call on the place to which the path leads
abbrev place : Table MountedNode → MountedNode → Answer (Table MountedNode) ℕ
place t x = open_place t x (is_directory x.node || is_regular x.node)

pub returns-in_err-image-clause-reply : goal.returns-in_err-image-clause-reply
returns-in_err-image-clause-reply g c =
    let w = is_walked c.args.self.now c.walk.new.self c.in_err-image.ensures.images c.in_err-image.ensures.mounts
    c.in_err-image.ensures.tables in
    walk_refused w c.args.session place (λ x. x.0) c.from_residual.result c.in_err-image.ensures.leads
    c.from_residual.ensures.1

pub open-requires : goal.open-requires
open-requires g c κs =
    let w = is_walked c.args.self.now c.walk.new.self c.in_ok-image.ensures.images c.in_ok-image.ensures.mounts
    c.in_ok-image.ensures.tables in
    let p = c.in_ok-image.ensures.leads in
    let e = place_still w c.new-images.ensures.images c.new-images.result.mounts.now.items c.in_ok-image.image
    c.in_ok-image.node.0 p.0 p.2 in
    let h = slots_sound c.walk.new.self c.args.session c.requires.session c.index-tables-session.result in
    let b = c.walk.new.self.narrow in
    search rules

pub invariant_of-self-clause-sound : goal.invariant_of-self-clause-sound
invariant_of-self-clause-sound g c =
    still_sound c.walk.new.self c.args.session c.requires.session c.new-images.ensures.images
    c.new-images.ensures.mounts c.open.new.slots c.open.ensures.sound

pub returns-clause-reply : goal.returns-clause-reply
returns-clause-reply g c =
    let w = is_walked c.args.self.now c.walk.new.self c.in_ok-image.ensures.images c.in_ok-image.ensures.mounts
    c.in_ok-image.ensures.tables in
    let p = c.in_ok-image.ensures.leads in
    same_call w (λ m s. (space_calls g.row.N m c.args.session).open_path s c.args.path.now)
    ∙ led_answers w c.args.session c.requires.session c.new-images.ensures.images c.new-images.ensures.mounts
    place c.args.path.now true p.0 p.1 c.index-tables-session.result c.open.new.slots
    (viewed (λ x. x.0) c.open.result)
    (c.open.ensures.reply p.0 (place_still w c.new-images.ensures.images c.new-images.result.mounts.now.items
    c.in_ok-image.image c.in_ok-image.node.0 p.0 p.2))
