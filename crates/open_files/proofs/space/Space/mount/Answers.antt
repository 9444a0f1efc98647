use Rattle.std.proofs.Common.{◌≡◌, refl, List, ◌∷◌, [], ◌++◌, Result, true, sym, ap, ◌∙◌, subst, arith, length, get_or}
use Rattle.std.proofs.Common.{map, lit<}
use Rattle.path_walk.specs.declared.mount.Mount.{Mount}
use Rattle.path_walk.specs.Graft.{are_mounts}
use Rattle.open_files.specs.declared.error.CallError.{CallError}
use Rattle.open_files.specs.Calls.{answer, give}
use Rattle.open_files.specs.Sessions.{is_mounted, shared_answer}
use Rattle.open_files.specs.SeenSpace.{images_in, state}
use Rattle.open_files.proofs.Tables.{refused}
use Rattle.open_files.proofs.Sessions.{other_mounts}
use Rattle.open_files.proofs.OneSession.{is_walked, same_call, mounted_state}
use Rattle.open_files.proofs.OneMount.{is_free, room, has_image, node_there, has_node_there, mounts_there}
use Rattle.open_files.proofs.OneMount.{mounted_there}
use Rattle.open_files.proofs.OneMount.{still_mounts}
use Rattle.open_files.proofs.space.Space.mount.Goals as goal

pub image_of-requires : goal.image_of-requires
image_of-requires g c =
    let w = is_walked c.args.self.now c.walk.new.self c.in_ok-on.ensures.images c.in_ok-on.ensures.mounts
    c.in_ok-on.ensures.tables in
    let p = c.in_ok-on.ensures.leads in
    omega (arith, has_image w c.in_ok-on.on c.in_ok-on.dir p.0 p.2, ap length c.as_slice-2.ensures.value)

pub check_cover-requires : goal.check_cover-requires
check_cover-requires g c κs =
    let w = is_walked c.args.self.now c.walk.new.self c.in_ok-on.ensures.images c.in_ok-on.ensures.mounts
    c.in_ok-on.ensures.tables in
    let p = c.in_ok-on.ensures.leads in
    let here = c.image_of.ensures ∙ ap (λ z. get_or z c.in_ok-on.on c.image_of.result.now) c.as_slice-2.ensures.value in
    ((refl, tt), has_node_there w c.in_ok-on.on c.in_ok-on.dir p.0 p.2 here)

pub returns-in_err-check_cover-clause-reply : goal.returns-in_err-check_cover-clause-reply
returns-in_err-check_cover-clause-reply g c =
    let w = is_walked c.args.self.now c.walk.new.self c.in_ok-on.ensures.images c.in_ok-on.ensures.mounts
    c.in_ok-on.ensures.tables in
    let p = c.in_ok-on.ensures.leads in
    let here = c.image_of.ensures ∙ ap (λ z. get_or z c.in_ok-on.on c.image_of.result.now) c.as_slice-2.ensures.value in
    let free = is_free c.args.self.now (omega (arith, c.if-image-eq0.false))
    (omega (arith, c.if-image-len.false, c.len.ensures)) (ap (is_mounted c.args.image) (sym c.as_slice.ensures.value)
    ∙ (sym c.is_mounted_in.ensures ∙ c.if-is_mounted_in.false)) in
    let r = c.from_residual-in_err-check_cover.result in
    ap (shared_answer (state c.args.self.now))
    (mounts_there w c.in_ok-on.on c.in_ok-on.dir p.0 p.2 here free c.args.path.now p.1
    ∙ c.in_err-check_cover.ensures p.0.node (node_there w c.in_ok-on.on c.in_ok-on.dir p.0 p.2 here)
    c.args.self.now.mounts.items c.args.image p.0)
    ∙ (ap (λ (z : Result (Unit {0}) CallError). answer z (state c.args.self.now))
    (sym (refused r c.in_err-check_cover.field-0.0 c.from_residual-in_err-check_cover.ensures.1))
    ∙ ap (λ z. answer r z) (same_call w (λ m z. z)))

pub push-requires : goal.push-requires
push-requires g c =
    let free = is_free c.args.self.now (omega (arith, c.if-image-eq0.false))
    (omega (arith, c.if-image-len.false, c.len.ensures)) (ap (is_mounted c.args.image) (sym c.as_slice.ensures.value)
    ∙ (sym c.is_mounted_in.ensures ∙ c.if-is_mounted_in.false)) in
    (lit< tt, omega (arith, room c.args.self.now c.args.image free, ap (λ z. length z.items) c.in_ok-on.ensures.mounts))

pub invariant_of-self-clause-mounted : goal.invariant_of-self-clause-mounted
invariant_of-self-clause-mounted g c =
    let w = is_walked c.args.self.now c.walk.new.self c.in_ok-on.ensures.images c.in_ok-on.ensures.mounts
    c.in_ok-on.ensures.tables in
    let p = c.in_ok-on.ensures.leads in
    let here = c.image_of.ensures ∙ ap (λ z. get_or z c.in_ok-on.on c.image_of.result.now) c.as_slice-2.ensures.value in
    let free = is_free c.args.self.now (omega (arith, c.if-image-eq0.false))
    (omega (arith, c.if-image-len.false, c.len.ensures)) (ap (is_mounted c.args.image) (sym c.as_slice.ensures.value)
    ∙ (sym c.is_mounted_in.ensures ∙ c.if-is_mounted_in.false)) in
    let t = c.in_ok-check_cover.ensures p.0.node (node_there w c.in_ok-on.on c.in_ok-on.dir p.0 p.2 here) in
    let P : List Mount → Type 0 = λ z. are_mounts (images_in c.walk.new.self) z ≡ true in
    subst P (sym c.push.ensures.items) (still_mounts w c.in_ok-on.on c.in_ok-on.dir p.0 p.2 here free t.0 t.1 p.3)

pub invariant_of-self-clause-sound : goal.invariant_of-self-clause-sound
invariant_of-self-clause-sound g c =
    let s = c.walk.new.self in
    other_mounts (images_in s) s.mounts.items c.push.new.self.items (map (λ t. t.slots) s.tables) s.sound

pub returns-clause-reply : goal.returns-clause-reply
returns-clause-reply g c =
    let w = is_walked c.args.self.now c.walk.new.self c.in_ok-on.ensures.images c.in_ok-on.ensures.mounts
    c.in_ok-on.ensures.tables in
    let p = c.in_ok-on.ensures.leads in
    let here = c.image_of.ensures ∙ ap (λ z. get_or z c.in_ok-on.on c.image_of.result.now) c.as_slice-2.ensures.value in
    let free = is_free c.args.self.now (omega (arith, c.if-image-eq0.false))
    (omega (arith, c.if-image-len.false, c.len.ensures)) (ap (is_mounted c.args.image) (sym c.as_slice.ensures.value)
    ∙ (sym c.is_mounted_in.ensures ∙ c.if-is_mounted_in.false)) in
    let t = c.in_ok-check_cover.ensures p.0.node (node_there w c.in_ok-on.on c.in_ok-on.dir p.0 p.2 here) in
    let u : Mount = record { image = c.args.image; on = c.in_ok-on.on; dir = c.in_ok-on.dir } in
    ap (shared_answer (state c.args.self.now))
    (mounted_there w c.in_ok-on.on c.in_ok-on.dir p.0 p.2 here free t.0 t.1 c.args.path.now p.1)
    ∙ ap (λ z. give tt z) (mounted_state w (c.args.self.now.mounts.items ++ u ∷ []) c.push.new.self.items
    (c.push.ensures.items ∙ ap (λ z. z.items ++ u ∷ []) c.in_ok-on.ensures.mounts))
