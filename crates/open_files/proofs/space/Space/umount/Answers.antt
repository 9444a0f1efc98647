use Rattle.std.proofs.Common.{◌≡◌, List, true, sym, ap, ◌∙◌, subst, arith, map}
use Rattle.std.specs.Prelude.{remove}
use Rattle.std.proofs.lemmas.List.{length-map}
use Rattle.path_walk.specs.declared.mount.Mount.{Mount}
use Rattle.path_walk.specs.Graft.{are_mounts}
use Rattle.open_files.specs.Calls.{give}
use Rattle.open_files.specs.Sessions.{is_mounted, has_mount, without, shared_answer}
use Rattle.open_files.specs.SeenSpace.{images_in, state}
use Rattle.open_files.specs.Space.{space_state}
use Rattle.open_files.proofs.Mounting.{index_none, index_some, unmounting_free, unmounting_held, unmounting_goes}
use Rattle.open_files.proofs.Mounting.{mounts_without}
use Rattle.open_files.proofs.Sessions.{other_mounts}
use Rattle.open_files.proofs.space.Space.umount.Goals as goal

pub returns-in_default-clause-reply : goal.returns-in_default-clause-reply
returns-in_default-clause-reply g c =
    ap (shared_answer (state c.args.self.now))
    (unmounting_free (images_in c.args.self.now) c.args.self.now.mounts.items c.args.image
    (omega (arith, c.if-image-len.false, c.len.ensures, length-map c.args.self.now.images.items g.T.Viewed.image))
    (ap (is_mounted c.args.image) (sym c.as_slice.ensures.value)
    ∙ index_none c.args.image c.as_slice.result.now c.in_default.ensures.first))

pub returns-then-has_mount_in-clause-reply : goal.returns-then-has_mount_in-clause-reply
returns-then-has_mount_in-clause-reply g c =
    ap (shared_answer (state c.args.self.now))
    (unmounting_held (images_in c.args.self.now) c.args.self.now.mounts.items c.args.image
    (omega (arith, c.if-image-len.false, c.len.ensures, length-map c.args.self.now.images.items g.T.Viewed.image))
    (ap (is_mounted c.args.image) (sym c.as_slice.ensures.value)
    ∙ (index_some c.args.image c.as_slice.result.now c.in-Some.i c.in-Some.ensures.first).0)
    (ap (has_mount c.args.image) (sym c.as_slice-2.ensures.value)
    ∙ (sym c.has_mount_in.ensures ∙ c.if-has_mount_in.true)))

pub invariant_of-self-clause-mounted : goal.invariant_of-self-clause-mounted
invariant_of-self-clause-mounted g c =
    let P : List Mount → Type 0 = λ z. are_mounts (images_in c.args.self.now) z ≡ true in
    subst P (sym (c.remove.ensures.items
    ∙ (ap (λ (z : List Mount). remove z c.in-Some.i) (sym c.as_slice.ensures.value)
    ∙ ((index_some c.args.image c.as_slice.result.now c.in-Some.i c.in-Some.ensures.first).1
    ∙ ap (without c.args.image) c.as_slice.ensures.value))))
    (mounts_without (images_in c.args.self.now) c.args.image c.args.self.now.mounts.items c.args.self.now.mounted)

pub invariant_of-self-clause-sound : goal.invariant_of-self-clause-sound
invariant_of-self-clause-sound g c =
    let s = c.args.self.now in
    other_mounts (images_in s) s.mounts.items c.remove.new.self.items (map (λ t. t.slots) s.tables) s.sound

pub returns-clause-reply : goal.returns-clause-reply
returns-clause-reply g c =
    let s = c.args.self.now in
    ap (shared_answer (state s)) (unmounting_goes (images_in c.args.self.now) c.args.self.now.mounts.items c.args.image
    (omega (arith, c.if-image-len.false, c.len.ensures, length-map c.args.self.now.images.items g.T.Viewed.image))
    (ap (is_mounted c.args.image) (sym c.as_slice.ensures.value)
    ∙ (index_some c.args.image c.as_slice.result.now c.in-Some.i c.in-Some.ensures.first).0)
    (ap (has_mount c.args.image) (sym c.as_slice-2.ensures.value)
    ∙ (sym c.has_mount_in.ensures ∙ c.if-has_mount_in.false)))
    ∙ ap (λ (z : List Mount). give tt (space_state g.row.N (images_in s) z (map (λ t. t.slots) s.tables)))
    (sym (c.remove.ensures.items ∙ (ap (λ (z : List Mount). remove z c.in-Some.i) (sym c.as_slice.ensures.value)
    ∙ ((index_some c.args.image c.as_slice.result.now c.in-Some.i c.in-Some.ensures.first).1
    ∙ ap (without c.args.image) c.as_slice.ensures.value))))
