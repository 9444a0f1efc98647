-- What the calls of one session owe, each said once for a whole space. `IsWalked`: what a walk leaves of a space.
use Rattle.std.proofs.Common.{◌≡◌, ℕ, ◌<◌, Bool, List, Option, Some, true, Result, Ok, Err, refl, sym, ap, ◌∙◌, subst}
use Rattle.std.proofs.Common.{arith, length, get_or, map}
use Rattle.std.specs.Prelude.{slice_set, IsErrAnd}
use Rattle.std.specs.Prelude.{Vec}
use Rattle.std.specs.declared.alloc.Global.{Global}
use Rattle.arrayvec.specs.ArrayVec.{ArrayVec}
use Rattle.rom_tree.specs.declared.image.Viewed.{Ghosts}
use Rattle.rom_tree.specs.Image.{Image}
use Rattle.path_walk.specs.declared.error.WalkError.{WalkError}
use Rattle.path_walk.specs.declared.mount.Mount.{Mount}
use Rattle.path_walk.specs.Resolution.{resolution}
use Rattle.path_walk.specs.Graft.{MountedNode, graft}
use Rattle.open_files.specs.declared.error.CallError.{CallError}
use Rattle.open_files.specs.declared.slot.OpenNode.{OpenNode}
use Rattle.open_files.specs.declared.slot.Slots.{Slots}
use Rattle.open_files.specs.declared.space.Space.{Space}
use Rattle.open_files.specs.Calls.{Answer, answer, viewed}
use Rattle.open_files.specs.Errors.{error_of}
use Rattle.open_files.specs.Machine.{Table, walked}
use Rattle.open_files.specs.Sessions.{Sessions, own_answer}
use Rattle.open_files.specs.SeenSpace.{images_in, state}
use Rattle.open_files.specs.Slots.{View, graft_view, are_sound, table_of}
use Rattle.open_files.specs.Space.{slots_at, all_sound, space_state}
use Rattle.open_files.proofs.Tables.{refused}
use Rattle.open_files.proofs.Sessions.{sound_at, slots_index, at_same, all_sound_set, own_sets, own_stays, same_state}

module _ {T : Type 0} {n : ℕ} {w : Ghosts T} where
  abbrev pub view_of : Space T n w → View MountedNode
  view_of s = graft_view (images_in s) s.mounts.items

  module _ (s : Space T n w) (k : ℕ) (l : k < 8) where
    within : k < length s.tables
    within = let e = s.sessions in omega (arith, e, l)

    pub slots_sound : (d : Slots n) → are_sound (view_of s) (get_or s.tables k d).slots ≡ true
    slots_sound d =
        let P : List (Option OpenNode) → Type 0 = λ z. are_sound (view_of s) z ≡ true in
        subst P (slots_index (λ t. t.slots) n s.tables k d within)
        (sound_at n (images_in s) s.mounts.items (map (λ t. t.slots) s.tables) k s.sound)

    -- the images and mounts are lent to a call
    module _ {xs : Vec T Global} {us : ArrayVec Mount} (ex : xs ≡ s.images) (eu : us ≡ s.mounts) where
      abbrev lent : View MountedNode
      lent = graft_view (map w.image xs.items) us.items

      same : lent ≡ view_of s
      same =
          ap (λ (z : Vec T Global). graft_view (map w.image z.items) us.items) ex
          ∙ ap (λ (z : ArrayVec Mount). graft_view (images_in s) z.items) eu

      pub still_sound : (z : Slots n) → are_sound lent z.slots ≡ true
          → all_sound (images_in s) s.mounts.items (map (λ t. t.slots) (slice_set s.tables k z)) ≡ true
      still_sound z e =
          let P : View MountedNode → Type 0 = λ v. are_sound v z.slots ≡ true in
          all_sound_set (λ t. t.slots) (images_in s) s.mounts.items s.tables k z s.sound (subst P same e)

      -- a call on the session's slots, which then are in their place
      pub answers : {R : Type 0} (d z : Slots n)
          (a : View MountedNode → Table MountedNode → Answer (Table MountedNode) R) (r : Result R CallError)
          → a lent (table_of lent (get_or s.tables k d).slots) ≡ answer r (table_of lent z.slots)
          → own_answer (state s) k (a (view_of s) ((state s).own k))
          ≡ answer r (space_state n (images_in s) s.mounts.items (map (λ t. t.slots) (slice_set s.tables k z)))
      answers d z a r e =
          let P : View MountedNode → Type 0 =
          λ v. a v (table_of v (get_or s.tables k d).slots) ≡ answer r (table_of v z.slots) in
          own_sets (λ t. t.slots) n (images_in s) s.mounts.items s.tables k d z (a (view_of s)) r within
          (subst P same e)

      -- what holds of the session's slots, of those that now are in their place
      pub in_place : (E : View MountedNode → List (Option OpenNode) → Type 0) (z : Slots n) → E lent z.slots
          → E (view_of s) (slots_at n (map (λ t. t.slots) (slice_set s.tables k z)) k)
      in_place E z e =
          let P : View MountedNode → Type 0 = λ v. E v z.slots in
          subst (E (view_of s)) (sym (at_same (λ t. t.slots) n s.tables k z within)) (subst P same e)

      -- a call that leaves them
      pub looks : {R : Type 0} (d : Slots n)
          (a : View MountedNode → Table MountedNode → Answer (Table MountedNode) R) (r : Result R CallError)
          → a lent (table_of lent (get_or s.tables k d).slots)
          ≡ answer r (table_of lent (get_or s.tables k d).slots)
          → own_answer (state s) k (a (view_of s) ((state s).own k)) ≡ answer r (state s)
      looks d a r e =
          let P : View MountedNode → Type 0 =
          λ v. a v (table_of v (get_or s.tables k d).slots) ≡ answer r (table_of v (get_or s.tables k d).slots) in
          let E : List (Option OpenNode) → Type 0 =
          λ z. a (view_of s) (table_of (view_of s) z) ≡ answer r (table_of (view_of s) z) in
          own_stays n (images_in s) (images_in s) s.mounts.items s.mounts.items (map (λ t. t.slots) s.tables)
          (map (λ t. t.slots) s.tables) k (a (view_of s) ((state s).own k)) r refl refl refl
          (subst E (sym (slots_index (λ t. t.slots) n s.tables k d within)) (subst P same e))

  -- s' is what a walk leaves of s
  pub record IsWalked (s s' : Space T n w) : Type 0 where
    pub images : images_in s' ≡ images_in s
    pub mounts : s'.mounts ≡ s.mounts
    pub tables : s'.tables ≡ s.tables

  pub is_walked : (s s' : Space T n w) → images_in s' ≡ images_in s → s'.mounts ≡ s.mounts → s'.tables ≡ s.tables
      → IsWalked s s'
  is_walked s s' em eu et = record { images = em; mounts = eu; tables = et }

  module _ {s s' : Space T n w} (h : IsWalked s s') where
    pub stays : (k : ℕ) {R : Type 0} {a : Answer (Table MountedNode) R} {r : Result R CallError}
        → a ≡ answer r ((state s).own k) → own_answer (state s) k a ≡ answer r (state s')
    stays k {R} {a} {r} q =
        own_stays n (images_in s) (images_in s') s.mounts.items s'.mounts.items (map (λ t. t.slots) s.tables)
        (map (λ t. t.slots) s'.tables) k a r h.images (ap (λ z. z.items) h.mounts) (ap (map (λ z. z.slots)) h.tables) q

    -- F is the call on the place to which the path leads
    module _ (k : ℕ) {R : Type 0} (F : Table MountedNode → MountedNode → Answer (Table MountedNode) R)
        {a : Result MountedNode WalkError} where
      pub walk_refused : {A : Type 0} (f : A → R) (r : Result A CallError) {e : CallError}
          → (v : WalkError) × (a ≡ Err v) × (e ≡ error_of v) → IsErrAnd r (λ v. v ≡ e)
          → own_answer (state s) k (walked ((state s).own k) (F ((state s).own k)) a)
          ≡ answer (viewed f r) (state s')
      walk_refused {A} f r {e} v q =
          let t : Table MountedNode = (state s).own k in
          stays k (ap (walked t (F t)) v.1 ∙ (ap (λ (z : CallError). answer {R = R} (Err z) t) (sym v.2)
          ∙ ap (λ (z : Result A CallError). answer (viewed f z) t) (sym (refused r e q))))

      pub walk_led : (r : Result R CallError) (p : MountedNode) → a ≡ Ok p
          → F ((state s).own k) p ≡ answer r ((state s).own k)
          → own_answer (state s) k (walked ((state s).own k) (F ((state s).own k)) a) ≡ answer r (state s')
      walk_led r p e q = stays k (ap (walked ((state s).own k) (F ((state s).own k))) e ∙ q)

    -- the images that are lent afterwards are the same
    pub lent_images : {xs : Vec T Global} → xs ≡ s'.images → map w.image xs.items ≡ images_in s
    lent_images e = ap (λ (z : Vec T Global). map w.image z.items) e ∙ h.images

    pub place_still : {xs : Vec T Global} → xs ≡ s'.images → (us : List Mount) (i j : ℕ) (x : MountedNode)
        → (view_of s).place i j ≡ Some x → (graft_view (map w.image xs.items) us).place i j ≡ Some x
    place_still e us i j x q =
        let Q : List Image → Type 0 = λ z. (graft_view z us).place i j ≡ Some x in
        subst Q (sym (lent_images e)) q

    -- a call on the place to which the path leads and on the session's slots, which then are in their place
    module _ (k : ℕ) (l : k < 8) {xs : Vec T Global} {us : ArrayVec Mount} (ex : xs ≡ s'.images) (eu : us ≡ s'.mounts)
        {R : Type 0} (F : Table MountedNode → MountedNode → Answer (Table MountedNode) R) (path : List ℕ)
        (follow : Bool) where
      led_now : (p : MountedNode) → resolution (graft (images_in s) s.mounts.items) path follow ≡ Ok p
          → resolution (graft (map w.image xs.items) us.items) path follow ≡ Ok p
      led_now p q = ap (λ z. resolution (graft z us.items) path follow) (lent_images ex)
          ∙ (ap (λ (z : ArrayVec Mount). resolution (graft (images_in s) z.items) path follow) (eu ∙ h.mounts) ∙ q)

      pub led_answers : (p : MountedNode) → resolution (graft (images_in s) s.mounts.items) path follow ≡ Ok p
          → (d z : Slots n) (r : Result R CallError)
          → F (table_of (graft_view (map w.image xs.items) us.items) (get_or s'.tables k d).slots) p
          ≡ answer r (table_of (graft_view (map w.image xs.items) us.items) z.slots)
          → own_answer (state s') k (walked ((state s').own k) (F ((state s').own k))
          (resolution (graft (images_in s') s'.mounts.items) path follow))
          ≡ answer r (space_state n (images_in s') s'.mounts.items (map (λ t. t.slots) (slice_set s'.tables k z)))
      led_answers p q d z r e =
          let t = table_of (graft_view (map w.image xs.items) us.items) (get_or s'.tables k d).slots in
          answers s' k l ex eu d z (λ v t. walked t (F t) (resolution v.names path follow)) r
          (ap (walked t (F t)) (led_now p q) ∙ e)

    -- a call is answered there as it was before
    pub same_call : {R : Type 0} (call : List Image → Sessions (List Mount) (Table MountedNode) → R)
        → call (images_in s) (state s) ≡ call (images_in s') (state s')
    same_call call = same_state n call (images_in s) (images_in s') s.mounts.items s'.mounts.items
        (map (λ t. t.slots) s.tables) (map (λ t. t.slots) s'.tables) h.images (ap (λ z. z.items) h.mounts)
        (ap (map (λ z. z.slots)) h.tables)

    -- other mounts: the tables are the same
    pub mounted_state : (us us' : List Mount) → us' ≡ us
        → space_state n (images_in s) us (map (λ t. t.slots) s.tables)
        ≡ space_state n (images_in s') us' (map (λ t. t.slots) s'.tables)
    mounted_state us us' eu =
        same_state n (λ z y. y) (images_in s) (images_in s') us us' (map (λ t. t.slots) s.tables)
        (map (λ t. t.slots) s'.tables) h.images eu (ap (map (λ z. z.slots)) h.tables)
