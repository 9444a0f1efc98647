-- What a call on a descriptor owes, each said once for all calls: f is what the machine says of the call, h reads its
-- result as a reply. `IsHeld`: slot fd holds s, an open node of image m.
use Rattle.std.proofs.Common.{◌≡◌, ℕ, true, List, Option, Some, None, Result, Ok, Err, get_or, sym, ap, ◌∙◌}
use Rattle.std.specs.Prelude.{slice_set, IsErrAnd}
use Rattle.rom_tree.specs.Tree.{Node, ino_of}
use Rattle.rom_tree.specs.Image.{Image, LieIn, HasNode}
use Rattle.rom_tree.proofs.Named.{has_node}
use Rattle.open_files.specs.declared.error.CallError.{CallError}
use Rattle.open_files.specs.declared.error.CallError.TheVariants.{Ebadf}
use Rattle.open_files.specs.declared.slot.OpenNode.{OpenNode}
use Rattle.open_files.specs.Calls.{Of, Named, answer}
use Rattle.open_files.specs.Machine.{Open, Outcome, on_open, readdir_on}
use Rattle.open_files.specs.Slots.{View, IsImage, HasPlace, Moves, LeadsOn, IsPartThere}
use Rattle.open_files.specs.Slots.{image_view, stands, are_sound, table_of}
use Rattle.open_files.proofs.Standing.{in_image, stands_in_image, has_place, moves_in_view, in_view}
use Rattle.open_files.proofs.Tables.{HasOpen, has_open, refused, call_none, call_stays, call_refused, call_moves}
use Rattle.open_files.proofs.Tables.{moves_sound, leads_on, is_part}

-- the node at a place is one of its image
pub place_asks : {F : Type 0} (v : View F) (i n : ℕ) (m : Image) → (x : F) × (v.place i n ≡ Some x) → IsImage v i m
    → HasNode m n
place_asks v i n m p k = has_node m n (v.names.node p.0) (k.node n p.0 p.1)

-- what is open there is a place of an image
module _ {F : Type 0} (v : View F) (slots : List (Option OpenNode)) (fd : ℕ) (s : OpenNode)
    (sound : are_sound v slots ≡ true) (here : get_or slots fd None ≡ Some s) where
  pub image_asks : HasPlace v s.image
  image_asks = let k = has_open v slots fd s sound here in has_place v s k.what k.stands

  pub call_asks : (m : Image) → IsImage v s.image m → (o : Open Node) × (stands (image_view m) s ≡ Some o)
  call_asks m i =
      let k = has_open v slots fd s sound here in (in_image v k.what, stands_in_image v s k.what m i k.stands)

-- what the calls below this one ask
pub ruleset asks = (place_asks, image_asks, call_asks)

module _ {F : Type 0} where
  pub record IsHeld (v : View F) (slots : List (Option OpenNode)) (fd : ℕ) (s : OpenNode) (m : Image) : Type 0 where
    pub sound : are_sound v slots ≡ true
    pub here : get_or slots fd None ≡ Some s
    pub image : IsImage v s.image m

  pub is_held : (v : View F) {slots : List (Option OpenNode)} {fd : ℕ} {s : OpenNode} {m : Image}
      → are_sound v slots ≡ true → get_or slots fd None ≡ Some s → IsImage v s.image m → IsHeld v slots fd s m
  is_held v a h i = record { sound = a; here = h; image = i }

  abbrev held : {v : View F} {slots : List (Option OpenNode)} {fd : ℕ} {s : OpenNode} {m : Image}
      → IsHeld v slots fd s m → HasOpen v slots fd s
  held {v} {slots} {fd} {s} {m} k = has_open v slots fd s k.sound k.here

  module _ {R : Type 0} (f : Option ℕ → List ℕ → Node → ℕ → Outcome R) (v : View F) where
    abbrev over : F → ℕ → Outcome R
    over x p = f (v.number x) (v.names.bytes x) (v.names.node x) p

    pub nothing_open : (slots : List (Option OpenNode)) (fd : ℕ) {e : CallError} {A : Type 0} {r : Result A CallError}
        (h : Result A CallError → Result R CallError) → ((z : CallError) → h (Err z) ≡ Err z)
        → (get_or slots fd None ≡ None) × (e ≡ Ebadf) → IsErrAnd r (λ z. z ≡ e)
        → on_open over (table_of v slots) fd ≡ answer (h r) (table_of v slots)
    nothing_open slots fd {e} {A} {r} h n s q =
        call_none v slots over fd (h r) s.0
        (ap h (refused r e q ∙ ap (λ (w : CallError). Err w) s.1) ∙ n Ebadf)

    module _ {slots : List (Option OpenNode)} {fd : ℕ} {s : OpenNode} {m : Image} (k : IsHeld v slots fd s m) where
      abbrev what : Open F
      what = (held k).what

      there : stands (image_view m) s ≡ Some (in_image v what)
      there = stands_in_image v s what m k.image (held k).stands

      -- what the call's own clause says of what is open there
      abbrev Clause : OpenNode → Result R CallError → Type 0
      Clause new r = (o : Open Node) → stands (image_view m) s ≡ Some o
          → Moves (image_view m) o s new (f (v.label s.image) m.bytes o.place o.position) r

      pub in_table : (new : OpenNode) (r : Result R CallError) → Clause new r
          → Moves v what s new (over what.place what.position) r
      in_table new r w = moves_in_view f v s what m k.image (held k).stands new r (w (in_image v what) there)

      pub refuses : {A : Type 0} {r : Result A CallError} (h : Result A CallError → Result R CallError)
          → ((z : CallError) → h (Err z) ≡ Err z) → (e : CallError) (new : OpenNode) → Clause new (Err e)
          → IsErrAnd r (λ z. z ≡ e) → on_open over (table_of v slots) fd ≡ answer (h r) (table_of v slots)
      refuses {A} {r} h n e new w q =
          call_refused v slots over fd s new (held k) e (in_table new (Err e) w)
          ∙ ap (λ (z : Result R CallError). answer z (table_of v slots)) (sym (ap h (refused r e q) ∙ n e))

      -- the call gives a, and the slot then holds new
      module _ {slots' : List (Option OpenNode)} (new : OpenNode) (q : slots' ≡ slice_set slots fd (Some new)) (a : R)
          (w : Clause new (Ok a)) where
        pub gives : on_open over (table_of v slots) fd ≡ answer (Ok a) (table_of v slots')
        gives = call_moves v slots over fd slots' s new (held k) a (in_table new (Ok a) w) q

        pub gives_sound : are_sound v slots' ≡ true
        gives_sound = moves_sound v slots over fd slots' s new (held k) a (in_table new (Ok a) w) q k.sound

        -- a reply that names the image of what the slot then holds
        pub gives_of : (reply : ℕ → R) → a ≡ reply s.image
            → on_open over (table_of v slots) fd ≡ answer (Ok (reply new.image)) (table_of v slots')
        gives_of reply e =
            let image : s.image ≡ new.image = sym (in_table new (Ok a) w).3 in
            gives ∙ ap (λ (z : R). answer (Ok z) (table_of v slots')) (e ∙ ap reply image)

      -- of a call that leaves what is open as it is
      pub looks_refused : {A : Type 0} {r : Result A CallError} (h : Result A CallError → Result R CallError)
          → ((z : CallError) → h (Err z) ≡ Err z) → (e : CallError)
          → ((o : Open Node) → stands (image_view m) s ≡ Some o
          → f (v.label s.image) m.bytes o.place o.position ≡ Err e)
          → IsErrAnd r (λ z. z ≡ e) → on_open over (table_of v slots) fd ≡ answer (h r) (table_of v slots)
      looks_refused {A} {r} h n e w q =
          call_stays v slots over fd s (held k) (Err e)
          (in_view f v s what m k.image (held k).stands ∙ w (in_image v what) there)
          ∙ ap (λ (z : Result R CallError). answer z (table_of v slots)) (sym (ap h (refused r e q) ∙ n e))

      pub looks_at : (a : R) → ((o : Open Node) → stands (image_view m) s ≡ Some o
          → f (v.label s.image) m.bytes o.place o.position ≡ Ok (a, o.position))
          → on_open over (table_of v slots) fd ≡ answer (Ok a) (table_of v slots)
      looks_at a w = call_stays v slots over fd s (held k) (Ok a)
          (in_view f v s what m k.image (held k).stands ∙ w (in_image v what) there)

  -- readdir gives a reply, and the slot then holds new
  module _ (v : View F) {slots : List (Option OpenNode)} {fd : ℕ} {s : OpenNode} {m : Image}
      (k : IsHeld v slots fd s m) {slots' : List (Option OpenNode)} (new : OpenNode)
      (q : slots' ≡ slice_set slots fd (Some new)) (r : Option (Of Named))
      (w : (o : Open Node) → stands (image_view m) s ≡ Some o
      → Moves (image_view m) o s new (readdir_on (v.label s.image) o.place o.position) (Ok r)) where
    moves : Moves v (held k).what s new
        (readdir_on (v.number (held k).what.place)
        (v.names.node (held k).what.place)
        (held k).what.position) (Ok r)
    moves = in_table (λ i b x p. readdir_on i x p) v k new (Ok r) w

    pub entry_leads : (cursor : ℕ) → cursor ≡ new.position → LeadsOn v (table_of v slots') fd new.image cursor
    entry_leads cursor e = λ o h.
        ap (v.index new.image (ino_of (v.names.node o.place))) e
        ∙ leads_on v slots slots' fd s new (held k) m r k.here q k.image moves o h

    pub name_there : (name : List ℕ) → LieIn m.bytes name → IsPartThere v (table_of v slots') fd name
    name_there name l =
        is_part v slots slots' fd s new (held k) m name moves.0 k.here q k.image
        (moves.2, moves.3) l
