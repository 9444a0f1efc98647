-- The table that slots mean, and the calls on it.
use Rattle.std.proofs.Common.{◌≡◌, ℕ, zero, suc, ◌<◌, Bool, true, false, List, [], ◌∷◌, length, get_or, Option, Some}
use Rattle.std.proofs.Common.{None, Result, Ok, Err, refl, sym, ap, ◌∙◌, subst, arith, replicate}
use Rattle.std.specs.Prelude.{slice_get, slice_set, option_and_then, is_some, ◌&&◌, position, is_none, IsErrAnd}
use Rattle.std.specs.Prelude.{MatchResult}
use Rattle.std.specs.List.{position_or_len}
use Rattle.std.proofs.lemmas.Bool.{false≢true}
use Rattle.rom_tree.specs.Tree.{ino_of, is_directory, entries_of, entry_at}
use Rattle.rom_tree.specs.Image.{LieIn, Image}
use Rattle.rom_tree.proofs.Named.{node_number}
use Rattle.path_walk.proofs.Mounts.{and_left, and_right}
use Rattle.open_files.specs.declared.error.CallError.{CallError}
use Rattle.open_files.specs.declared.error.CallError.TheVariants.{Ebadf, Enxio, Emfile}
use Rattle.open_files.specs.declared.slot.OpenNode.{OpenNode}
use Rattle.open_files.specs.Calls.{answer, refuse, give, Of, Named}
use Rattle.open_files.specs.Machine.{Open, Table, Outcome, open_at, put, opened, on_open, after, closed, lowest_free}
use Rattle.open_files.specs.Machine.{open_free, open_place, directory_only, next_entry, readdir_on}
use Rattle.open_files.specs.Slots.{IsPartThere, View, IsImage, stands, moved, Moves, LeadsOn, is_open, all_stand}
use Rattle.open_files.specs.Slots.{table_by, are_sound, table_of}
use Rattle.open_files.proofs.Standing.{none_some, IsOpen, is_open as opened_is}

pub and_both : (a b : Bool) → a ≡ true → b ≡ true → (a && b) ≡ true
and_both true b h k = k
and_both false b h k = h

some_none : {A : Type 0} (o : Option A) → is_some o ≡ true → is_none o ≡ false
some_none None h = absurd (false≢true h)
some_none (Some x) h = refl

some_by : {A : Type 0} (o : Option A) → is_some o ≡ true → (x : A) × (o ≡ Some x)
some_by None h = absurd (false≢true h)
some_by (Some x) h = (x, refl)

-- a refusal that is passed on
pub refused : {A : Type 0} (r : Result A CallError) (e : CallError) → IsErrAnd r (λ v. v ≡ e) → r ≡ Err e
refused (Ok x) e h = absurd h
refused (Err f) e h = ap (λ (v : CallError). Err v) h

module _ {F : Type 0} (f : OpenNode → Option (Open F)) where
  pub table-replicate : (n : ℕ) → table_by f (replicate n None) ≡ replicate n None
  unfolding table_by
  table-replicate zero = refl
  table-replicate (suc n) = ap (λ (v : List (Option (Open F))). None ∷ v) (table-replicate n)

  pub stand-replicate : (n : ℕ) → all_stand f (replicate n None) ≡ true
  unfolding all_stand
  stand-replicate zero = refl
  stand-replicate (suc n) = stand-replicate n

  table_set : (slots : List (Option OpenNode)) (i : ℕ) (o : Option OpenNode)
      → table_by f (slice_set slots i o) ≡ slice_set (table_by f slots) i (option_and_then f o)
  unfolding table_by
  table_set [] i o = refl
  table_set (s ∷ slots) zero o = refl
  table_set (s ∷ slots) (suc i) o = ap (λ (v : List (Option (Open F))). option_and_then f s ∷ v) (table_set slots i o)

  stand_set : (slots : List (Option OpenNode)) (i : ℕ) (o : Option OpenNode) → all_stand f slots ≡ true
      → is_open f o ≡ true → all_stand f (slice_set slots i o) ≡ true
  unfolding all_stand
  stand_set [] i o h k = refl
  stand_set (s ∷ slots) zero o h k =
      and_both (is_open f o) (all_stand f slots) k (and_right (is_open f s) (all_stand f slots) h)
  stand_set (s ∷ slots) (suc i) o h k =
      and_both (is_open f s) (all_stand f (slice_set slots i o)) (and_left (is_open f s) (all_stand f slots) h)
      (stand_set slots i o (and_right (is_open f s) (all_stand f slots) h) k)

  open_table : (slots : List (Option OpenNode)) (i : ℕ)
      → option_and_then (λ o. o) (slice_get (table_by f slots) i) ≡ option_and_then f (get_or slots i None)
  unfolding table_by
  open_table [] i = refl
  open_table (s ∷ slots) zero = refl
  open_table (s ∷ slots) (suc i) = open_table slots i

  open-table : (slots : List (Option OpenNode)) (i : ℕ)
      → open_at (table_by f slots) i ≡ option_and_then f (get_or slots i None)
  unfolding open_at
  open-table slots i = open_table slots i

  slot_is : (slots : List (Option OpenNode)) (i : ℕ) → all_stand f slots ≡ true → is_open f (get_or slots i None) ≡ true
  unfolding all_stand
  slot_is [] i h = refl
  slot_is (s ∷ slots) zero h = and_left (is_open f s) (all_stand f slots) h
  slot_is (s ∷ slots) (suc i) h = slot_is slots i (and_right (is_open f s) (all_stand f slots) h)

  put_set : (slots slots' : List (Option OpenNode)) (i : ℕ) (o : Option OpenNode) (p : Option (Open F))
      → slots' ≡ slice_set slots i o → option_and_then f o ≡ p → put (table_by f slots) i p ≡ table_by f slots'
  unfolding put
  put_set slots slots' i o p e q =
      ap (slice_set (table_by f slots) i) (sym q) ∙ (sym (table_set slots i o) ∙ ap (table_by f) (sym e))

  set_stands : (slots slots' : List (Option OpenNode)) (i : ℕ) (o : Option OpenNode) → all_stand f slots ≡ true
      → slots' ≡ slice_set slots i o → is_open f o ≡ true → all_stand f slots' ≡ true
  set_stands slots slots' i o h e k = ap (all_stand f) e ∙ stand_set slots i o h k

  none_is : (s : Option OpenNode) → is_open f s ≡ true → is_none (option_and_then f s) ≡ is_none s
  none_is None h = refl
  none_is (Some s) h = some_none (f s) h

  table_length : (slots : List (Option OpenNode)) → length (table_by f slots) ≡ length slots
  unfolding table_by
  table_length [] = refl
  table_length (s ∷ slots) = ap suc (table_length slots)

  free_at : (slots : List (Option OpenNode)) → all_stand f slots ≡ true
      → position_or_len is_none (table_by f slots) ≡ position_or_len is_none slots
  unfolding table_by all_stand
  free_at [] h = refl
  free_at (s ∷ slots) h =
      let k : is_none (option_and_then f s) ≡ is_none s = none_is s (and_left (is_open f s) (all_stand f slots) h) in
      let r = free_at slots (and_right (is_open f s) (all_stand f slots) h) in
      rw (k, r) refl

  lowest-is : (slots : List (Option OpenNode)) → all_stand f slots ≡ true
      → lowest_free (table_by f slots) ≡ position is_none slots
  unfolding lowest_free
  lowest-is slots h = rw (free_at slots h, table_length slots) refl

-- a write of what is there
put_same : {F : Type 0} (t : Table F) (i : ℕ) (o : Open F) → open_at t i ≡ Some o → put t i (Some o) ≡ t
unfolding put open_at
put_same [] i o h = absurd (none_some o h)
put_same (None ∷ t) zero o h = absurd (none_some o h)
put_same {F} (Some p ∷ t) zero o h = ap (λ (v : Option (Open F)). v ∷ t) (sym h)
put_same {F} (p ∷ t) (suc i) o h = ap (λ (v : Table F). p ∷ v) (put_same t i o h)

module _ {F : Type 0} (v : View F) (slots : List (Option OpenNode)) where
  -- what a slot has open
  pub record HasOpen (fd : ℕ) (s : OpenNode) : Type 0 where
    pub what : Open F
    pub stands : stands v s ≡ Some what
    pub opened : open_at (table_of v slots) fd ≡ Some what

  pub has_open : (fd : ℕ) (s : OpenNode) → are_sound v slots ≡ true → get_or slots fd None ≡ Some s → HasOpen fd s
  has_open fd s h e =
      let P : Option OpenNode → Type 0 = λ w. is_open (stands v) w ≡ true in
      let r = some_by (stands v s) (subst P e (slot_is (stands v) slots fd h)) in
      record {
        what = r.0;
        stands = r.1;
        opened = open-table (stands v) slots fd ∙ (ap (option_and_then (stands v)) e ∙ r.1);
      }

  none_open : (fd : ℕ) → get_or slots fd None ≡ None → open_at (table_of v slots) fd ≡ None
  none_open fd e = open-table (stands v) slots fd ∙ ap (option_and_then (stands v)) e

  -- calls on a descriptor
  module _ {R : Type 0} (f : F → ℕ → Outcome R) (fd : ℕ) where
    pub call_none : (r : Result R CallError) → get_or slots fd None ≡ None → r ≡ Err Ebadf
        → on_open f (table_of v slots) fd ≡ answer r (table_of v slots)
    call_none r e q = ap (opened (table_of v slots) fd f) (none_open fd e)
        ∙ ap (λ (w : Result R CallError). answer w (table_of v slots)) (sym q)

    call_some : (o : Open F) → open_at (table_of v slots) fd ≡ Some o
        → on_open f (table_of v slots) fd ≡ after (table_of v slots) fd o.place (f o.place o.position)
    call_some o e = ap (opened (table_of v slots) fd f) e

    -- a call that leaves the position
    pub call_stays : (s : OpenNode) (k : HasOpen fd s) (r : Result R CallError)
        → MatchResult r (λ a. f k.what.place k.what.position ≡ Ok (a, k.what.position))
        (λ e. f k.what.place k.what.position ≡ Err e)
        → on_open f (table_of v slots) fd ≡ answer r (table_of v slots)
    call_stays s k (Ok a) h = call_some k.what k.opened
        ∙ (ap (after (table_of v slots) fd k.what.place) h
        ∙ ap (λ (w : Table F). give a w) (put_same (table_of v slots) fd k.what k.opened))
    call_stays s k (Err e) h = call_some k.what k.opened ∙ ap (after (table_of v slots) fd k.what.place) h

    -- a call that is refused
    pub call_refused : (s new : OpenNode) (k : HasOpen fd s) (e : CallError)
        → Moves v k.what s new (f k.what.place k.what.position) (Err e)
        → on_open f (table_of v slots) fd ≡ answer (Err e) (table_of v slots)
    call_refused s new k e h = call_stays s k (Err e) h.0

    -- a call that moves the position
    pub call_moves : (slots' : List (Option OpenNode)) (s new : OpenNode) (k : HasOpen fd s) (a : R)
        → Moves v k.what s new (f k.what.place k.what.position) (Ok a) → slots' ≡ slice_set slots fd (Some new)
        → on_open f (table_of v slots) fd ≡ answer (Ok a) (table_of v slots')
    call_moves slots' s new k a h e =
        call_some k.what k.opened ∙ (ap (after (table_of v slots) fd k.what.place) h.1
        ∙ ap (λ (w : Table F). give a w) (put_set (stands v) slots slots' fd (Some new)
        (Some (moved k.what h.0)) e h.2))

    pub moves_sound : (slots' : List (Option OpenNode)) (s new : OpenNode) (k : HasOpen fd s) (a : R)
        → Moves v k.what s new (f k.what.place k.what.position) (Ok a) → slots' ≡ slice_set slots fd (Some new)
        → are_sound v slots ≡ true → are_sound v slots' ≡ true
    moves_sound slots' s new k a h e g = set_stands (stands v) slots slots' fd (Some new) g e (ap is_some h.2)

  pub close_none : (fd : ℕ) (r : Result (Unit {0}) CallError) → get_or slots fd None ≡ None → r ≡ Err Ebadf
      → closed (table_of v slots) fd (open_at (table_of v slots) fd) ≡ answer r (table_of v slots)
  close_none fd r e q = ap (closed (table_of v slots) fd) (none_open fd e)
      ∙ ap (λ (w : Result (Unit {0}) CallError). answer w (table_of v slots)) (sym q)

  pub close_some : (slots' : List (Option OpenNode)) (fd : ℕ) (s : OpenNode) → HasOpen fd s
      → slots' ≡ slice_set slots fd None
      → closed (table_of v slots) fd (open_at (table_of v slots) fd) ≡ give tt (table_of v slots')
  close_some slots' fd s k e = ap (closed (table_of v slots) fd) k.opened
      ∙ ap (λ (w : Table F). give tt w) (put_set (stands v) slots slots' fd None None e refl)

  pub close_sound : (slots' : List (Option OpenNode)) (fd : ℕ) → slots' ≡ slice_set slots fd None
      → are_sound v slots ≡ true → are_sound v slots' ≡ true
  close_sound slots' fd e g = set_stands (stands v) slots slots' fd None g e refl

  -- opening
  pub open_not : (x : F) (b : Bool) → b ≡ false → open_place (table_of v slots) x b ≡ refuse Enxio (table_of v slots)
  open_not x b e = ap (open_place (table_of v slots) x) e

  pub open_full : (x : F) (b : Bool) → are_sound v slots ≡ true → b ≡ true → None ≡ position is_none slots
      → open_place (table_of v slots) x b ≡ refuse Emfile (table_of v slots)
  open_full x b h e n = ap (open_place (table_of v slots) x) e
      ∙ ap (open_free (table_of v slots) x) (lowest-is (stands v) slots h ∙ sym n)

  pub open_lowest : (slots' : List (Option OpenNode)) (x : F) (b : Bool) (i : ℕ) (s : OpenNode)
      → are_sound v slots ≡ true → b ≡ true → Some i ≡ position is_none slots
      → slots' ≡ slice_set slots i (Some s) → stands v s ≡ Some (record { place = x; position = 0 })
      → open_place (table_of v slots) x b ≡ give i (table_of v slots')
  open_lowest slots' x b i s h e n w k =
      ap (open_place (table_of v slots) x) e
      ∙ (ap (open_free (table_of v slots) x) (lowest-is (stands v) slots h ∙ sym n)
      ∙ ap (λ (t : Table F). give i t) (put_set (stands v) slots slots' i (Some s)
      (Some (record { place = x; position = 0 })) w k))

  pub open_sound : (slots' : List (Option OpenNode)) (i : ℕ) (s : OpenNode) (o : Open F)
      → slots' ≡ slice_set slots i (Some s) → stands v s ≡ Some o → are_sound v slots ≡ true → are_sound v slots' ≡ true
  open_sound slots' i s o e k g = set_stands (stands v) slots slots' i (Some s) g e (ap is_some k)

-- where a cursor leads on

within_by : (slots : List (Option OpenNode)) (i : ℕ) (s : OpenNode) → get_or slots i None ≡ Some s → i < length slots
within_by [] i s e = absurd (none_some s e)
within_by (t ∷ slots) zero s e = omega arith
within_by (t ∷ slots) (suc i) s e = let k = within_by slots i s e in omega (arith, k)

get_set : (slots : List (Option OpenNode)) (i : ℕ) (o : Option OpenNode) → i < length slots
    → get_or (slice_set slots i o) i None ≡ o
get_set [] i o l = absurd (omega (arith, l))
get_set (s ∷ slots) zero o l = refl
get_set (s ∷ slots) (suc i) o l = get_set slots i o (omega (arith, l))

on_directory : {R : Type 0} (b : Bool) (a : Outcome R) (r : R × ℕ) → directory_only b a ≡ Ok r → b ≡ true
on_directory true a r e = refl
on_directory false a r e = absurd (cc)

module _ {F : Type 0} (v : View F) where
  pub leads_on : (slots slots' : List (Option OpenNode)) (fd : ℕ) (s new : OpenNode) (k : HasOpen v slots fd s)
      (m : Image) (r : Option (Of Named)) → get_or slots fd None ≡ Some s
      → slots' ≡ slice_set slots fd (Some new) → IsImage v s.image m
      → Moves v k.what s new (readdir_on (v.number k.what.place) (v.names.node k.what.place) k.what.position) (Ok r)
      → LeadsOn v (table_of v slots') fd new.image new.position
  leads_on slots slots' fd s new k m r g e i w =
      λ o h.
      let n : get_or slots' fd None ≡ Some new =
      ap (λ (z : List (Option OpenNode)). get_or z fd None) e
      ∙ get_set slots fd (Some new) (within_by slots fd s g) in
      let a : stands v new ≡ Some o = sym (open-table (stands v) slots' fd ∙ ap (option_and_then (stands v)) n) ∙ h in
      let j : IsOpen v new o = opened_is v new o a in
      let q : moved k.what w.0 ≡ o = (let z : Some (moved k.what w.0) ≡ Some o = sym w.2 ∙ a in cc) in
      let d : is_directory (v.names.node o.place) ≡ true =
      ap (λ (z : Open F). is_directory (v.names.node z.place)) (sym q)
      ∙ on_directory (is_directory (v.names.node k.what.place))
      (next_entry (v.number k.what.place) k.what.position
      (entry_at (entries_of (v.names.node k.what.place)) k.what.position)) (r, w.0) w.1 in
      let P : ℕ → Type 0 = λ z. IsImage v z m in
      let b : ino_of (v.names.node o.place) ≡ new.node.0 =
      node_number m new.node.0 (v.names.node o.place) ((subst P (sym w.3) i).node new.node.0 o.place j.place) in
      ap (λ (z : ℕ). v.index new.image z new.position) b ∙ j.directory d

  pub is_part : (slots slots' : List (Option OpenNode)) (fd : ℕ) (s new : OpenNode) (k : HasOpen v slots fd s)
      (m : Image) (name : List ℕ) (q : ℕ)
      → get_or slots fd None ≡ Some s → slots' ≡ slice_set slots fd (Some new) → IsImage v s.image m
      → (stands v new ≡ Some (moved k.what q)) × (new.image ≡ s.image) → LieIn m.bytes name
      → IsPartThere v (table_of v slots') fd name
  is_part slots slots' fd s new k m name q g e i w p =
      λ o h.
      let n : get_or slots' fd None ≡ Some new =
      ap (λ (z : List (Option OpenNode)). get_or z fd None) e
      ∙ get_set slots fd (Some new) (within_by slots fd s g) in
      let a : stands v new ≡ Some o = sym (open-table (stands v) slots' fd ∙ ap (option_and_then (stands v)) n) ∙ h in
      let j : IsOpen v new o = opened_is v new o a in
      let P : ℕ → Type 0 = λ z. IsImage v z m in
      let b : v.names.bytes o.place ≡ m.bytes = (subst P (sym w.1) i).bytes new.node.0 o.place j.place in
      subst (λ (z : List ℕ). LieIn z name) (sym b) p
