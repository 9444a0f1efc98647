-- The names of the tree have records of the list.
use Rattle.std.proofs.Common.{◌≡◌, ◌≢◌, ◌≤◌, ◌<◌, ◌⊎◌, ℕ, suc, ◌+◌, true, false, List, [], ◌∷◌, ◌++◌}
use Rattle.std.proofs.Common.{length, length-append, Some, refl, sym, ap, subst, ◌∙◌, arith, inl, inr}
use Rattle.std.proofs.Common.{append_assoc}
use Rattle.std.specs.List.{AllByRecursion as Every}
use Rattle.std.specs.Prelude.{slice_get}
use Rattle.record_forest.proofs.Lists.{every_join}
use Rattle.record_forest.specs.Forest.{Forest, none, at, count}
use Rattle.rom_tree.specs.Names.{Name, named as a_name, node_names, entries_names}
use Rattle.rom_tree.specs.Tree.{Entries, no_entries, entries_depth}
use Rattle.image_extents.specs.declared.extent.Record.{Record}
use Rattle.image_extents.specs.Listed.{listed, path_in}
use Rattle.image_extents.proofs.Named.{Format, AreOpen, IsOpen, Stated, after_deep, at_index, entry_of, length_listed}
use Rattle.image_extents.proofs.Named.{own_deep, shown_names, stated_more}

no_names : (P : List ℕ) → entries_names P no_entries ≡ []
unfolding node_names
no_names P = refl

module _ (F : Format) (rs : List Record)
    (leaf : (path : List ℕ) (p : ℕ) → node_names path (F.make p no_entries) ≡ []) where
  -- the name is that of a record
  pub record IsRecorded (m : Name) : Type 0 where
    pub index : ℕ
    pub live : index ≢ 0
    pub item : Record
    pub there : slice_get rs index ≡ Some item
    pub shown : F.skip item.offset ≡ false
    pub place : path_in F.bytes rs 65 index ≡ m.path
    pub own : Forest
    pub is : m.node ≡ F.make item.offset (F.entries own)

  abbrev pub Recorded : List Name → Type 0
  Recorded ns = Every IsRecorded ns

  module _ (P : List ℕ) (p : ℕ) (own after : Forest) where
    abbrev below : List Name
    below = node_names (P ++ 47 ∷ F.name p) (F.make p (F.entries own))

    below_recorded : (own ≡ none) ⊎ IsOpen F rs p own
        → (IsOpen F rs p own → Recorded (entries_names (P ++ 47 ∷ F.name p) (F.entries own))) → Recorded below
    below_recorded (inl e) h =
        let z : F.entries own ≡ no_entries = ap F.entries e ∙ F.nothing in
        subst Recorded (sym (ap (λ (v : Entries). node_names (P ++ 47 ∷ F.name p) (F.make p v)) z
        ∙ leaf (P ++ 47 ∷ F.name p) p)) tt
    below_recorded (inr o) h = subst Recorded (sym (o.below (P ++ 47 ∷ F.name p))) (h o)

    all_recorded : (F.skip p ≡ false → IsRecorded (a_name (P ++ 47 ∷ F.name p) (F.name p) (F.make p (F.entries own))))
        → Recorded below → Recorded (entries_names P (F.entries after))
        → Recorded (entries_names P (F.entries (at p own after)))
    all_recorded first h k = elim (F.skip p) as
        (λ v. F.skip p ≡ v → Recorded (entries_names P (F.entries (at p own after)))) [
          | true ↦ λ s. subst (λ (v : Entries). Recorded (entries_names P v)) (sym (F.skipped p own after s)) k
          | false ↦ λ s. subst Recorded (sym (shown_names F rs P p own after s))
              (first s, every_join IsRecorded below (entries_names P (F.entries after)) h k)
        ] refl

  pub are_recorded : (n d m : ℕ) (P : List ℕ) (f : Forest) (before after : List Record)
      → rs ≡ before ++ (listed (entry_of F rs) n d f ++ after) → length before ≡ n → 0 < n → Stated F rs d P m
      → entries_depth (F.entries f) + m ≤ 64 → AreOpen F rs f → Recorded (entries_names P (F.entries f))
  are_recorded n d m P none before after is l some st deep k =
      subst (λ (v : Entries). Recorded (entries_names P v)) (sym F.nothing) (subst Recorded (sym (no_names P)) tt)
  are_recorded n d m P (at p own rest) before after is l some st deep k =
      let x : Record = entry_of F rs p d in
      let own_list : List Record = listed (entry_of F rs) (suc n) n own in
      let rest_list : List Record = listed (entry_of F rs) (suc n + count own) d rest in
      let get : slice_get rs n ≡ Some x = ap (λ (v : List Record). slice_get v n) is
      ∙ (ap (λ (v : ℕ). slice_get (before ++ x ∷ ((own_list ++ rest_list) ++ after)) v) (sym l)
      ∙ at_index before x ((own_list ++ rest_list) ++ after)) in
      let live : n ≢ 0 = λ z. absurd (omega (arith, some, z)) in
      let here : Stated F rs n (P ++ 47 ∷ F.name p) (suc m) = stated_more F rs n d m p P live get st in
      let rest_deep = after_deep F rs P p own rest in
      let c = length_listed F rs (suc n) n own in
      let one : rs ≡ (before ++ x ∷ []) ++ (own_list ++ (rest_list ++ after)) =
      is ∙ (ap (λ (v : List Record). before ++ x ∷ v) (append_assoc own_list rest_list after)
      ∙ sym (append_assoc before (x ∷ []) (own_list ++ (rest_list ++ after)))) in
      let one_long : length (before ++ x ∷ []) ≡ suc n =
      (let a = length-append before (x ∷ []) in omega (arith, a, l)) in
      let two : rs ≡ ((before ++ x ∷ []) ++ own_list) ++ (rest_list ++ after) =
      one ∙ sym (append_assoc (before ++ x ∷ []) own_list (rest_list ++ after)) in
      let two_long : length ((before ++ x ∷ []) ++ own_list) ≡ suc n + count own =
      (let a = length-append (before ++ x ∷ []) own_list in omega (arith, a, one_long, c)) in
      all_recorded P p own rest
      (λ s. record {
        index = n;
        live = live;
        item = x;
        there = get;
        shown = s;
        place = here 65 (omega (arith, deep));
        own = own;
        is = refl;
      })
      (below_recorded P p own rest k.0 (λ o.
      let low = own_deep F rs P p own rest o in
      are_recorded (suc n) n (suc m) (P ++ 47 ∷ F.name p) own (before ++ x ∷ []) (rest_list ++ after) one one_long
      (omega arith) here (omega (arith, deep, low)) k.1))
      (are_recorded (suc n + count own) d m P rest ((before ++ x ∷ []) ++ own_list) after two two_long
      (omega arith) st (omega (arith, deep, rest_deep)) k.2)
