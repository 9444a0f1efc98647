-- The records of a list have the names of the tree.
use Rattle.std.proofs.Common.{◌≡◌, ◌≢◌, ◌≤◌, ◌<◌, ◌⊎◌, ℕ, zero, suc, ◌+◌, Bool, true, false, List, [], ◌∷◌, ◌++◌}
use Rattle.std.proofs.Common.{length, length-append, take, drop, Some, refl, sym, ap, subst, ◌∙◌, arith, inl, inr}
use Rattle.std.proofs.Common.{append_assoc}
use Rattle.std.proofs.lemmas.Bool.{ne_eqb}
use Rattle.std.proofs.lemmas.List.Elements.{Contains-append_left, Contains-append_right}
use Rattle.std.specs.List.{Contains}
use Rattle.std.specs.Prelude.{slice_get}
use Rattle.record_forest.specs.Forest.{Forest, none, at, count}
use Rattle.rom_tree.specs.Names.{Name, named as a_name, path_below, node_names, entries_names}
use Rattle.rom_tree.specs.Tree.{Node, Entries, no_entries, entry, depth, entries_depth}
use Rattle.image_extents.specs.declared.extent.Record.{Record}
use Rattle.image_extents.specs.Listed.{listed, path_in}

-- the records and the names of a format
pub record Format : Type 0 where
  pub bytes : List ℕ
  -- where the name of a record is, and how long it is
  pub start : ℕ → ℕ
  pub len : ℕ → ℕ
  pub name : ℕ → List ℕ
  -- a record that has no name in the tree
  pub skip : ℕ → Bool
  pub make : ℕ → Entries → Node
  pub entries : Forest → Entries
  pub cut : (p : ℕ) → take (len p) (drop (start p) bytes) ≡ name p
  pub nothing : entries none ≡ no_entries
  pub skipped : (p : ℕ) (own after : Forest) → skip p ≡ true → entries (at p own after) ≡ entries after
  pub shown : (p : ℕ) (own after : Forest) → skip p ≡ false
      → entries (at p own after) ≡ entry (name p) (make p (entries own)) (entries after)

pub contains_more : {X : Type 0} (x y : X) (ys : List X) → Contains ys x → Contains (y ∷ ys) x
contains_more x y ys c = (suc c.0, (let l = c.1 in omega (arith, l)), c.2)

pub at_index : (before : List Record) (x : Record) (after : List Record)
    → slice_get (before ++ x ∷ after) (length before) ≡ Some x
at_index [] x after = refl
at_index (y ∷ ys) x after = at_index ys x after

names_of_entry : (P n : List ℕ) (x : Node) (es : Entries) → entries_names P (entry n x es)
    ≡ a_name (path_below P n) n x ∷ (node_names (path_below P n) x ++ entries_names P es)
unfolding node_names
names_of_entry P n x es = refl

module _ (F : Format) (rs : List Record) where
  abbrev pub entry_of : ℕ → ℕ → Record
  entry_of p d = record { offset = p; name = F.start p; length = F.len p; directory = d }

  -- with at least m names, the path of the d-th record is P
  abbrev pub Stated : ℕ → List ℕ → ℕ → Type 0
  Stated d P m = (most : ℕ) → m ≤ most → path_in F.bytes rs most d ≡ P

  -- the i-th record, at p, is one of the names
  pub record IsNamed (ns : List Name) (i p : ℕ) : Type 0 where
    pub name : Name
    pub among : Contains ns name
    pub path : path_in F.bytes rs 65 i ≡ name.path
    pub own : Forest
    pub node : name.node ≡ F.make p (F.entries own)

  abbrev pub Each : List Name → ℕ → List Record → Type 0
  Each ns n [] = Unit {0}
  Each ns n (x ∷ xs) = (F.skip x.offset ≡ false → IsNamed ns n x.offset) × Each ns (suc n) xs

  each_join : (ns : List Name) (n k : ℕ) (xs ys : List Record) → n + length xs ≡ k → Each ns n xs → Each ns k ys
      → Each ns n (xs ++ ys)
  each_join ns n k [] ys e h i = subst (λ (v : ℕ). Each ns v ys) (sym e ∙ (omega arith)) i
  each_join ns n k (x ∷ xs) ys e h i = (h.0, each_join ns (suc n) k xs ys (omega (arith, e)) h.1 i)

  each_more : (ns ms : List Name) → ((m : Name) → Contains ns m → Contains ms m) → (n : ℕ) (xs : List Record)
      → Each ns n xs → Each ms n xs
  each_more ns ms f n [] h = tt
  each_more ns ms f n (x ∷ xs) h = (
    λ s. let i = h.0 s in record { name = i.name; among = f i.name i.among; path = i.path; own = i.own; node = i.node },
    each_more ns ms f (suc n) xs h.1,
  )

  -- the list of the record at p is that of its node
  pub record IsOpen (p : ℕ) (own : Forest) : Type 0 where
    pub shown : F.skip p ≡ false
    pub below : (path : List ℕ) → node_names path (F.make p (F.entries own)) ≡ entries_names path (F.entries own)
    pub deep : depth (F.make p (F.entries own)) ≡ entries_depth (F.entries own)

  abbrev pub AreOpen : Forest → Type 0
  AreOpen none = Unit {0}
  AreOpen (at p own after) = ((own ≡ none) ⊎ IsOpen p own) × AreOpen own × AreOpen after

  pub stated_more : (n d m p : ℕ) (P : List ℕ) → n ≢ 0 → slice_get rs n ≡ Some (entry_of p d) → Stated d P m
      → Stated n (P ++ 47 ∷ F.name p) (suc m)
  stated_more n d m p P live get st zero l = absurd (omega (arith, l))
  stated_more n d m p P live get st (suc k) l =
      rw (ne_eqb n 0 live, get)
      (ap (λ (v : List ℕ). v ++ 47 ∷ take (F.len p) (drop (F.start p) F.bytes)) (st k (omega (arith, l)))
      ∙ ap (λ (v : List ℕ). P ++ 47 ∷ v) (F.cut p))

  pub length_listed : (n d : ℕ) (f : Forest) → length (listed entry_of n d f) ≡ count f
  length_listed n d none = refl
  length_listed n d (at p own after) =
      let a = length_listed (suc n) n own in
      let c = length_listed (suc n + count own) d after in
      let j = length-append (listed entry_of (suc n) n own) (listed entry_of (suc n + count own) d after) in
      omega (arith, a, c, j)

  module _ (P : List ℕ) (p : ℕ) (own after : Forest) where
    all_names : List Name
    all_names = entries_names P (F.entries (at p own after))

    path : List ℕ
    path = P ++ 47 ∷ F.name p

    -- the names of an entry that is shown
    pub shown_names : F.skip p ≡ false → entries_names P (F.entries (at p own after))
        ≡ a_name (P ++ 47 ∷ F.name p) (F.name p) (F.make p (F.entries own))
        ∷ (node_names (P ++ 47 ∷ F.name p) (F.make p (F.entries own)) ++ entries_names P (F.entries after))
    shown_names s = ap (entries_names P) (F.shown p own after s)
        ∙ names_of_entry P (F.name p) (F.make p (F.entries own)) (F.entries after)

    own_among : IsOpen p own → (m : Name) → Contains (entries_names (P ++ 47 ∷ F.name p) (F.entries own)) m
        → Contains (entries_names P (F.entries (at p own after))) m
    own_among o m c =
        let first : Name = a_name (P ++ 47 ∷ F.name p) (F.name p) (F.make p (F.entries own)) in
        let below : List Name = node_names (P ++ 47 ∷ F.name p) (F.make p (F.entries own)) in
        let d : Contains below m = subst (λ (v : List Name). Contains v m) (sym (o.below (P ++ 47 ∷ F.name p))) c in
        subst (λ (v : List Name). Contains v m) (sym (shown_names o.shown))
        (contains_more m first (below ++ entries_names P (F.entries after))
        (Contains-append_left below (entries_names P (F.entries after)) m d))

    after_among : (m : Name) → Contains (entries_names P (F.entries after)) m
        → Contains (entries_names P (F.entries (at p own after))) m
    after_among m c = elim (F.skip p) as
        (λ v. F.skip p ≡ v → Contains (entries_names P (F.entries (at p own after))) m) [
          | true ↦ λ s.
              subst (λ (v : Entries). Contains (entries_names P v) m) (sym (F.skipped p own after s)) c
          | false ↦ λ s.
              let below : List Name = node_names (P ++ 47 ∷ F.name p) (F.make p (F.entries own)) in
              subst (λ (v : List Name). Contains v m) (sym (shown_names s))
              (contains_more m _ (below ++ entries_names P (F.entries after))
              (Contains-append_right below (entries_names P (F.entries after)) m c))
        ] refl

    pub after_deep : entries_depth (F.entries after) ≤ entries_depth (F.entries (at p own after))
    after_deep = elim (F.skip p) as
        (λ v. F.skip p ≡ v → entries_depth (F.entries after) ≤ entries_depth (F.entries (at p own after))) [
          | true ↦ λ s. let e = ap entries_depth (F.skipped p own after s) in omega (arith, e)
          | false ↦ λ s. let e = ap entries_depth (F.shown p own after s) in omega (arith, e)
        ] refl

    pub own_deep : IsOpen p own → suc (entries_depth (F.entries own)) ≤ entries_depth (F.entries (at p own after))
    own_deep o =
        let e = ap entries_depth (F.shown p own after o.shown) in
        let d = o.deep in
        omega (arith, e, d)

    own_each : (n : ℕ) (xs : Forest → List Record) → xs none ≡ [] → (own ≡ none) ⊎ IsOpen p own
        → (IsOpen p own → Each (entries_names (P ++ 47 ∷ F.name p) (F.entries own)) n (xs own))
        → Each (entries_names P (F.entries (at p own after))) n (xs own)
    own_each n xs z (inl e) h =
        subst (λ (v : List Record). Each (entries_names P (F.entries (at p own after))) n v) (sym (ap xs e ∙ z)) tt
    own_each n xs z (inr o) h =
        each_more (entries_names (P ++ 47 ∷ F.name p) (F.entries own)) (entries_names P (F.entries (at p own after)))
        (own_among o) n (xs own) (h o)

    first_named : (n : ℕ) → path_in F.bytes rs 65 n ≡ P ++ 47 ∷ F.name p → F.skip p ≡ false
        → IsNamed (entries_names P (F.entries (at p own after))) n p
    first_named n e s = record {
      name = a_name (P ++ 47 ∷ F.name p) (F.name p) (F.make p (F.entries own));
      among = subst (λ (v : List Name). Contains v (a_name (P ++ 47 ∷ F.name p) (F.name p) (F.make p (F.entries own))))
          (sym (shown_names s)) (0, omega arith, refl);
      path = e;
      own = own;
      node = refl;
    }

  pub are_named : (n d m : ℕ) (P : List ℕ) (f : Forest) (before after : List Record)
      → rs ≡ before ++ (listed entry_of n d f ++ after) → length before ≡ n → 0 < n → Stated d P m
      → entries_depth (F.entries f) + m ≤ 64 → AreOpen f
      → Each (entries_names P (F.entries f)) n (listed entry_of n d f)
  are_named n d m P none before after is l some st deep k = tt
  are_named n d m P (at p own rest) before after is l some st deep k =
      let x : Record = entry_of p d in
      let ns : List Name = entries_names P (F.entries (at p own rest)) in
      let own_list : List Record = listed entry_of (suc n) n own in
      let rest_list : List Record = listed entry_of (suc n + count own) d rest in
      let get : slice_get rs n ≡ Some x = ap (λ (v : List Record). slice_get v n) is
      ∙ (ap (λ (v : ℕ). slice_get (before ++ x ∷ ((own_list ++ rest_list) ++ after)) v) (sym l)
      ∙ at_index before x ((own_list ++ rest_list) ++ after)) in
      let live : n ≢ 0 = λ z. absurd (omega (arith, some, z)) in
      let here : Stated n (P ++ 47 ∷ F.name p) (suc m) = stated_more n d m p P live get st in
      let rest_deep = after_deep P p own rest in
      let c = length_listed (suc n) n own in
      let one : rs ≡ (before ++ x ∷ []) ++ (own_list ++ (rest_list ++ after)) =
      is ∙ (ap (λ (v : List Record). before ++ x ∷ v) (append_assoc own_list rest_list after)
      ∙ sym (append_assoc before (x ∷ []) (own_list ++ (rest_list ++ after)))) in
      let one_long : length (before ++ x ∷ []) ≡ suc n =
      (let a = length-append before (x ∷ []) in omega (arith, a, l)) in
      let two : rs ≡ ((before ++ x ∷ []) ++ own_list) ++ (rest_list ++ after) =
      one ∙ sym (append_assoc (before ++ x ∷ []) own_list (rest_list ++ after)) in
      let two_long : length ((before ++ x ∷ []) ++ own_list) ≡ suc n + count own =
      (let a = length-append (before ++ x ∷ []) own_list in omega (arith, a, one_long, c)) in (
        first_named P p own rest n (here 65 (omega (arith, deep))),
        each_join ns (suc n) (suc n + count own) own_list rest_list (omega (arith, c))
            (own_each P p own rest (suc n) (λ f. listed entry_of (suc n) n f) refl k.0
            (λ o.
            let low = own_deep P p own rest o in
            are_named (suc n) n (suc m) (P ++ 47 ∷ F.name p) own (before ++ x ∷ []) (rest_list ++ after) one one_long
            (omega arith) here (omega (arith, deep, low)) k.1))
            (each_more (entries_names P (F.entries rest)) ns (after_among P p own rest) (suc n + count own) rest_list
            (are_named (suc n + count own) d m P rest ((before ++ x ∷ []) ++ own_list) after two two_long
            (omega arith) st
            (omega (arith, deep, rest_deep)) k.2)),
      )
