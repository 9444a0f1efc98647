-- The marks of the names that repeat an earlier one, name by name in their order.
use Rattle.std.proofs.Common.{◌≡◌, ℕ, ◌+◌, ◌-◌, ◌<◌, ◌≤◌, Bool, true, false, List, [], ◌∷◌, length, get_or, inl, inr}
use Rattle.std.proofs.Common.{refl, sym, ap, subst, ◌∙◌, arith, IsPermutation, slice_set}
use Rattle.std.proofs.lemmas.Bool.{cases_eq, cases_lt, true≢false}
use Rattle.std.proofs.lemmas.List.{get_or_default}
use Rattle.std.proofs.lemmas.List.Elements.{Contains-get_or}
use Rattle.std.proofs.lemmas.List.Sorted.{Contains-permutation, IsPermutation-sym}
use Rattle.std.proofs.Math.Seq.{get_or-set_same, get_or-set_other}
use Rattle.std.proofs.Math.ListN.{length-set}
use Rattle.std.specs.List.Sorted.{IsSorted}
use Rattle.std.specs.Cmp.Lexicographic.{slice_cmp}
use Rattle.std.specs.Ordering.{nat_cmp, ordering_then, is_lt}
use Rattle.std.specs.declared.cmp.Ordering.{Ordering}
use Rattle.std.specs.declared.cmp.Ordering.TheVariants.{Less, Equal, Greater}
use Rattle.record_forest.specs.declared.listed.ListedName.{ListedName}
use Rattle.record_forest.specs.Listed.{AreNumbered, AreAlike, Repeats, MarksRepeats}
use Rattle.record_forest.proofs.Marks.{by_place, found, earlier}

abbrev pub list_of : ListedName → ℕ
list_of x = x.list

abbrev pub name_of : ListedName → List ℕ
name_of x = x.name.now

abbrev pub index_of : ListedName → ℕ
index_of x = x.index

-- the order of lists, names and indices
abbrev pub place_order : ListedName → ListedName → Ordering
place_order = by_place list_of name_of index_of

-- the same, as the fields are compared one after the other
abbrev pub field_order : ListedName → ListedName → Ordering
field_order x y = ordering_then (nat_cmp x.list y.list)
    (ordering_then (slice_cmp nat_cmp x.name.now y.name.now) (nat_cmp x.index y.index))

then_assoc : (a b c : Ordering) → ordering_then (ordering_then a b) c ≡ ordering_then a (ordering_then b c)
then_assoc Less b c = refl
then_assoc Equal b c = refl
then_assoc Greater b c = refl

pub places_sorted : (ys : List ListedName) → IsSorted field_order ys → IsSorted place_order ys
places_sorted ys up k d o l =
    let x = get_or ys (k + 1) d in
    let y = get_or ys k d in
    ap is_lt (then_assoc (nat_cmp x.list y.list) (slice_cmp nat_cmp x.name.now y.name.now) (nat_cmp x.index y.index))
    ∙ up k d o l

-- Of the sorted names ys, the neighbours below i were looked at.
pub record Marked (xs ys : List ListedName) (marks : List Bool) (i : ℕ) : Type 0 where
  pub count : length marks ≡ length xs
  pub set : (k : ℕ) → k < length xs → get_or marks k false ≡ true → Repeats xs k
  pub seen : (k : ℕ) (d : ListedName) → k + 1 < i → AreAlike (get_or ys k d) (get_or ys (k + 1) d)
      → get_or marks (get_or ys (k + 1) d).index false ≡ true

-- a name of a list that has some
pub some : (xs : List ListedName) (k : ℕ) → k < length xs → ListedName
some [] k l = absurd (omega arith)
some (x ∷ xs) k l = x

-- the index of a sorted name before the sort
place_of : (xs ys : List ListedName) → AreNumbered xs → IsPermutation xs ys → (m : ℕ) (d : ListedName) → m < length ys
    → ((get_or ys m d).index < length xs) × ((e : ListedName) → get_or xs (get_or ys m d).index e ≡ get_or ys m d)
place_of xs ys own p m d l =
    let y : ListedName = get_or ys m d in
    let c = Contains-permutation ys xs y (IsPermutation-sym xs ys p) (Contains-get_or ys m d l) in
    let n : y.index ≡ c.0 = ap (λ (v : ListedName). v.index) (sym c.2) ∙ own c.0 y c.1 in (
      subst (λ (k : ℕ). k < length xs) (sym n) c.1,
      λ e. ap (λ (k : ℕ). get_or xs k e) n ∙ get_or_default xs c.0 e y c.1 ∙ c.2,
    )

module _ (xs ys : List ListedName) (own : AreNumbered xs) (p : IsPermutation xs ys) (up : IsSorted place_order ys) where
  -- no pair of neighbours was looked at
  pub marked_start : (marks : List Bool) → length marks ≡ length xs
      → ((k : ℕ) → k < length xs → get_or marks k false ≡ false) → Marked xs ys marks 1
  marked_start marks n h = record {
    count = n;
    set = λ k l e. absurd (true≢false (sym e ∙ h k l));
    seen = λ k d l a. absurd (omega arith);
  }

  -- the next two differ
  pub marked_apart : (marks : List Bool) (i : ℕ) (d : ListedName) → 1 ≤ i
      → (AreAlike (get_or ys (i - 1) d) (get_or ys i d) → ⊥) → i < length ys → Marked xs ys marks i
      → Marked xs ys marks (i + 1)
  marked_apart marks i d o n l w = record {
    count = w.count;
    set = w.set;
    seen = λ k e b a. elim (cases_lt (k + 1) i) [
      | inl c ↦ w.seen k e c a
      | inr c ↦
          let is : k + 1 ≡ i = omega arith in
          let before : k ≡ i - 1 = omega arith in
          let one : get_or ys k e ≡ get_or ys (i - 1) d =
          get_or_default ys k e d (omega arith) ∙ ap (λ (v : ℕ). get_or ys v d) before in
          let other : get_or ys (k + 1) e ≡ get_or ys i d =
          get_or_default ys (k + 1) e d (omega arith) ∙ ap (λ (v : ℕ). get_or ys v d) is in
          absurd (n (subst (λ (v : ListedName). AreAlike v (get_or ys i d)) one
          (subst (AreAlike (get_or ys k e)) other a)))
    ];
  }

  -- the next two are alike, and the later one is marked
  pub marked_alike : (marks : List Bool) (i : ℕ) (d : ListedName) → 1 ≤ i
      → AreAlike (get_or ys (i - 1) d) (get_or ys i d) → i < length ys → Marked xs ys marks i
      → Marked xs ys (slice_set marks (get_or ys i d).index true) (i + 1)
  marked_alike marks i d o a l w = record {
    count = length-set marks here.index true ∙ w.count;
    set = λ k m e. elim (cases_eq k here.index) [
      | inl q ↦ subst (Repeats xs) (sym q) repeats
      | inr q ↦ w.set k m (sym (get_or-set_other marks here.index k true false q) ∙ e)
    ];
    seen = λ k e b h. elim (cases_lt (k + 1) i) [
      | inl c ↦
          let u : ListedName = get_or ys (k + 1) e in
          elim (cases_eq u.index here.index) [
            | inl q ↦ (ap (λ (v : ℕ). get_or (slice_set marks here.index true) v false) q
                ∙ get_or-set_same marks here.index true false room)
            | inr q ↦ (get_or-set_other marks here.index u.index true false q ∙ w.seen k e c h)
          ]
      | inr c ↦
          let is : k + 1 ≡ i = omega arith in
          let other : get_or ys (k + 1) e ≡ here =
          get_or_default ys (k + 1) e d (omega arith) ∙ ap (λ (v : ℕ). get_or ys v d) is in
          ap (λ (v : ListedName). get_or (slice_set marks here.index true) v.index false) other
          ∙ get_or-set_same marks here.index true false room
    ];
  }
    where
      here : ListedName
      here = get_or ys i d

      before : ListedName
      before = get_or ys (i - 1) d

      there : (here.index < length xs) × ((e : ListedName) → get_or xs here.index e ≡ here)
      there = place_of xs ys own p i d l

      room : here.index < length marks
      room = subst (λ (v : ℕ). here.index < v) (sym w.count) there.0

      next : i - 1 + 1 ≡ i
      next = omega arith

      neighbour : get_or ys (i - 1 + 1) d ≡ here
      neighbour = ap (λ (v : ℕ). get_or ys v d) next

      lesser : before.index < here.index
      lesser = subst (λ (v : ListedName). before.index < v.index) neighbour
          (earlier list_of name_of index_of xs ys p up own (i - 1) d (omega arith)
          (subst (AreAlike before) (sym neighbour) a))

      first : (before.index < length xs) × ((e : ListedName) → get_or xs before.index e ≡ before)
      first = place_of xs ys own p (i - 1) d (omega arith)

      repeats : Repeats xs here.index
      repeats = (
        before.index,
        lesser,
        λ e. subst (AreAlike (get_or xs before.index e)) (sym (there.1 e))
            (subst (λ (v : ListedName). AreAlike v here) (sym (first.1 e)) a),
      )

  -- the same of two names that were read
  pub next_apart : (marks : List Bool) (i : ℕ) (one other : ListedName) → 1 ≤ i → i < length ys
      → one ≡ get_or ys (i - 1) one → other ≡ get_or ys i other → (AreAlike one other → ⊥)
      → Marked xs ys marks i → Marked xs ys marks (i + 1)
  next_apart marks i one other o l e f n w =
      let first : get_or ys (i - 1) other ≡ one = get_or_default ys (i - 1) other one (omega arith) ∙ sym e in
      marked_apart marks i other o (λ a. n
      (subst (λ (v : ListedName). AreAlike v other) first
      (subst (AreAlike (get_or ys (i - 1) other)) (sym f) a))) l w

  pub next_alike : (marks : List Bool) (i : ℕ) (one other : ListedName) → 1 ≤ i → i < length ys
      → one ≡ get_or ys (i - 1) one → other ≡ get_or ys i other → AreAlike one other
      → Marked xs ys marks i → Marked xs ys (slice_set marks other.index true) (i + 1)
  next_alike marks i one other o l e f a w =
      let first : get_or ys (i - 1) other ≡ one = get_or_default ys (i - 1) other one (omega arith) ∙ sym e in
      let both : AreAlike (get_or ys (i - 1) other) (get_or ys i other) =
      subst (λ (v : ListedName). AreAlike v (get_or ys i other)) (sym first) (subst (AreAlike one) f a) in
      subst (λ (v : ListedName). Marked xs ys (slice_set marks v.index true) (i + 1)) (sym f)
      (marked_alike marks i other o both l w)

  pub next_within : (marks : List Bool) (i : ℕ) (other : ListedName) → i < length ys → other ≡ get_or ys i other
      → Marked xs ys marks i → other.index < length marks
  next_within marks i other l f w =
      let t = place_of xs ys own p i other l in
      subst (λ (v : ℕ). other.index < v) (sym w.count) (subst (λ (v : ListedName). v.index < length xs) (sym f) t.0)

  -- all neighbours were looked at
  pub marked_end : (marks : List Bool) (i : ℕ) → length ys ≤ i → Marked xs ys marks i → MarksRepeats xs marks
  marked_end marks i l w = record {
    count = w.count;
    set = w.set;
    clear = λ k m e r.
        let d : ListedName = some xs k m in
        let f = found list_of name_of index_of xs ys p up k r.0 d m r.1 (own k d m)
        (own r.0 d (let u = r.1 in omega arith)) (r.2 d) in
        let there : (get_or ys (f.0 + 1) d).index ≡ k = ap (λ (v : ListedName). v.index) f.2 ∙ own k d m in
        let marked : get_or marks k false ≡ true =
        ap (λ (v : ℕ). get_or marks v false) (sym there) ∙ w.seen f.0 d (let u = f.1 in omega arith) f.3 in
        true≢false (sym marked ∙ e);
  }
