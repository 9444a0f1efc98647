-- What the later phases find among the rows of a forest is what the fault set says of references and records.
use Rattle.std.proofs.Common.{◌≡◌, ◌≢◌, ℕ, ◌<◌, true, List, [], ◌∷◌, ◌++◌, drop, Option, None, Some, ◌⊎◌, inl, inr}
use Rattle.std.proofs.Common.{refl, sym, ap, subst, ◌∙◌, arith}
use Rattle.std.proofs.lemmas.Bool.Decides.{eqb_tells}
use Rattle.std.specs.Prelude.{IsSomeAnd}
use Rattle.std.specs.List.{AllByRecursion as Every}
use Rattle.rom_fields.specs.declared.fault.Fault.{Fault}
use Rattle.record_forest.specs.declared.reference.Row.{Row}
use Rattle.record_forest.specs.Members.{Has, Pairs}
use Rattle.record_forest.specs.Forest.{Forest, all_rows, IsForest}
use Rattle.record_forest.specs.Faults.{InList, HasDepth}
use Rattle.record_forest.proofs.Lists.{every_both, has_every, has_cases, pairs_cross, pairs_left, pairs_right}
use Rattle.record_forest.proofs.Place.{one_depth}
use Rattle.record_forest.proofs.Back.{clean_of}
use Rattle.record_forest.proofs.Exact.{has_member, member_every, every_here, split_at, FoundAt}
use Rattle.record_forest.proofs.Decided.{same_or_not}
use Rattle.cramfs_format.specs.declared.order.Order.{Order}
use Rattle.cramfs_format.specs.Inode.{name_of}
use Rattle.cramfs_format.specs.Refers.{references, LeadsToSound}
use Rattle.cramfs_format.specs.Tree.{precedes, is_sorted, IsNoDot}
use Rattle.rom_tree.specs.Dots.{dot, dot_dot}
use Rattle.cramfs_format.specs.Faults.{IsListed, ComesNext, ComesAfter, next, HasDepthFault, HasNameFault}
use Rattle.cramfs_format.specs.Faults.{repeated as set_repeated, dots as set_dots, unsorted as set_unsorted}
use Rattle.cramfs_format.proofs.Lawful.{references_lawful}
use Rattle.cramfs_format.proofs.Named.{Rises, rows_listed, listed_in, rows_rise, comes_between, comes_rises}
use Rattle.cramfs_format.proofs.Named.{comes_listed, comes_from, next_listed, next_closest, none_between}
use Rattle.cramfs_image.specs.Phases.{IsTooDeep, last_name, IsUnsorted, IsNameFault, repeated, dots, unsorted}

-- the last of these rows that is in the list of this directory
pub record IsLast (o : Order) (b : List ℕ) (d : ℕ) (xs : List Row) (name : List ℕ) : Type 0 where
  pub before : List Row
  pub row : Row
  pub after : List Row
  pub among : xs ≡ before ++ row ∷ after
  pub directory : row.directory ≡ d
  pub named : name ≡ name_of o b row.offset
  pub last : Every (λ (y : Row). y.directory ≢ d) after

-- a last name is that of the last row, or of none
abbrev pub HasLast : Order → List ℕ → ℕ → Option (List ℕ) → List Row → Type 0
HasLast o b d noted xs =
    ((last_name o b d noted xs ≡ noted) × Every (λ (y : Row). y.directory ≢ d) xs)
    ⊎ ((name : List ℕ) × (last_name o b d noted xs ≡ Some name) × IsLast o b d xs name)

last_further : (o : Order) (b : List ℕ) (d : ℕ) (x : Row) (xs : List Row) (name : List ℕ) → IsLast o b d xs name
    → IsLast o b d (x ∷ xs) name
last_further o b d x xs name l =
    record {
      before = x ∷ l.before;
      row = l.row;
      after = l.after;
      among = ap (λ (ys : List Row). x ∷ ys) l.among;
      directory = l.directory;
      named = l.named;
      last = l.last;
    }

last_by : (o : Order) (b : List ℕ) (d : ℕ) (noted : Option (List ℕ)) (x : Row) (xs : List Row)
    → (x.directory ≡ d → HasLast o b d (Some (name_of o b x.offset)) xs) → (x.directory ≢ d → HasLast o b d noted xs)
    → HasLast o b d noted (x ∷ xs)
last_by o b d noted x xs here there = elim (eqb_tells x.directory d) [
  | inl e ↦ elim (here e.1) [
    | inl k ↦ inr (
      name_of o b x.offset,
      rw e.0 k.0,
      record { before = []; row = x; after = xs; among = refl; directory = e.1; named = refl; last = k.1 },
    )
    | inr k ↦ inr (k.0, rw e.0 k.1, last_further o b d x xs k.0 k.2)
  ]
  | inr e ↦ elim (there e.1) [
    | inl k ↦ inl (rw e.0 k.0, (e.1, k.1))
    | inr k ↦ inr
        (k.0, rw e.0 k.1, last_further o b d x xs k.0 k.2)
  ]
]

last_cases : (o : Order) (b : List ℕ) (d : ℕ) (noted : Option (List ℕ)) (xs : List Row) → HasLast o b d noted xs
last_cases o b d noted [] = inl (refl, tt)
last_cases o b d noted (x ∷ xs) =
    last_by o b d noted x xs (λ e. last_cases o b d (Some (name_of o b x.offset)) xs) (λ e. last_cases o b d noted xs)

-- a row at this offset, in the list of this directory
abbrev pub IsAt : ℕ → ℕ → Row → Type 0
IsAt p d y = (y.offset ≡ p) × (y.directory ≡ d)

-- if rows of one list rise, a lesser one of the list of a row is before it
earlier : (before : List Row) (z : Row) (after : List Row) (p d : ℕ) → Pairs Rises (before ++ z ∷ after)
    → Has (IsAt p d) (before ++ z ∷ after) → p < z.offset → z.directory ≡ d → Has (IsAt p d) before
earlier before z after p d rise h less same = elim (has_cases (IsAt p d) before (z ∷ after) h) [
  | inl k ↦ k
  | inr k ↦ elim k [
    | inl i ↦ let e = i.0 in absurd (omega arith)
    | inr i ↦
        let w = has_every (Rises z) (IsAt p d) after (pairs_right Rises before (z ∷ after) rise).0 i in
        let l = w.1 (same ∙ sym w.2.1) in
        let e = w.2.0 in
        absurd (omega arith)
  ]
]

-- a name that is not that of `.` or `..`
no_dot_cases : (o : Order) (b : List ℕ) (x : Row) → (IsNoDot o b x → ⊥)
    → (name_of o b x.offset ≡ dot) ⊎ (name_of o b x.offset ≡ dot_dot)
no_dot_cases o b x n = elim (same_or_not (name_of o b x.offset) dot) [
  | inl e ↦ inl e
  | inr h ↦ elim (same_or_not (name_of o b x.offset) dot_dot)
      [ inl e ↦ inr e | inr k ↦ absurd (n (record { here = h; above = k })) ]
]

module _ {o : Order} {b : List ℕ} {most : ℕ} {f : Forest}
    (h : IsForest (references o b) (LeadsToSound o b) most f) where
  -- a row below the root, by its place among them
  abbrev Facts : Row → Type 0
  Facts y = (InList (references o b) (LeadsToSound o b) y.directory y.reference × (y.reference.which ≡ y.offset))
      × HasDepth (references o b) (LeadsToSound o b) y.offset y.depth

  facts_at : (before : List Row) (x : Row) (after : List Row)
      → drop 1 (all_rows (references o b) f) ≡ before ++ x ∷ after
      → (InList (references o b) (LeadsToSound o b) x.directory x.reference × (x.reference.which ≡ x.offset))
      × HasDepth (references o b) (LeadsToSound o b) x.offset x.depth
  facts_at before x after among = every_here Facts before x after (subst (Every Facts) among (rows_listed h))

  listed_at : (before : List Row) (x : Row) (after : List Row)
      → drop 1 (all_rows (references o b) f) ≡ before ++ x ∷ after → IsListed o b x.directory x.offset
  listed_at before x after among =
      let k = facts_at before x after among in record { reference = x.reference; listed = k.0.0; place = k.0.1 }

  -- an earlier row of one list is before the later one, as does its entry
  comes_at : (before : List Row) (x : Row) (after : List Row)
      → drop 1 (all_rows (references o b) f) ≡ before ++ x ∷ after → (y : Row) → IsListed o b y.directory y.offset
      → Rises y x → y.directory ≡ x.directory → ComesAfter o b x.directory y.offset x.offset
  comes_at before x after among y l rises same =
      let k = facts_at before x after among in
      let less = rises same in
      let place = k.0.1 in
      subst (λ (q : ℕ). ComesAfter o b x.directory y.offset q) k.0.1
      (comes_between y.offset (subst (λ (d : ℕ). IsListed o b d y.offset) same l) x.reference k.0.0 (omega arith))

  -- what is known of each row before one
  abbrev Earlier : Row → Row → Type 0
  Earlier x y = IsListed o b y.directory y.offset × Rises y x

  before_facts : (before : List Row) (x : Row) (after : List Row)
      → drop 1 (all_rows (references o b) f) ≡ before ++ x ∷ after
      → Every (λ (y : Row). IsListed o b y.directory y.offset × Rises y x) before
  before_facts before x after among =
      let Listed : Row → Type 0 = λ y. IsListed o b y.directory y.offset in
      let all = subst (Every Facts) among (rows_listed h) in
      let listed = Rattle.record_forest.proofs.Lists.every_weaker Facts Listed
      (λ y k. record { reference = y.reference; listed = k.0.0; place = k.0.1 }) before
      (Rattle.record_forest.proofs.Lists.every_left Facts before (x ∷ after) all) in
      let cross = pairs_cross Rises before (x ∷ after) (subst (Pairs Rises) among (rows_rise h)) in
      every_both Listed (λ (y : Row). Rises y x) before listed
      (Rattle.record_forest.proofs.Lists.every_weaker (λ (y : Row). Every (Rises y) (x ∷ after))
      (λ (y : Row). Rises y x) (λ y k. k.0) before cross)

  -- a row that rises from the last one of its list comes right after it
  last_next : (before : List Row) (x : Row) (after : List Row)
      → drop 1 (all_rows (references o b) f) ≡ before ++ x ∷ after → (name : List ℕ)
      → (l : IsLast o b x.directory before name) → ComesNext o b x.directory l.row.offset x.offset
  last_next before x after among name l =
      let k = every_here (Earlier x) l.before l.row l.after
      (subst (Every (Earlier x)) l.among (before_facts before x after among)) in
      none_between l.row.offset x.offset (comes_at before x after among l.row k.0 k.1 l.directory)
      (λ s listed more less.
      let rise = subst (Pairs Rises) among (rows_rise h) in
      let there = earlier before x after s x.directory rise
      (subst (Has (IsAt s x.directory)) among (listed_in h x.directory s listed)) less refl in
      let here = pairs_left Rises before (x ∷ after) rise in
      none_later l.before l.row l.after s (subst (Pairs Rises) l.among here)
      (subst (Has (IsAt s x.directory)) l.among there) more l.directory l.last)
    where
      none_later : (before : List Row) (y : Row) (after : List Row) (s : ℕ) → Pairs Rises (before ++ y ∷ after)
          → Has (IsAt s x.directory) (before ++ y ∷ after) → y.offset < s → y.directory ≡ x.directory
          → Every (λ (z : Row). z.directory ≢ x.directory) after → ⊥
      none_later before y after s rise there more same last =
          elim (has_cases (IsAt s x.directory) before (y ∷ after) there) [
            | inl i ↦
                let w = has_every (λ (z : Row). Every (Rises z) (y ∷ after)) (IsAt s x.directory) before
                (pairs_cross Rises before (y ∷ after) rise) i in
                let e = w.2.0 in
                let less = w.1.0 (w.2.1 ∙ sym same) in
                omega arith
            | inr i ↦ elim i [
              | inl j ↦ let e = j.0 in omega arith
              | inr j ↦ let w =
                  has_every (λ (z : Row). z.directory ≢ x.directory) (IsAt s x.directory) after last j in w.1 w.2.1
            ]
          ]

  -- A fault of a name at a row of a list is one of the fault set,
  pub into_names : (before : List Row) (x : Row) (after : List Row) (n : ℕ)
      → drop 1 (all_rows (references o b) f) ≡ before ++ x ∷ after → IsNameFault o b before x n
      → HasNameFault o b (record { number = n; at = x.offset })
  into_names before x after n among (repeated e a) =
      let m = member_every (Earlier x) (λ (y : Row). (y.directory ≡ x.directory)
      × (name_of o b y.offset ≡ name_of o b x.offset)) before (before_facts before x after among) a in
      set_repeated (comes_at before x after among m.0 m.1.0 m.1.1 m.2.0) m.2.1 e
  into_names before x after n among (dots e k) = set_dots (listed_at before x after among) (no_dot_cases o b x k) e
  into_names before x after n among (unsorted e k) = elim (last_cases o b x.directory None before) [
    | inl z ↦ absurd (subst (λ (v : Option (List ℕ)). IsSomeAnd v
        (λ name. precedes (name_of o b x.offset) name ≡ true)) z.0 k.1)
    | inr z ↦
        let l = z.2 in
        let named : precedes (name_of o b x.offset) z.0 ≡ true =
        subst (λ (v : Option (List ℕ)). IsSomeAnd v
        (λ name. precedes (name_of o b x.offset) name ≡ true)) z.1 k.1 in
        set_unsorted k.0 (last_next before x after among z.0 l)
        (subst (λ (name : List ℕ). precedes (name_of o b x.offset) name ≡ true) l.named named) e
  ]

  -- the row of an entry
  listed_split : (d p : ℕ) → IsListed o b d p
      → (before : List Row) × (x : Row) × (after : List Row)
      × (drop 1 (all_rows (references o b) f) ≡ before ++ x ∷ after) × ((x.offset ≡ p) × (x.directory ≡ d))
  listed_split d p l = split_at (IsAt p d) (drop 1 (all_rows (references o b) f)) (listed_in h d p l)

  repeated_row : (e : Fault) (d p : ℕ) → ComesAfter o b d p e.at → name_of o b p ≡ name_of o b e.at → e.number ≡ 23
      → FoundAt (IsNameFault o b) (drop 1 (all_rows (references o b) f)) e
  repeated_row e d p c names number =
      let s = listed_split d e.at (comes_listed p e.at c) in
      let place = s.4.0 in
      let less = comes_rises p e.at c in
      let there = earlier s.0 s.1 s.2 p d (subst (Pairs Rises) s.3 (rows_rise h))
      (subst (Has (IsAt p d)) s.3 (listed_in h d p (comes_from p e.at c))) (omega arith) s.4.1 in
      let Same : Row → Type 0 = λ y. (y.directory ≡ s.1.directory) × (name_of o b y.offset ≡ name_of o b s.1.offset) in
      let same = Rattle.record_forest.proofs.Lists.has_weaker (IsAt p d) Same
      (λ y k. (k.1 ∙ sym s.4.1, ap (name_of o b) k.0 ∙ names ∙ ap (name_of o b) (sym s.4.0))) s.0 there in
      record {
        before = s.0;
        row = s.1;
        after = s.2;
        among = s.3;
        at = s.4.0;
        found = repeated number (has_member Same s.0 same);
      }

  -- the last row before that of an entry is of the one just before it
  closest : (before : List Row) (x : Row) (after : List Row)
      → drop 1 (all_rows (references o b) f) ≡ before ++ x ∷ after → (p : ℕ) → ComesNext o b x.directory p x.offset
      → (name : List ℕ) → (l : IsLast o b x.directory before name) → l.row.offset ≡ p
  closest before x after among p c name l =
      let rise = subst (Pairs Rises) among (rows_rise h) in
      let less = comes_rises p x.offset (next c) in
      let there = earlier before x after p x.directory rise
      (subst (Has (IsAt p x.directory)) among (listed_in h x.directory p c.listed)) less refl in
      let k = every_here (Earlier x) l.before l.row l.after
      (subst (Every (Earlier x)) l.among (before_facts before x after among)) in
      let under = k.1 l.directory in
      let listed : IsListed o b x.directory l.row.offset =
      subst (λ (d : ℕ). IsListed o b d l.row.offset) l.directory k.0 in
      by l.before l.row l.after (subst (Pairs Rises) l.among (pairs_left Rises before (x ∷ after) rise))
      (subst (Has (IsAt p x.directory)) l.among there) l.directory l.last under listed
    where
      by : (before : List Row) (y : Row) (after : List Row) → Pairs Rises (before ++ y ∷ after)
          → Has (IsAt p x.directory) (before ++ y ∷ after) → y.directory ≡ x.directory
          → Every (λ (z : Row). z.directory ≢ x.directory) after
          → y.offset < x.offset → IsListed o b x.directory y.offset → y.offset ≡ p
      by before y after rise there same last under listed =
          elim (has_cases (IsAt p x.directory) before (y ∷ after) there) [
            | inl i ↦
                let w = has_every (λ (z : Row). Every (Rises z) (y ∷ after)) (IsAt p x.directory) before
                (pairs_cross Rises before (y ∷ after) rise) i in
                let e = w.2.0 in
                let less = w.1.0 (w.2.1 ∙ sym same) in
                let far = next_closest p x.offset y.offset c listed (omega arith) in
                absurd (omega arith)
            | inr i ↦ elim i [
              | inl j ↦ j.0
              | inr j ↦ let w = has_every (λ (z : Row). z.directory ≢ x.directory)
                  (IsAt p x.directory) after last j in absurd (w.1 w.2.1)
            ]
          ]

  unsorted_row : (e : Fault) (d p : ℕ) → is_sorted o b ≡ true → ComesNext o b d p e.at
      → precedes (name_of o b e.at) (name_of o b p) ≡ true → e.number ≡ 26
      → FoundAt (IsNameFault o b) (drop 1 (all_rows (references o b) f)) e
  unsorted_row e d p sorted c names number =
      let s = listed_split d e.at (next_listed p e.at c) in
      let place = s.4.0 in
      let c' : ComesNext o b s.1.directory p s.1.offset =
      subst (λ (q : ℕ). ComesNext o b s.1.directory p q) (sym s.4.0)
      (subst (λ (u : ℕ). ComesNext o b u p e.at) (sym s.4.1) c) in
      let less = comes_rises p e.at (next c) in
      let there = earlier s.0 s.1 s.2 p s.1.directory (subst (Pairs Rises) s.3 (rows_rise h))
      (subst (Has (IsAt p s.1.directory)) s.3 (listed_in h s.1.directory p c'.listed)) (omega arith) refl in
      let found : IsUnsorted o b s.0 s.1 = (
        sorted,
        elim (last_cases o b s.1.directory None s.0) [
          | inl z ↦ let w = has_every (λ (y : Row). y.directory ≢ s.1.directory)
              (IsAt p s.1.directory) s.0 z.1 there in absurd (w.1 w.2.1)
          | inr z ↦
              let is : z.0 ≡ name_of o b p = z.2.named ∙ ap (name_of o b) (closest s.0 s.1 s.2 s.3 p c' z.0 z.2) in
              let named : precedes (name_of o b s.1.offset) z.0 ≡ true =
              subst (λ (v : List ℕ). precedes (name_of o b s.1.offset) v ≡ true) (sym is)
              (subst (λ (q : ℕ). precedes (name_of o b q) (name_of o b p) ≡ true) (sym s.4.0) names) in
              subst (λ (v : Option (List ℕ)). IsSomeAnd v (λ name. precedes (name_of o b s.1.offset) name ≡ true))
              (sym z.1) named
        ],
      ) in
      record { before = s.0; row = s.1; after = s.2; among = s.3; at = s.4.0; found = unsorted number found }

  -- and a fault of a name in the fault set is at a row.
  pub from_names : (e : Fault) → HasNameFault o b e → FoundAt (IsNameFault o b) (drop 1 (all_rows (references o b) f)) e
  from_names e (set_repeated {d} {p} c names number) = repeated_row e d p c names number
  from_names e (set_dots {d} l named number) =
      let s = listed_split d e.at l in
      record {
        before = s.0;
        row = s.1;
        after = s.2;
        among = s.3;
        at = s.4.0;
        found = dots number (λ k. elim named
            [ inl i ↦ k.here (ap (name_of o b) s.4.0 ∙ i) | inr i ↦ k.above (ap (name_of o b) s.4.0 ∙ i) ]);
      }
  from_names e (set_unsorted {d} {p} sorted c names number) = unsorted_row e d p sorted c names number

  -- The same of entries that are too deep.
  pub into_depths : (m : ℕ) (before : List Row) (x : Row) (after : List Row) (n : ℕ)
      → drop 1 (all_rows (references o b) f) ≡ before ++ x ∷ after → IsTooDeep o b m before x n
      → HasDepthFault o b m (record { number = n; at = x.offset })
  into_depths m before x after n among t = record {
    directory = x.directory;
    listed = listed_at before x after among;
    not_dot = t.1.here;
    not_dot_dot = t.1.above;
    names = x.depth;
    depth = (facts_at before x after among).1;
    deep = t.2;
    number = t.0;
  }

  pub from_depths : (m : ℕ) (e : Fault) → HasDepthFault o b m e
      → FoundAt (IsTooDeep o b m) (drop 1 (all_rows (references o b) f)) e
  from_depths m e d =
      let s = listed_split d.directory e.at d.listed in
      let deep = (facts_at s.0 s.1 s.2 s.3).1 in
      let lawful = references_lawful o b in
      let here : HasDepth (references o b) (LeadsToSound o b) e.at s.1.depth =
      subst (λ (p : ℕ). HasDepth (references o b) (LeadsToSound o b) p s.1.depth) s.4.0 deep in
      let same : d.names ≡ s.1.depth = one_depth lawful (clean_of lawful h).once e.at d.names s.1.depth d.depth here in
      let more : m < s.1.depth = subst (λ (n : ℕ). m < n) same d.deep in
      record {
        before = s.0;
        row = s.1;
        after = s.2;
        among = s.3;
        at = s.4.0;
        found = (
          d.number,
          record {
            here = λ k. d.not_dot (ap (name_of o b) (sym s.4.0) ∙ k);
            above = λ k. d.not_dot_dot (ap (name_of o b) (sym s.4.0) ∙ k);
          },
          more,
        );
      }
