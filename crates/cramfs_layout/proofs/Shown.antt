-- What holds of the sections holds of the records, the tables and the bytes of the items.
use Rattle.std.proofs.Common.{◌≡◌, ◌≢◌, ℕ, ◌+◌, ◌*◌, ◌<◌, ◌≤◌, ◌==◌, ◌||◌, Bool, true, false, if◌then◌else◌, ◌⊎◌, inl}
use Rattle.std.proofs.Common.{inr, List, [], ◌∷◌, length, refl, sym, subst, ◌∙◌, arith}
use Rattle.std.proofs.lemmas.Bool.Decides.{eqb_tells}
use Rattle.std.specs.List.{AllByRecursion as Every}
use Rattle.record_forest.proofs.Lists.{every_left, every_right, every_weaker, every_both}
use Rattle.cramfs_format.specs.Inode.{block_count}
use Rattle.manifest_tree.specs.Names.{Fill, no_bytes, text, source, bytes_of}
use Rattle.manifest_tree.specs.Items.{Item, Section, section, table_of, fill_section}
use Rattle.cramfs_layout.specs.Layout.{entry_len}
use Rattle.cramfs_layout.specs.Items.{has_table, table_sections, sections_from}
use Rattle.cramfs_layout.proofs.Runs.{Run, IsRun, AreRuns, run_low, one_run}
use Rattle.cramfs_layout.proofs.Tabled.{IsTabled, IsBare}

-- Q holds of the offset and the length of a section
abbrev pub OfSection : (ℕ → ℕ → Type 0) → Section → Type 0
OfSection Q s = Q s.place s.len

-- of the table of an item, and of its bytes
abbrev pub OfTable : (ℕ → ℕ → Type 0) → Item → Type 0
OfTable Q i = Q i.table (4 * block_count i.len) × Q i.start i.len

-- of the record of an item, and of its table and its bytes
abbrev pub OfItem : (ℕ → ℕ → Type 0) → Item → Type 0
OfItem Q i = Q i.place (entry_len i.name) × (i.len ≢ 0 → OfTable Q i)

-- a byte that is not among so many from an offset on
abbrev pub Out : ℕ → ℕ → ℕ → Type 0
Out p place len = (p < place) ⊎ (place + len ≤ p)

-- not in a section
abbrev pub OutOf : ℕ → Section → Type 0
OutOf p = OfSection (Out p)

-- not in the record of an item, nor in its table and its bytes
abbrev pub OutOfItem : ℕ → Item → Type 0
OutOfItem p = OfItem (Out p)

-- an item with bytes, and with a table at the offset that it has
abbrev IsGood : List (List ℕ) → List Run → Item → Type 0
IsGood cs R i = (i.len ≢ 0 → length (bytes_of cs i.fill) ≡ i.len) × IsTabled (IsRun R) i × IsBare i

module _ (cs : List (List ℕ)) (low high : ℕ) (R : List Run) (are : AreRuns low high R) (some : 0 < low)
    (Q : ℕ → ℕ → Type 0) where
  -- an item with the table at t, of which Q holds
  record Shown (t : ℕ) : Type 0 where
    item : Item
    table_is : item.table ≡ t
    is : IsRun R item.table item.start item.len
    holds : OfTable Q item

  or_cases : (a b : Bool) → (a || b) ≡ true → (a ≡ true) ⊎ (b ≡ true)
  or_cases true b h = inl refl
  or_cases false b h = inr h

  shown_by : (earlier : List Item) (index : ℕ) (i : Item) → IsGood cs R i → i.len ≢ 0
      → Every (OfSection Q) (table_sections earlier index i)
      → (has_table earlier i.table ≡ true) ⊎ Shown i.table
  shown_by earlier index i g n o = elim (eqb_tells i.len 0) [
    | inl t ↦ absurd (n t.1)
    | inr t ↦
        let o' : Every (OfSection Q) (if has_table earlier i.table then []
        else section i.table (4 * block_count i.len) (table_of index) ∷ fill_section index i.start i.len i.fill) =
        (rw t.0 at o) in
        by (has_table earlier i.table) refl o'
  ] where
    bytes_of_it : (f : Fill) → length (bytes_of cs f) ≡ i.len → Every (OfSection Q) (fill_section index i.start i.len f)
        → Q i.start i.len
    bytes_of_it no_bytes e h = absurd (n (sym e))
    bytes_of_it (text x) e h = h.0
    bytes_of_it (source k) e h = h.0

    by : (c : Bool) → has_table earlier i.table ≡ c
        → Every (OfSection Q) (if c then [] else section i.table (4 * block_count i.len) (table_of index)
        ∷ fill_section index i.start i.len i.fill)
        → (has_table earlier i.table ≡ true) ⊎ Shown i.table
    by true e h = inl e
    by false e h = inr (record { item = i; table_is = refl; is = g.1 n; holds = (h.0, bytes_of_it i.fill (g.0 n) h.1) })

  -- the table of an item is with the item, or with one before it
  abbrev IsKnown : List Item → Item → Type 0
  IsKnown earlier j = j.len ≢ 0 → (has_table earlier j.table ≡ true) ⊎ Shown j.table

  -- a table that the item before has
  known_before : (earlier : List Item) (i j : Item) → IsBare i → IsTabled (IsRun R) j → IsKnown earlier i
      → IsKnown (i ∷ earlier) j → IsKnown earlier j
  known_before earlier i j bare tabled mine h n = elim (h n) [
    | inr s ↦ inr s
    | inl e ↦ elim (or_cases (i.table == j.table) (has_table earlier j.table) e) [
      | inr y ↦ inl y
      | inl y ↦ elim (eqb_tells i.table j.table) [
        | inr z ↦ let w : true ≡ false = sym y ∙ z.0 in absurd (cc)
        | inl z ↦
            let up = run_low low high R j.table j.start j.len are (tabled n) in
            let same = z.1 in
            let full : i.len ≢ 0 = λ u. let v = bare u in absurd (omega (arith, up, same, v)) in
            subst (λ (t : ℕ). (has_table earlier t ≡ true) ⊎ Shown t) same (mine full)
      ]
    ]
  ]

  known : (earlier : List Item) (index : ℕ) (is : List Item) → Every (IsGood cs R) is
      → Every (OfSection Q) (sections_from earlier index is)
      → Every (IsKnown earlier) is
  known earlier index [] g o = tt
  known earlier index (i ∷ is) g o =
      let own = table_sections earlier index i in
      let rest = sections_from (i ∷ earlier) (index + 1) is in
      let mine : IsKnown earlier i = λ n. shown_by earlier index i g.0 n (every_left (OfSection Q) own rest o.1) in
      let more = known (i ∷ earlier) (index + 1) is g.1 (every_right (OfSection Q) own rest o.1) in (
        mine,
        every_weaker (λ j. IsGood cs R j × IsKnown (i ∷ earlier) j) (IsKnown earlier)
            (λ j k. known_before earlier i j g.0.2 k.0.1 mine k.1) is
            (every_both (IsGood cs R) (IsKnown (i ∷ earlier)) is g.1 more),
      )

  records_of : (earlier : List Item) (index : ℕ) (is : List Item) → Every (OfSection Q) (sections_from earlier index is)
      → Every (λ i. Q i.place (entry_len i.name)) is
  records_of earlier index [] o = tt
  records_of earlier index (i ∷ is) o = (
    o.0,
    records_of (i ∷ earlier) (index + 1) is
        (every_right (OfSection Q) (table_sections earlier index i) (sections_from (i ∷ earlier) (index + 1) is) o.1),
  )

  known_of : (j : Item) → IsTabled (IsRun R) j → IsKnown [] j → j.len ≢ 0 → OfTable Q j
  known_of j tabled h n = elim (h n) [
    | inl e ↦ absurd (cc)
    | inr s ↦
        let there : IsRun R j.table s.item.start s.item.len =
        subst (λ (t : ℕ). IsRun R t s.item.start s.item.len) s.table_is s.is in
        let same = one_run low high R j.table s.item.start s.item.len j.start j.len are there (tabled n) in
        let holds : Q j.table (4 * block_count s.item.len) =
        subst (λ (t : ℕ). Q t (4 * block_count s.item.len)) s.table_is s.holds.0 in
        let behind : Q j.start s.item.len = subst (λ (d : ℕ). Q d s.item.len) same.0 s.holds.1 in (
          subst (λ (v : ℕ). Q j.table (4 * block_count v)) same.1 holds,
          subst (λ (v : ℕ). Q j.start v) same.1 behind,
        )
  ]

  pub all_of : (index : ℕ) (is : List Item) → Every (λ i. i.len ≢ 0 → length (bytes_of cs i.fill) ≡ i.len) is
      → Every (IsTabled (IsRun R)) is → Every IsBare is → Every (OfSection Q) (sections_from [] index is)
      → Every (OfItem Q) is
  all_of index is l t b o =
      let good : Every (IsGood cs R) is =
      every_weaker (λ i. (i.len ≢ 0 → length (bytes_of cs i.fill) ≡ i.len) × (IsTabled (IsRun R) i × IsBare i))
      (IsGood cs R) (λ i k. (k.0, k.1.0, k.1.1)) is
      (every_both (λ i. i.len ≢ 0 → length (bytes_of cs i.fill) ≡ i.len) (λ i. IsTabled (IsRun R) i × IsBare i) is l
      (every_both (IsTabled (IsRun R)) IsBare is t b)) in
      let tables = every_weaker (λ j. IsTabled (IsRun R) j × IsKnown [] j) (λ j. j.len ≢ 0 → OfTable Q j)
      (λ j k. known_of j k.0 k.1) is (every_both (IsTabled (IsRun R)) (IsKnown []) is t (known [] index is good o)) in
      every_both (λ i. Q i.place (entry_len i.name)) (λ j. j.len ≢ 0 → OfTable Q j) is
      (records_of [] index is o) tables
