-- The bytes of each file of a cramfs layout are a section of its plan.
use Rattle.std.proofs.Common.{◌≡◌, ◌≢◌, ℕ, ◌+◌, ◌<◌, nat_lt, true, false, ◌⊎◌, cond}
use Rattle.std.proofs.Common.{List, [], ◌∷◌, inl, inr, refl, ap, subst, ◌∙◌, arith}
use Rattle.std.proofs.lemmas.Bool.Decides.{eqb_tells}
use Rattle.std.specs.List.{AllByRecursion as Every}
use Rattle.record_forest.specs.Members.{Has}
use Rattle.record_forest.proofs.Lists.{has_weaker}
use Rattle.rom_tree.specs.Tree.{Node, places_of, row_from}
use Rattle.manifest_tree.specs.Names.{source}
use Rattle.manifest_tree.specs.Items.{Item, Section, contents_of, in_order, put_section, section}
use Rattle.cramfs_layout.specs.Items.{has_table, sections_from, table_sections}
use Rattle.cramfs_layout.proofs.Tabled.{IsBare}
use Rattle.headline.proofs.Owned.{Own, IsOwned, Rise, has_left, has_right, one_own, own, rise_low}

-- the sections in order are the same ones
put_has : (P : Section → Type 0) (s : Section) (ts : List Section) → P s ⊎ Has P ts → Has P (put_section s ts)
put_has P s [] h = h
put_has P s (t ∷ ts) h = elim (nat_lt s.place t.place) as
    (λ b. Has P (cond b (s ∷ t ∷ ts) (t ∷ put_section s ts))) [
      | true ↦ h
      | false ↦ elim h [
        | inl p ↦ inr (put_has P s ts (inl p))
        | inr k ↦ elim k [ inl p ↦ inl p | inr m ↦ inr (put_has P s ts (inr m)) ]
      ]
    ]

pub order_has : (P : Section → Type 0) (ss : List Section) → Has P ss → Has P (in_order ss)
order_has P [] h = absurd h
order_has P (s ∷ ss) (inl p) = put_has P s (in_order ss) (inl p)
order_has P (s ∷ ss) (inr h) = put_has P s (in_order ss) (inr (order_has P ss h))

-- the section with the contents of a source
abbrev pub IsHere : ℕ → Own → Section → Type 0
IsHere k x z = z ≡ section x.start x.len (contents_of k)

-- that of an item whose table no earlier item has
first_here : (earlier : List Item) (index : ℕ) (j : Item) (k : ℕ) → j.len ≢ 0 → has_table earlier j.table ≡ false
    → j.fill ≡ source k
    → Has (λ z. z ≡ section j.start j.len (contents_of k)) (table_sections earlier index j)
first_here earlier index j k n h f = elim (eqb_tells j.len 0) [
  | inl y ↦ absurd (n y.1)
  | inr y ↦ rw (y.0, h, f) (inr (inl refl))
]

-- the item that is the first with a table
here_by : (xs : List Own) (from to : ℕ) (earlier : List Item) (index : ℕ) (j : Item) (x : Own) (k : ℕ) → 0 < from
    → Rise from to xs → Has (λ z. z ≡ x) xs → x.fill ≡ source k → IsOwned xs j → IsBare j → j.table ≡ x.table
    → has_table earlier x.table ≡ false → Has (IsHere k x) (table_sections earlier index j)
here_by xs from to earlier index j x k low rise here f owned bare e none = elim (eqb_tells j.len 0) [
  | inl y ↦ let l = rise_low from to xs x rise here in let z = bare y.1 in absurd (omega (arith, e, z))
  | inr y ↦
      let same = one_own from to xs (own j.table j.start j.len j.fill) x rise (owned y.1) here e in
      let d : j.start ≡ x.start = ap (λ (z : Own). z.start) same in
      let n : j.len ≡ x.len = ap (λ (z : Own). z.len) same in
      let g : j.fill ≡ source k = ap (λ (z : Own). z.fill) same ∙ f in
      let first : has_table earlier j.table ≡ false = ap (has_table earlier) e ∙ none in
      subst (λ (v : ℕ). Has (λ z. z ≡ section x.start v (contents_of k)) (table_sections earlier index j)) n
      (subst (λ (v : ℕ). Has (λ z. z ≡ section v j.len (contents_of k)) (table_sections earlier index j)) d
      (first_here earlier index j k y.1 first g))
]

-- Some item has the table. Then its bytes are a section, unless an earlier item has the table.
in_sections : (xs : List Own) (from to : ℕ) (earlier : List Item) (index : ℕ) (is : List Item) (x : Own) (k : ℕ)
    → 0 < from → Rise from to xs → Has (λ z. z ≡ x) xs → x.fill ≡ source k → Every (IsOwned xs) is → Every IsBare is
    → Has (λ i. i.table ≡ x.table) is
    → (has_table earlier x.table ≡ true) ⊎ Has (IsHere k x) (sections_from earlier index is)
in_sections xs from to earlier index [] x k low rise here f owned bare m = absurd m
in_sections xs from to earlier index (j ∷ js) x k low rise here f owned bare m =
    let mine = table_sections earlier index j in
    let rest = sections_from (j ∷ earlier) (index + 1) js in
    elim (eqb_tells j.table x.table) [
      | inl y ↦ elim (has_table earlier x.table) as
          (λ t. has_table earlier x.table ≡ t → (t ≡ true) ⊎ Has (IsHere k x) (sections_from earlier index (j ∷ js))) [
            | true ↦ λ e. inl refl
            | false ↦ λ e. inr (inr (has_left (IsHere k x) mine rest
                (here_by xs from to earlier index j x k low rise here f owned.0 bare.0 y.1 e)))
          ] refl
      | inr y ↦
          let later : Has (λ i. i.table ≡ x.table) js = elim m [ inl e ↦ absurd (y.1 e) | inr n ↦ n ] in
          elim (in_sections xs from to (j ∷ earlier) (index + 1) js x k low rise here f owned.1 bare.1 later) [
            | inl e ↦ inl (rw y.0 at e)
            | inr n ↦ inr (inr (has_right (IsHere k x) mine rest n))
          ]
    ]

pub all_in_sections : (xs : List Own) (from to index : ℕ) (is : List Item) (i : Item) (k : ℕ) → 0 < from
    → Rise from to xs → Every (IsOwned xs) is → Every IsBare is → Has (λ z. z ≡ i) is → IsOwned xs i → i.len ≢ 0
    → i.fill ≡ source k
    → Has (λ z. z ≡ section i.start i.len (contents_of k)) (in_order (sections_from [] index is))
all_in_sections xs from to index is i k low rise owned bare m mine n f =
    let x : Own = own i.table i.start i.len i.fill in
    elim (in_sections xs from to [] index is x k low rise (mine n) f owned bare
    (has_weaker (λ (z : Item). z ≡ i) (λ (z : Item). z.table ≡ x.table)
    (λ z e. ap (λ (v : Item). v.table) e) is m)) [
      | inl e ↦ absurd (cc)
      | inr h ↦ order_has (IsHere k x) (sections_from [] index is) h
    ]

-- a file has its bytes where a section of the plan is
pub record IsAtSection (ss : List Section) (size k : ℕ) (x : Node) : Type 0 where
  pub start : ℕ
  pub run : places_of x ≡ row_from start size
  pub section : Has (λ z. z ≡ section start size (contents_of k)) ss
