-- No entry of a layout occurs twice, and the names of a list rise.
use Rattle.std.proofs.Common.{◌≡◌, ◌≢◌, ℕ, ◌+◌, ◌<◌, ◌≤◌, true, ◌⊎◌, List, refl, sym, subst, arith, inl, inr}
use Rattle.std.specs.List.{AllByRecursion as Every}
use Rattle.record_forest.specs.declared.reference.Reference.{Reference}
use Rattle.record_forest.specs.declared.reference.Row.{Row}
use Rattle.record_forest.specs.Forest.{rows}
use Rattle.record_forest.specs.Members.{Pairs}
use Rattle.record_forest.proofs.Lists.{every_join, every_weaker, pairs_join}
use Rattle.cramfs_format.specs.declared.order.Order.{Order}
use Rattle.cramfs_format.specs.Inode.{name_of}
use Rattle.cramfs_format.specs.Refers.{references}
use Rattle.cramfs_format.specs.Tree.{precedes, NamesRise}
use Rattle.manifest_tree.specs.Names.{Names, nothing, leaf, link, subdirectory}
use Rattle.manifest_tree.specs.Lists.{StandsIn}
use Rattle.cramfs_layout.specs.Layout.{pad4, entry_len, list_len, State, after_file, after_list, after_names}
use Rattle.cramfs_layout.specs.Wells.{AreWell, AllRead}
use Rattle.cramfs_layout.specs.Forest.{spots}
use Rattle.cramfs_layout.proofs.Stored.{file_onward, names_onward}

-- two ranges: the list, and what is placed behind
abbrev pub InRanges : ℕ → ℕ → ℕ → ℕ → ℕ → Type 0
InRanges l e s t p = ((l ≤ p) × (p < e)) ⊎ ((s ≤ p) × (p < t))

-- a row of the list [l, e) of d has one of its names, and any other is in [s, t), with a directory in one of the two
abbrev pub Located : Order → List ℕ → ℕ → ℕ → ℕ → ℕ → ℕ → Names → Row → Type 0
Located o b d l e s t n y =
    ((l ≤ y.offset) × (y.offset < e) × (y.directory ≡ d) × StandsIn (name_of o b y.offset) n)
    ⊎ ((s ≤ y.offset) × (y.offset < t) × InRanges l e s t y.directory)

wider : (l e s t l' s' p : ℕ) → l ≤ l' → s ≤ s' → InRanges l' e s' t p → InRanges l e s t p
wider l e s t l' s' p a c (inl h) = let u = h.0 in inl (omega arith, h.1)
wider l e s t l' s' p a c (inr h) = let u = h.0 in inr (omega arith, h.1)

later : (o : Order) (b : List ℕ) (d l e s t l' s' : ℕ) (n rest : Names) (y : Row)
    → ((m : List ℕ) → StandsIn m rest → StandsIn m n) → l ≤ l' → s ≤ s' → Located o b d l' e s' t rest y
    → Located o b d l e s t n y
later o b d l e s t l' s' n rest y f a c (inl h) =
    let u = h.0 in inl (omega arith, h.1, h.2, f (name_of o b y.offset) h.3)
later o b d l e s t l' s' n rest y f a c (inr h) =
    let u = h.0 in inr (omega arith, h.1, wider l e s t l' s' y.directory a c h.2)

-- a row below an entry at l
inner : (o : Order) (b : List ℕ) (l q e s t high : ℕ) (own : Names) (y : Row) → Located o b l q e e s own y → q ≤ e
    → e ≤ s → t ≤ q → s ≤ high
    → (t ≤ y.offset) × (y.offset < high) × ((y.directory ≡ l) ⊎ ((t ≤ y.directory) × (y.directory < high)))
inner o b l q e s t high own y (inl h) a c f g = let u = h.0 in let v = h.1 in (omega arith, omega arith, inl h.2)
inner o b l q e s t high own y (inr h) a c f g =
    let u = h.0 in let v = h.1 in (
      omega arith,
      omega arith,
      inr (elim h.2 [
        | inl k ↦ let x = k.0 in let z = k.1 in
            (omega arith, omega arith)
        | inr k ↦ let x = k.0 in let z = k.1 in (omega arith, omega arith)
      ]),
    )

pub located : (o : Order) (b : List ℕ) (cs : List (List ℕ)) (high : ℕ) (x : Reference) (d up depth l : ℕ) (s : State)
    (n : Names)
    → AreWell cs n → AllRead o b cs high l s n → l + list_len n ≤ s.at
    → Every (Located o b d l (l + list_len n) s.at (after_names s n).at n)
    (rows (references o b) x d up depth (spots l s n))
located o b cs high x d up depth l s nothing h r m = tt
located o b cs high x d up depth l s (leaf name i rest) h r m =
    let g = references o b in
    let l' = l + entry_len name in
    let s' = after_file s i in
    let a = file_onward cs s i h.1 in
    let e : l + list_len (leaf name i rest) ≡ l' + list_len rest = omega arith in
    let t = (after_names s' rest).at in
    let ih = subst (λ (v : ℕ). Every (Located o b d l' v s'.at t rest)
    (rows g (g.after x) d up depth (spots l' s' rest))) (sym e)
    (located o b cs high (g.after x) d up depth l' s' rest h.2 r.2 (omega (arith, a, m))) in (
      inl (omega arith, omega arith, refl, inl r.0.name_is),
      every_weaker (Located o b d l' (l + list_len (leaf name i rest)) s'.at t rest)
          (Located o b d l (l + list_len (leaf name i rest)) s.at t (leaf name i rest))
          (λ y k. later o b d l (l + list_len (leaf name i rest)) s.at t l' s'.at (leaf name i rest) rest y
          (λ _ z. inr z) (omega arith) (omega (arith, a)) k) (rows g (g.after x) d up depth (spots l' s' rest)) ih,
    )
located o b cs high x d up depth l s (link name i rest) h r m = absurd h
located o b cs high x d up depth l s (subdirectory name i own rest) h r m =
    let g = references o b in
    let l' = l + entry_len name in
    let q = pad4 s.at in
    let s1 = after_list s own in
    let s' = after_names s1 own in
    let n = subdirectory name i own rest in
    let a = names_onward cs s1 own h.2 in
    let c = names_onward cs s' rest h.3 in
    let e : l + list_len n ≡ l' + list_len rest = omega arith in
    let t = (after_names s' rest).at in
    let x1 = g.own x in
    let ih = subst (λ (v : ℕ). Every (Located o b d l' v s'.at t rest)
    (rows g (g.after x) d up depth (spots l' s' rest))) (sym e)
    (located o b cs high (g.after x) d up depth l' s' rest h.3 r.2 (omega (arith, a, m))) in
    let mine = located o b cs high x1 l d (depth + 1) q s1 own h.2 r.1 (omega arith) in (
      inl (omega arith, omega arith, refl, inl r.0.name_is),
      every_join (Located o b d l (l + list_len n) s.at t n) (rows g x1 l d (depth + 1) (spots q s1 own))
          (rows g (g.after x) d up depth (spots l' s' rest))
          (every_weaker (Located o b l q (q + list_len own) s1.at s'.at own) (Located o b d l (l + list_len n) s.at t n)
          (λ y k. let w = inner o b l q (q + list_len own) s'.at s.at t own y k (omega arith) (omega (arith, a))
          (omega arith) (omega (arith, c)) in
          inr (w.0, w.1, elim w.2 [ inl z ↦ inl (omega (arith, z), omega (arith, z)) | inr z ↦ inr z ]))
          (rows g x1 l d (depth + 1) (spots q s1 own)) mine)
          (every_weaker (Located o b d l' (l + list_len n) s'.at t rest) (Located o b d l (l + list_len n) s.at t n)
          (λ y k. later o b d l (l + list_len n) s.at t l' s'.at n rest y (λ _ z. inr z) (omega arith)
          (omega (arith, a)) k) (rows g (g.after x) d up depth (spots l' s' rest)) ih),
    )

-- two rows are at different offsets, and rise if they are of one list
abbrev pub Apart : Order → List ℕ → Row → Row → Type 0
Apart o b x y = (x.offset ≢ y.offset) × NamesRise o b x y

head_apart : (o : Order) (b : List ℕ) (x y : Row) (d l l' e s t : ℕ) (rest : Names) → x.offset ≡ l → x.directory ≡ d
    → l < l' → l' ≤ e → e ≤ s → d < l → ((m : List ℕ) → StandsIn m rest → precedes (name_of o b x.offset) m ≡ true)
    → Located o b d l' e s t rest y → Apart o b x y
head_apart o b x y d l l' e s t rest f g a c w z up (inl h) =
    let u = h.0 in ((λ q. absurd (omega (arith, f, q))), λ _. up (name_of o b y.offset) h.3)
head_apart o b x y d l l' e s t rest f g a c w z up (inr h) =
    let u = h.0 in (
      (λ q. absurd (omega (arith, f, q))),
      λ q. absurd (elim h.2 [
        | inl k ↦ let v = k.0 in omega (arith, g, q)
        | inr k ↦ let v = k.0 in omega
            (arith, g, q)
      ]),
    )

-- a head before the rows below it, and those before the rows behind it
below_apart : (o : Order) (b : List ℕ) (x y : Row) (d l t high : ℕ) → x.offset ≡ l → x.directory ≡ d → d < l → l < t
    → (t ≤ y.offset) × (y.offset < high) × ((y.directory ≡ l) ⊎ ((t ≤ y.directory) × (y.directory < high)))
    → Apart o b x y
below_apart o b x y d l t high f g a c h =
    let u = h.0 in (
      (λ q. absurd (omega (arith, f, q))),
      λ q. absurd (elim h.2 [ inl k ↦ omega (arith, g, q, k) | inr k ↦ let v = k.0 in omega (arith, g, q) ]),
    )

cross_apart : (o : Order) (b : List ℕ) (x y : Row) (d l l' e t high top : ℕ) (rest : Names) → d < l → l < l' → l' ≤ e
    → e ≤ t → t ≤ high
    → (t ≤ x.offset) × (x.offset < high) × ((x.directory ≡ l) ⊎ ((t ≤ x.directory) × (x.directory < high)))
    → Located o b d l' e high top rest y → Apart o b x y
cross_apart o b x y d l l' e t high top rest a c f g w h (inl k) =
    let u = h.0 in let v = k.1 in let j = k.2 in (
      (λ q. absurd (omega (arith, q))),
      λ q. absurd (elim h.2 [ inl z ↦ omega (arith, q, z, j) | inr z ↦ let y1 = z.0 in omega (arith, q, j) ]),
    )
cross_apart o b x y d l l' e t high top rest a c f g w h (inr k) =
    let u = h.1 in let v = k.0 in (
      (λ q. absurd (omega (arith, q))),
      λ q. absurd (elim h.2 [
        | inl z ↦ elim k.2 [ inl j ↦ let y1 = j.0 in omega (arith, q, z) | inr j ↦ let y1 = j.0 in omega (arith, q, z) ]
        | inr z ↦ elim k.2 [
          | inl j ↦ let y1 = j.1 in let y2 = z.0 in omega
              (arith, q)
          | inr j ↦ let y1 = j.0 in let y2 = z.1 in omega (arith, q)
        ]
      ]),
    )

pub all_apart : (o : Order) (b : List ℕ) (cs : List (List ℕ)) (high : ℕ) (x : Reference) (d up depth l : ℕ) (s : State)
    (n : Names)
    → AreWell cs n → AllRead o b cs high l s n → l + list_len n ≤ s.at → d < l
    → Pairs (Apart o b) (rows (references o b) x d up depth (spots l s n))
all_apart o b cs high x d up depth l s nothing h r m low = tt
all_apart o b cs high x d up depth l s (leaf name i rest) h r m low =
    let g = references o b in
    let l' = l + entry_len name in
    let s' = after_file s i in
    let a = file_onward cs s i h.1 in
    let c : l' + list_len rest ≤ s'.at = omega (arith, a, m) in
    let t = (after_names s' rest).at in
    let head : Row = record { offset = l; reference = x; directory = d; parent = up; depth = depth } in
    let up' = subst (λ (k : List ℕ). (j : List ℕ) → StandsIn j rest → precedes k j ≡ true) (sym r.0.name_is) h.0.2 in
    let found = located o b cs high (g.after x) d up depth l' s' rest h.2 r.2 c in (
      every_weaker (Located o b d l' (l' + list_len rest) s'.at t rest) (Apart o b head)
          (λ y k. head_apart o b head y d l l' (l' + list_len rest) s'.at t rest refl refl (omega arith)
          (omega arith) c low up' k) (rows g (g.after x) d up depth (spots l' s' rest)) found,
      all_apart o b cs high (g.after x) d up depth l' s' rest h.2 r.2 c (omega arith),
    )
all_apart o b cs high x d up depth l s (link name i rest) h r m low = absurd h
all_apart o b cs high x d up depth l s (subdirectory name i own rest) h r m low =
    let g = references o b in
    let l' = l + entry_len name in
    let q = pad4 s.at in
    let s1 = after_list s own in
    let s' = after_names s1 own in
    let a = names_onward cs s1 own h.2 in
    let c : l' + list_len rest ≤ s'.at = omega (arith, a, m) in
    let t = (after_names s' rest).at in
    let j = names_onward cs s' rest h.3 in
    let x1 = g.own x in
    let head : Row = record { offset = l; reference = x; directory = d; parent = up; depth = depth } in
    let up' = subst (λ (k : List ℕ). (z : List ℕ) → StandsIn z rest → precedes k z ≡ true) (sym r.0.name_is) h.0.2 in
    let own_rows = rows g x1 l d (depth + 1) (spots q s1 own) in
    let rest_rows = rows g (g.after x) d up depth (spots l' s' rest) in
    let found = located o b cs high (g.after x) d up depth l' s' rest h.3 r.2 c in
    let mine = every_weaker (Located o b l q (q + list_len own) s1.at s'.at own)
    (λ (y : Row). (s.at ≤ y.offset) × (y.offset < s'.at)
    × ((y.directory ≡ l) ⊎ ((s.at ≤ y.directory) × (y.directory < s'.at))))
    (λ y k. inner o b l q (q + list_len own) s'.at s.at s'.at own y k (omega arith) (omega (arith, a)) (omega arith)
    (omega arith)) own_rows (located o b cs high x1 l d (depth + 1) q s1 own h.2 r.1 (omega arith)) in
    let under = every_weaker (λ (y : Row). (s.at ≤ y.offset) × (y.offset < s'.at)
    × ((y.directory ≡ l) ⊎ ((s.at ≤ y.directory) × (y.directory < s'.at)))) (Apart o b head)
    (λ y k. below_apart o b head y d l s.at s'.at refl refl low (omega (arith, m)) k) own_rows mine in
    let behind = every_weaker (Located o b d l' (l' + list_len rest) s'.at t rest) (Apart o b head)
    (λ y k. head_apart o b head y d l l' (l' + list_len rest) s'.at t rest refl refl (omega arith)
    (omega arith) c low up' k) rest_rows found in
    let across = every_weaker (λ (y : Row). (s.at ≤ y.offset) × (y.offset < s'.at)
    × ((y.directory ≡ l) ⊎ ((s.at ≤ y.directory) × (y.directory < s'.at)))) (λ y. Every (Apart o b y) rest_rows)
    (λ y k. every_weaker (Located o b d l' (l' + list_len rest) s'.at t rest) (Apart o b y)
    (λ z w. cross_apart o b y z d l l' (l' + list_len rest) s.at s'.at t rest low (omega arith) (omega arith)
    (omega (arith, m)) (omega (arith, a)) k w) rest_rows found) own_rows mine in (
      every_join (Apart o b head) own_rows rest_rows under behind,
      pairs_join (Apart o b) own_rows rest_rows
          (all_apart o b cs high x1 l d (depth + 1) q s1 own h.2 r.1 (omega arith) (omega (arith, m)))
          (all_apart o b cs high (g.after x) d up depth l' s' rest h.3 r.2 c (omega arith)) across,
    )
