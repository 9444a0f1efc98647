-- Each row of a forest is in the list, and at the depth, that it says, and these are determined.
use Rattle.std.proofs.Common.{◌≡◌, ◌≢◌, ◌+◌, ℕ, Bool, true, false, List, [], ◌∷◌, ◌++◌, drop, take, append_assoc, ◌⊎◌}
use Rattle.std.proofs.Common.{inl, inr, refl, sym, ap, subst, ◌∙◌, arith, Some}
use Rattle.std.proofs.lemmas.Bool.{true≢false, false≢true}
use Rattle.std.proofs.lemmas.Bool.Decides.{eqb_tells}
use Rattle.std.proofs.lemmas.List.Elements.{recursion_from_All}
use Rattle.std.proofs.lemmas.List.{append-nil}
use Rattle.std.specs.Prelude.{IsSome}
use Rattle.std.specs.List.{AllByRecursion as Every}
use Rattle.record_forest.specs.declared.reference.Reference.{Reference}
use Rattle.record_forest.specs.declared.reference.Row.{Row}
use Rattle.record_forest.specs.Members.{Has, Pairs}
use Rattle.record_forest.specs.References.{References, edge, IsLive, Reached, top, more, AreLawful}
use Rattle.record_forest.specs.Forest.{Forest, none, at, Stands, rows, all_rows, IsForest}
use Rattle.record_forest.specs.Faults.{Twice, InList, first, next, beside_root, HasDepth, root, below}
use Rattle.record_forest.proofs.Lists.{has_left, has_right, every_join, every_left, every_right, every_weaker}
use Rattle.record_forest.proofs.Lists.{every_both, has_weaker, has_both, pairs_from, same_some}
use Rattle.record_forest.proofs.Grows.{root_row}
use Rattle.record_forest.proofs.Run.{live_some}
use Rattle.record_forest.proofs.Back.{By, all_rows_lead, reached_in, clean_of}

-- the row is in the list of its directory, and at its depth
abbrev pub Placed : (g : References) (Sound : Reference → Type 0) → Row → Type 0
Placed g Sound x = InList g Sound x.directory x.reference × HasDepth g Sound x.offset x.depth

-- the row is of a valid record, and not of the root
abbrev Inner : (g : References) (Sound : Reference → Type 0) → Row → Type 0
Inner g Sound x = Sound x.reference × (g.target g.top ≢ Some x.offset)

-- what is in a list is reached
pub listed_reached : {g : References} {Sound : Reference → Type 0} {d : ℕ} {x : Reference} → InList g Sound d x
    → Reached g Sound x
listed_reached (first reached sound leads e live) = more reached sound true e live
listed_reached (next u sound e live) = more (listed_reached u) sound false e live
listed_reached (beside_root sound leads e live) = more (top refl) sound false e live

pub listed_live : {g : References} {Sound : Reference → Type 0} {d : ℕ} {x : Reference} → InList g Sound d x
    → IsLive g x
listed_live (first reached sound leads e live) = live
listed_live (next u sound e live) = live
listed_live (beside_root sound leads e live) = live

-- the superblock's reference is in no list
pub listed_not_top : {g : References} {Sound : Reference → Type 0} {d : ℕ} {x : Reference} → AreLawful g Sound
    → InList g Sound d x → x ≢ g.top
listed_not_top {g} lawful (first {x = z} reached sound leads e live) i =
    lawful.only_top z true reached sound (subst (IsLive g) (sym e) live) (e ∙ i)
listed_not_top {g} lawful (next {x = z} u sound e live) i =
    lawful.only_top z false (listed_reached u) sound (subst (IsLive g) (sym e) live) (e ∙ i)
listed_not_top {g} lawful (beside_root sound leads e live) i =
    lawful.only_top g.top false (top refl) sound (subst (IsLive g) (sym e) live) (e ∙ i)

-- what is reached leads to some record
pub reached_live : {g : References} {Sound : Reference → Type 0} {x : Reference} → AreLawful g Sound → Reached g Sound x
    → IsLive g x
reached_live {g} lawful (top e) = subst (IsLive g) (sym e) lawful.starts
reached_live lawful (more reached sound k e live) = live

-- what is at a depth is led to by a reached reference
depth_led : {g : References} {Sound : Reference → Type 0} {p n : ℕ} → AreLawful g Sound → HasDepth g Sound p n
    → (x : Reference) × Reached g Sound x × (g.target x ≡ Some p)
depth_led {g} lawful (root e) = (g.top, top refl, e)
depth_led lawful (below {x = x} d u leads other) = (x, listed_reached u, leads)

-- if a list begins in a directory that is at the depth n, all of its rows are placed
placed : {g : References} {Sound : Reference → Type 0} (x : Reference) (directory parent n : ℕ) (f : Forest)
    → Stands g x f → HasDepth g Sound directory n → (IsLive g x → InList g Sound directory x)
    → Every (Inner g Sound) (rows g x directory parent (n + 1) f)
    → Every (Placed g Sound) (rows g x directory parent (n + 1) f)
placed x directory parent n none s d head all = tt
placed {g} {Sound} x directory parent n (at p own after) s d head all =
    let live : IsLive g x = subst IsSome (sym s.0) refl in
    let here : InList g Sound directory x = head live in
    let sound : Sound x = all.0.0 in
    let deep : HasDepth g Sound p (n + 1) = below d here s.0 all.0.1 in
    let own_rows = rows g (g.own x) p directory (n + 1 + 1) own in
    let after_rows = rows g (g.after x) directory parent (n + 1) after in (
      (here, deep),
      every_join (Placed g Sound) own_rows after_rows
          (placed (g.own x) p directory (n + 1) own s.1 deep (λ l. first (listed_reached here) sound s.0 refl l)
          (every_left (Inner g Sound) own_rows after_rows all.1))
          (placed (g.after x) directory parent n after s.2 d (λ l. next here sound refl l)
          (every_right (Inner g Sound) own_rows after_rows all.1)),
    )

-- the row of the directory in which a row stands
abbrev pub HasParent : List Row → Row → Type 0
HasParent all x = Has (λ (y : Row). (y.offset ≡ x.directory) × (y.directory ≡ x.parent) × (y.depth + 1 ≡ x.depth)) all

-- each row is after that of its directory
abbrev pub Preceded : List Row → List Row → Type 0
Preceded before [] = Unit {0}
Preceded before (x ∷ xs) = HasParent before x × Preceded (before ++ x ∷ []) xs

preceded_join : (before xs ys : List Row) → Preceded before xs → Preceded (before ++ xs) ys → Preceded before (xs ++ ys)
preceded_join before [] ys h k = subst (λ zs. Preceded zs ys) (append-nil before) k
preceded_join before (x ∷ xs) ys h k = (
  h.0,
  preceded_join (before ++ x ∷ []) xs ys h.1
      (subst (λ zs. Preceded zs ys) (sym (append_assoc before (x ∷ []) xs)) k),
)

preceded_all : (before xs : List Row) → Preceded before xs → Every (HasParent (before ++ xs)) xs
preceded_all before [] h = tt
preceded_all before (x ∷ xs) h = (
  has_left (λ (y : Row). (y.offset ≡ x.directory) × (y.directory ≡ x.parent) × (y.depth + 1 ≡ x.depth)) before
      (x ∷ xs) h.0,
  subst (λ zs. Every (HasParent zs) xs) (append_assoc before (x ∷ []) xs) (preceded_all (before ++ x ∷ []) xs h.1),
)

preceded : (g : References) (before : List Row) (x : Reference) (directory parent depth : ℕ) (f : Forest)
    → Has (λ (y : Row). (y.offset ≡ directory) × (y.directory ≡ parent) × (y.depth + 1 ≡ depth)) before
    → Preceded before (rows g x directory parent depth f)
preceded g before x directory parent depth none above = tt
preceded g before x directory parent depth (at p own after) above =
    let Above : ℕ → ℕ → ℕ → Row → Type 0 = λ d u n y. (y.offset ≡ d) × (y.directory ≡ u) × (y.depth + 1 ≡ n) in
    let me : Row = record { offset = p; reference = x; directory = directory; parent = parent; depth = depth } in
    let own_rows = rows g (g.own x) p directory (depth + 1) own in
    let after_rows = rows g (g.after x) directory parent depth after in
    let more_rows : List Row = before ++ me ∷ [] in (
      above,
      preceded_join more_rows own_rows after_rows
          (preceded g more_rows (g.own x) p directory (depth + 1) own
          (has_right (Above p directory (depth + 1)) before (me ∷ []) (inl (refl, refl, refl))))
          (preceded g (more_rows ++ own_rows) (g.after x) directory parent depth after
          (has_left (Above directory parent depth) more_rows own_rows
          (has_left (Above directory parent depth) before (me ∷ []) above))),
    )

module _ {g : References} {Sound : Reference → Type 0} {most : ℕ} {f : Forest} (lawful : AreLawful g Sound)
    (h : IsForest g Sound most f) where
  -- each row of the root's lists is there
  placed_below : (e : Forest) → Stands g g.top e → Every (λ (x : Row). Sound x.reference) (all_rows g e)
      → Pairs (λ (x : Row) (y : Row). x.offset ≢ y.offset) (all_rows g e)
      → Every (Placed g Sound) (drop 1 (all_rows g e))
  placed_below none s sound single = tt
  placed_below (at r own after) s sound single =
      let own_rows = rows g (g.own g.top) r r 1 own in
      let after_rows = rows g (g.after g.top) r r 1 after in
      let others = every_weaker (λ (x : Row). r ≢ x.offset) (λ (x : Row). g.target g.top ≢ Some x.offset)
      (λ x n e. n (same_some (sym s.0 ∙ e))) (own_rows ++ after_rows) single.0 in
      let inner = every_both (λ (x : Row). Sound x.reference) (λ (x : Row). g.target g.top ≢ Some x.offset)
      (own_rows ++ after_rows) sound.1 others in
      every_join (Placed g Sound) own_rows after_rows
      (placed (g.own g.top) r r 0 own s.1 (root s.0) (λ l. first (top refl) sound.0 s.0 refl l)
      (every_left (Inner g Sound) own_rows after_rows inner))
      (placed (g.after g.top) r r 0 after s.2 (root s.0) (λ l. beside_root sound.0 s.0 refl l)
      (every_right (Inner g Sound) own_rows after_rows inner))

  -- Each row except the root's is in the list, and at the depth, that it says.
  pub rows_placed : Every (Placed g Sound) (drop 1 (all_rows g f))
  rows_placed = placed_below f h.stands (recursion_from_All (λ (x : Row). Sound x.reference) (all_rows g f) h.sound)
      (pairs_from (λ (x : Row) (y : Row). x.offset ≢ y.offset) (all_rows g f) h.single)

  -- what holds of the root's row and of the others
  rows_from : (P : Row → Type 0) (e : Forest) → Stands g g.top e
      → ((r : ℕ) → g.target g.top ≡ Some r → P (root_row g r)) → Every P (drop 1 (all_rows g e))
      → Every P (all_rows g e)
  rows_from P none s k others = tt
  rows_from P (at r own after) s k others = (k r s.0, others)

  first_row : (e : Forest) → Stands g g.top e
      → (r : ℕ) × (g.target g.top ≡ Some r) × (all_rows g e ≡ root_row g r ∷ drop 1 (all_rows g e))
  first_row none s = absurd (false≢true (subst IsSome s lawful.starts))
  first_row (at r own after) s = (r, s.0, refl)

  -- The root's row is the first.
  pub root_first : (r : ℕ) × (g.target g.top ≡ Some r) × (all_rows g f ≡ root_row g r ∷ drop 1 (all_rows g f))
  root_first = first_row f h.stands

  -- Each row's reference is reached,
  pub rows_reached : Every (λ (x : Row). Reached g Sound x.reference) (all_rows g f)
  rows_reached = rows_from (λ (x : Row). Reached g Sound x.reference) f h.stands (λ r e. top refl)
      (every_weaker (Placed g Sound) (λ (x : Row). Reached g Sound x.reference) (λ x k. listed_reached k.0)
      (drop 1 (all_rows g f)) rows_placed)

  -- leads to the row's offset,
  pub rows_lead : Every (λ (x : Row). g.target x.reference ≡ Some x.offset) (all_rows g f)
  rows_lead = all_rows_lead g f h.stands

  -- and is that of a valid record.
  pub rows_sound : Every (λ (x : Row). Sound x.reference) (all_rows g f)
  rows_sound = recursion_from_All (λ (x : Row). Sound x.reference) (all_rows g f) h.sound

  -- Each row's record is at the depth that the row says.
  pub rows_depth : Every (λ (x : Row). HasDepth g Sound x.offset x.depth) (all_rows g f)
  rows_depth = rows_from (λ (x : Row). HasDepth g Sound x.offset x.depth) f h.stands (λ r e. root e)
      (every_weaker (Placed g Sound) (λ (x : Row). HasDepth g Sound x.offset x.depth) (λ x k. k.1)
      (drop 1 (all_rows g f)) rows_placed)

-- Each row except the root's, which is the first, is after the row of its directory.
pub rows_preceded : (g : References) (f : Forest) → Preceded (take 1 (all_rows g f)) (drop 1 (all_rows g f))
rows_preceded g none = tt
rows_preceded g (at r own after) =
    let first_row : Row = root_row g r in
    let own_rows = rows g (g.own g.top) r r 1 own in
    let after_rows = rows g (g.after g.top) r r 1 after in
    let above : Has (λ (y : Row). (y.offset ≡ r) × (y.directory ≡ r) × (y.depth + 1 ≡ 1)) (first_row ∷ []) =
    inl (refl, refl, refl) in
    preceded_join (first_row ∷ []) own_rows after_rows (preceded g (first_row ∷ []) (g.own g.top) r r 1 own above)
    (preceded g (first_row ∷ own_rows) (g.after g.top) r r 1 after (inl (refl, refl, refl)))

-- The directory of each row except the root's is that of a row, one depth above, which is in the row's parent.
pub rows_parented : (g : References) (f : Forest) → Every (HasParent (all_rows g f)) (drop 1 (all_rows g f))
rows_parented g none = tt
rows_parented g (at r own after) = preceded_all (root_row g r ∷ [])
    (rows g (g.own g.top) r r 1 own ++ rows g (g.after g.top) r r 1 after) (rows_preceded g (at r own after))

pub same_reference : (x y : Reference) → (x ≡ y) ⊎ (x ≢ y)
same_reference x y =
    elim (eqb_tells x.source y.source) [
      | inl e ↦ elim (eqb_tells x.which y.which) [
        | inl i ↦ let d = e.1 in let k = i.1 in inl (λ t. record { source = d t; which = k t })
        | inr n ↦ inr (λ e. n.1 (ap (λ (z : Reference). z.which) e))
      ]
      | inr n ↦ inr (λ e. n.1 (ap (λ (z : Reference). z.source) e))
    ]

-- If no two references lead to one record, a reference is in one list, and a record is at one depth.
module _ {g : References} {Sound : Reference → Type 0} (lawful : AreLawful g Sound)
    (once : (q : ℕ) → Twice g Sound q → ⊥) where
  pub same_leads : (x y : Reference) (q : ℕ) → Reached g Sound x → Reached g Sound y → g.target x ≡ Some q
      → g.target y ≡ Some q → x ≡ y
  same_leads x y q u v e i = elim (same_reference x y) [
    | inl same ↦ same
    | inr differ ↦ absurd (once q (record
        { one = x; other = y; differ = differ; one_reached = u; other_reached = v; one_leads = e; other_leads = i }))
  ]

  -- the same is the source where two follow alike
  one_source : (x y : Reference) (k l : Bool) → Reached g Sound x → Reached g Sound y → Sound x → Sound y
      → IsLive g (edge g k x) → edge g k x ≡ edge g l y → (k ≡ l) × (x ≡ y)
  one_source x y k l u v s t live e =
      let a = lawful.apart x y k l u v s t live e in (
        a.0,
        elim a.1 [
          | inl same ↦ same
          | inr j ↦ let q = live_some (g.target x)
              (reached_live lawful u) in same_leads x y q.0 u v q.1 (sym j.0 ∙ q.1)
        ],
      )

  pub one_list : (d e : ℕ) (x : Reference) → InList g Sound d x → InList g Sound e x → d ≡ e
  one_list d e x (first {x = y} u s leads i live) (first {x = z} v t leads' j live') =
      let a = one_source y z true true u v s t (subst (IsLive g) (sym i) live) (i ∙ sym j) in
      same_some (sym leads ∙ ap g.target a.1 ∙ leads')
  one_list d e x (first {x = y} u s leads i live) (next {x = z} v t j live') =
      absurd (true≢false (one_source y z true false u (listed_reached v) s t (subst (IsLive g) (sym i) live)
      (i ∙ sym j)).0)
  one_list d e x (first {x = y} u s leads i live) (beside_root t leads' j live') =
      absurd (true≢false (one_source y g.top true false u (top refl) s t (subst (IsLive g) (sym i) live) (i ∙ sym j)).0)
  one_list d e x (next {x = y} u s i live) (first {x = z} v t leads' j live') =
      absurd (false≢true (one_source y z false true (listed_reached u) v s t (subst (IsLive g) (sym i) live)
      (i ∙ sym j)).0)
  one_list d e x (next {x = y} u s i live) (next {x = z} v t j live') =
      let a = one_source y z false false (listed_reached u) (listed_reached v) s t (subst (IsLive g) (sym i) live)
      (i ∙ sym j) in
      one_list d e y u (subst (InList g Sound e) (sym a.1) v)
  one_list d e x (next {x = y} u s i live) (beside_root t leads' j live') =
      let a = one_source y g.top false false (listed_reached u) (top refl) s t (subst (IsLive g) (sym i) live)
      (i ∙ sym j) in
      absurd (listed_not_top lawful u a.1)
  one_list d e x (beside_root s leads i live) (first {x = z} v t leads' j live') =
      absurd (false≢true (one_source g.top z false true (top refl) v s t (subst (IsLive g) (sym i) live) (i ∙ sym j)).0)
  one_list d e x (beside_root s leads i live) (next {x = z} v t j live') =
      let a = one_source g.top z false false (top refl) (listed_reached v) s t (subst (IsLive g) (sym i) live)
      (i ∙ sym j) in
      absurd (listed_not_top lawful v (sym a.1))
  one_list d e x (beside_root s leads i live) (beside_root t leads' j live') = same_some (sym leads ∙ leads')

  pub one_depth : (p m n : ℕ) → HasDepth g Sound p m → HasDepth g Sound p n → m ≡ n
  one_depth p m n (root e) (root i) = refl
  one_depth p m n (root e) (below d u leads other) = absurd (other e)
  one_depth p m n (below d u leads other) (root e) = absurd (other e)
  one_depth p m n (below {d = c} {n = k} {x = x} d u leads other)
      (below {d = c'} {n = k'} {x = x'} d' u' leads' other') =
      let same = same_leads x x' p (listed_reached u) (listed_reached u') leads leads' in
      let list = one_list c c' x u (subst (InList g Sound c') (sym same) u') in
      let ih = one_depth c k k' d (subst (λ q. HasDepth g Sound q k') (sym list) d') in
      omega arith

module _ {g : References} {Sound : Reference → Type 0} {most : ℕ} {f : Forest} (lawful : AreLawful g Sound)
    (h : IsForest g Sound most f) where
  other_rows : (e : Forest) (x : Reference) → x ≢ g.top → Has (By x) (all_rows g e) → Has (By x) (drop 1 (all_rows g e))
  other_rows none x n k = absurd k
  other_rows (at r own after) x n (inl e) = absurd (n (sym e))
  other_rows (at r own after) x n (inr k) = k

  -- Each reference in the list of a directory is that of a row which says that directory.
  pub listed_row : (d : ℕ) (x : Reference) → InList g Sound d x
      → Has (λ (y : Row). (y.reference ≡ x) × (y.directory ≡ d)) (drop 1 (all_rows g f))
  listed_row d x u =
      let clean = clean_of lawful h in
      let here = other_rows f x (listed_not_top lawful u) (reached_in lawful h x (listed_reached u)) in
      has_weaker (λ y. Placed g Sound y × By x y) (λ (y : Row). (y.reference ≡ x) × (y.directory ≡ d))
      (λ y k. (k.1, one_list lawful clean.once y.directory d x (subst (InList g Sound y.directory) k.1 k.0.0) u))
      (drop 1 (all_rows g f)) (has_both (Placed g Sound) (By x) (drop 1 (all_rows g f)) (rows_placed lawful h) here)

  -- Each reached reference is that of a row.
  pub reached_row : (x : Reference) → Reached g Sound x → Has (λ (y : Row). y.reference ≡ x) (all_rows g f)
  reached_row = reached_in lawful h

  -- A record at a depth is that of a row which says that depth.
  pub depth_row : (p n : ℕ) → HasDepth g Sound p n → Has (λ (y : Row). (y.offset ≡ p) × (y.depth ≡ n)) (all_rows g f)
  depth_row p n k =
      let clean = clean_of lawful h in
      let x = depth_led lawful k in
      let both = has_both (λ (y : Row). (g.target y.reference ≡ Some y.offset) × HasDepth g Sound y.offset y.depth)
      (By x.0) (all_rows g f)
      (every_both (λ (y : Row). g.target y.reference ≡ Some y.offset) (λ (y : Row). HasDepth g Sound y.offset y.depth)
      (all_rows g f) (rows_lead lawful h) (rows_depth lawful h)) (reached_in lawful h x.0 x.1) in
      has_weaker (λ (y : Row). ((g.target y.reference ≡ Some y.offset) × HasDepth g Sound y.offset y.depth) × By x.0 y)
      (λ (y : Row). (y.offset ≡ p) × (y.depth ≡ n))
      (λ y z. let e : y.offset ≡ p = same_some (sym z.0.0 ∙ ap g.target z.1 ∙ x.2) in
      (e, one_depth lawful clean.once p y.depth n (subst (λ q. HasDepth g Sound q y.depth) e z.0.1) k))
      (all_rows g f) both
