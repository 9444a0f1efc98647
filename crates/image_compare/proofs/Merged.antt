-- Two rising lists of names: the paths of both, and the lines of each path.
use Rattle.std.proofs.Common.{◌≡◌, ℕ, suc, ◌+◌, Bool, true, false, List, [], ◌∷◌, ◌++◌, map}
use Rattle.std.proofs.Common.{get_or, Option, Some, None, refl, sym, ap, ◌∙◌, subst, arith}
use Rattle.std.specs.Prelude.{Contains, flat_map, if◌then◌else◌}
use Rattle.std.specs.Cmp.Lexicographic.{slice_cmp}
use Rattle.std.specs.List.{AllByRecursion, IsDistinct, All}
use Rattle.std.specs.List.Sorted.{IsStrictlySortedBy, IsSortedByKey}
use Rattle.std.specs.Ordering.{nat_cmp, is_lt, is_eq, ordering_reverse}
use Rattle.std.specs.Str.{bytes_eq}
use Rattle.std.specs.declared.cmp.Ordering.{Ordering}
use Rattle.std.specs.declared.cmp.Ordering.TheVariants.{Less, Equal, Greater}
use Rattle.std.proofs.lemmas.Bool.{true≢false}
use Rattle.std.proofs.lemmas.Cmp.{nat_list_cmp_total}
use Rattle.std.proofs.lemmas.List.Elements.{All-from_recursion, All-append}
use Rattle.std.proofs.lemmas.List.Sorted.{IsPermutation-map}
use Rattle.std.proofs.lemmas.Map.Keys.{IsDistinct-IsPermutation}
use Rattle.std.proofs.lemmas.Map.Text.{is_eq-slice_cmp}
use Rattle.std.proofs.lemmas.Slice.Eq.{bytes_eq-Decides}
use Rattle.rom_tree.specs.Tree.{Node}
use Rattle.rom_tree.specs.Names.{Name, names}
use Rattle.image_compare.specs.Diff.{removed_line, added_line, node_lines, names_lines}
use Rattle.image_compare.specs.Paths.{HaveOwnPaths, at_path}
use Rattle.image_compare.specs.Rows.{AreSorted}
use Rattle.image_compare.proofs.Agreed.{same_path}
use Rattle.image_compare.proofs.Stepped.{removed_is, added_is, both_is, old_is, new_is, none_is}

-- ---- paths in order

is_less : (o : Ordering) → true ≡ is_lt o → o ≡ Less
is_less Less e = refl
is_less Equal e = absurd (true≢false e)
is_less Greater e = absurd (true≢false e)

weaker : {X : Type 0} (P Q : X → Type 0) → ((x : X) → P x → Q x) → (xs : List X) → AllByRecursion P xs
    → AllByRecursion Q xs
weaker P Q f [] h = tt
weaker P Q f (x ∷ xs) h = (f x h.0, weaker P Q f xs h.1)

-- a path is before those of some names
abbrev Above : List ℕ → List Name → Type 0
Above p ns = AllByRecursion (λ (n : Name). slice_cmp nat_cmp p n.path ≡ Less) ns

abbrev Before : List ℕ → List (List ℕ) → Type 0
Before p ps = AllByRecursion (λ (q : List ℕ). slice_cmp nat_cmp p q ≡ Less) ps

-- the paths of names rise
abbrev Rise : List Name → Type 0
Rise [] = Unit {0}
Rise (n ∷ ns) = Above n.path ns × Rise ns

further : (p q : List ℕ) → slice_cmp nat_cmp p q ≡ Less → (ns : List Name) → Above q ns → Above p ns
further p q h ns a = weaker (λ (n : Name). slice_cmp nat_cmp q n.path ≡ Less)
    (λ (n : Name). slice_cmp nat_cmp p n.path ≡ Less)
    (λ n k. nat_list_cmp_total.trans p q n.path h k) ns a

-- neighbours in order that differ rise
order_less : (o p : Ordering) → p ≡ ordering_reverse o → is_lt p ≡ false → is_eq o ≡ false → o ≡ Less
order_less Less p e h k = refl
order_less Equal p e h k = absurd (true≢false k)
order_less Greater p e h k = absurd (true≢false (sym (ap is_lt e) ∙ h))

less_by : (x y : List ℕ) → is_lt (slice_cmp nat_cmp y x) ≡ false → bytes_eq x y ≡ false → slice_cmp nat_cmp x y ≡ Less
less_by x y h k = order_less (slice_cmp nat_cmp x y) (slice_cmp nat_cmp y x) (nat_list_cmp_total.antisymm y x) h
    (is_eq-slice_cmp x y ∙ k)

abbrev paths : List Name → List (List ℕ)
paths ns = map (λ (n : Name). n.path) ns

sorted_tail : (n : Name) (ns : List Name) → IsSortedByKey (λ (n : Name). n.path) (slice_cmp nat_cmp) (n ∷ ns)
    → IsSortedByKey (λ (n : Name). n.path) (slice_cmp nat_cmp) ns
sorted_tail n ns s k z low high =
    let e : suc k + 1 ≡ suc (k + 1) = omega arith in
    subst (λ (i : ℕ). is_lt (slice_cmp nat_cmp (get_or (n ∷ ns) i z).path (get_or ns k z).path) ≡ false) e
    (s (suc k) z (omega arith) (omega (arith, high)))

rising : (ns : List Name) → IsSortedByKey (λ (n : Name). n.path) (slice_cmp nat_cmp) ns
    → IsDistinct bytes_eq (paths ns) → Rise ns
unfolding IsDistinct
rising [] s d = tt
rising (n ∷ []) s d = (tt, tt)
rising (n ∷ m ∷ ns) s d =
    let rest = rising (m ∷ ns) (sorted_tail n (m ∷ ns) s) d.1 in
    let first : slice_cmp nat_cmp n.path m.path ≡ Less =
    less_by n.path m.path (s 0 n (omega arith) (omega arith)) d.0.0 in
    ((first, further n.path m.path first ns rest.0), rest)

equal_flips : (x y : List ℕ) → bytes_eq x y ≡ bytes_eq y x
equal_flips x y = sym (is_eq-slice_cmp x y) ∙ (ap is_eq (nat_list_cmp_total.antisymm x y)
    ∙ (turned (slice_cmp nat_cmp y x) ∙ is_eq-slice_cmp y x))
  where
    turned : (o : Ordering) → is_eq (ordering_reverse o) ≡ is_eq o
    turned Less = refl
    turned Equal = refl
    turned Greater = refl

pub sorted_rise : (t : Node) (ns : List Name) → AreSorted t ns → HaveOwnPaths t → Rise ns
sorted_rise t ns s own = rising ns s.sorted (IsDistinct-IsPermutation bytes_eq equal_flips (paths (names t)) (paths ns)
    (IsPermutation-map (λ (n : Name). n.path) (names t) ns s.all) own)

-- ---- what is at a path

here : (n : Name) (ns : List Name) (p : List ℕ) → n.path ≡ p → at_path (n ∷ ns) p ≡ Some n.node
here n ns p e = ap (λ (t : Bool). if t then Some n.node else at_path ns p) ((bytes_eq-Decides n.path p).1 e)

apart : (x y : List ℕ) → slice_cmp nat_cmp x y ≡ Less → bytes_eq x y ≡ false
apart x y h = sym (is_eq-slice_cmp x y) ∙ ap is_eq h

later : (n : Name) (ns : List Name) (p : List ℕ) → slice_cmp nat_cmp n.path p ≡ Less → at_path (n ∷ ns) p ≡ at_path ns p
later n ns p h = ap (λ (t : Bool). if t then Some n.node else at_path ns p) (apart n.path p h)

absent : (p : List ℕ) (ns : List Name) → Above p ns → at_path ns p ≡ None
absent p [] h = refl
absent p (n ∷ ns) h =
    ap (λ (t : Bool). if t then Some n.node else at_path ns p) (equal_flips n.path p ∙ apart p n.path h.0)
    ∙ absent p ns h.1

-- ---- the lists side by side

module _ (places : Bool) (a b : List ℕ) where
  -- the lines of a path by what both have there
  abbrev pub lines_by : List ℕ → Option Node → Option Node → List ℕ
  lines_by p None None = []
  lines_by p (Some x) None = removed_line p
  lines_by p None (Some y) = added_line p
  lines_by p (Some x) (Some y) = node_lines places a b p x y

  abbrev pub lines_at : List Name → List Name → List ℕ → List ℕ
  lines_at xs ys p = lines_by p (at_path xs p) (at_path ys p)

  -- the paths of two lists, and the lines of both
  pub data Merge : List Name → List Name → List (List ℕ) → List ℕ → Type 0 where
    over : Merge [] [] [] []
    old : {x : Name} {xs ys : List Name} {ps : List (List ℕ)} {text : List ℕ} → Above x.path ys → Merge xs ys ps text
        → Merge (x ∷ xs) ys (x.path ∷ ps) (removed_line x.path ++ text)
    new : {y : Name} {xs ys : List Name} {ps : List (List ℕ)} {text : List ℕ} → Above y.path xs → Merge xs ys ps text
        → Merge xs (y ∷ ys) (y.path ∷ ps) (added_line y.path ++ text)
    both : {x y : Name} {xs ys : List Name} {ps : List (List ℕ)} {text : List ℕ} → x.path ≡ y.path
        → Merge xs ys ps text
        → Merge (x ∷ xs) (y ∷ ys) (x.path ∷ ps) (node_lines places a b x.path x.node y.node ++ text)

  abbrev pub Merged : List Name → List Name → Type 0
  Merged xs ys = (ps : List (List ℕ)) × Merge xs ys ps (names_lines places a b xs ys)

  as_lines : (xs ys : List Name) (ps : List (List ℕ)) (text : List ℕ) → names_lines places a b xs ys ≡ text
      → Merge xs ys ps text → Merged xs ys
  as_lines xs ys ps text e m = (ps, subst (Merge xs ys ps) (sym e) m)

  step : (x y : Name) (xs ys : List Name) (r s : Bool) → r ≡ is_lt (slice_cmp nat_cmp x.path y.path)
      → s ≡ is_lt (slice_cmp nat_cmp y.path x.path) → Rise (x ∷ xs) → Rise (y ∷ ys)
      → Merged xs (y ∷ ys) → Merged (x ∷ xs) ys → Merged xs ys → Merged (x ∷ xs) (y ∷ ys)
  step x y xs ys true s d e h k m n o =
      let less = is_less (slice_cmp nat_cmp x.path y.path) d in
      as_lines (x ∷ xs) (y ∷ ys) _ _ (removed_is places a b x y xs ys d)
      (old (less, further x.path y.path less ys k.0) m.1)
  step x y xs ys false true d e h k m n o =
      let less = is_less (slice_cmp nat_cmp y.path x.path) e in
      as_lines (x ∷ xs) (y ∷ ys) _ _ (added_is places a b x y xs ys d e)
      (new (less, further y.path x.path less xs h.0) n.1)
  step x y xs ys false false d e h k m n o =
      as_lines (x ∷ xs) (y ∷ ys) _ _ (both_is places a b x y xs ys d e) (both (same_path x.path y.path d e) o.1)

  pub merged : (xs ys : List Name) → Rise xs → Rise ys → Merged xs ys
  merged [] [] h k = as_lines [] [] _ _ (none_is places a b) over
  merged (x ∷ xs) [] h k = as_lines (x ∷ xs) [] _ _ (old_is places a b x x xs []) (old tt (merged xs [] h.1 k).1)
  merged [] (y ∷ ys) h k = as_lines [] (y ∷ ys) _ _ (new_is places a b y y [] ys) (new tt (merged [] ys h k.1).1)
  merged (x ∷ xs) (y ∷ ys) h k =
      step x y xs ys (is_lt (slice_cmp nat_cmp x.path y.path)) (is_lt (slice_cmp nat_cmp y.path x.path)) refl refl h k
      (merged xs (y ∷ ys) h.1 k) (merged (x ∷ xs) ys h k.1) (merged xs ys h.1 k.1)

  -- what is before all names is before all paths
  before : (p : List ℕ) {xs ys : List Name} {ps : List (List ℕ)} {text : List ℕ} → Merge xs ys ps text → Above p xs
      → Above p ys → Before p ps
  before p over h k = tt
  before p (old l m) h k = (h.0, before p m h.1 k)
  before p (new l m) h k = (k.0, before p m h k.1)
  before p (both e m) h k = (h.0, before p m h.1 k.1)

  above_same : (p q : List ℕ) (ns : List Name) → p ≡ q → Above q ns → Above p ns
  above_same p q ns e h = subst (λ (v : List ℕ). Above v ns) (sym e) h

  pub paths_rise : {xs ys : List Name} {ps : List (List ℕ)} {text : List ℕ} → Merge xs ys ps text → Rise xs → Rise ys
      → IsStrictlySortedBy (slice_cmp nat_cmp) ps
  unfolding IsStrictlySortedBy
  paths_rise over h k = tt
  paths_rise (old {x = x} l m) h k = (before x.path m h.0 l, paths_rise m h.1 k)
  paths_rise (new {y = y} l m) h k = (before y.path m l k.0, paths_rise m h k.1)
  paths_rise (both {x = x} {y = y} {ys = ys} e m) h k =
      (before x.path m h.0 (above_same x.path y.path ys e k.0), paths_rise m h.1 k.1)

  -- each name's path is among the paths
  first_held : (p q : List ℕ) (ps : List (List ℕ)) → p ≡ q → Contains (p ∷ ps) q
  first_held p q ps e = (0, omega arith, e)

  more_held : (p : List ℕ) (ps : List (List ℕ)) (ns : List Name) → AllByRecursion (λ (n : Name). Contains ps n.path) ns
      → AllByRecursion (λ (n : Name). Contains (p ∷ ps) n.path) ns
  more_held p ps ns h = weaker (λ (n : Name). Contains ps n.path) (λ (n : Name). Contains (p ∷ ps) n.path)
      (λ n c. (suc c.0, (let l = c.1 in omega (arith, l)), c.2)) ns h

  old_held : {xs ys : List Name} {ps : List (List ℕ)} {text : List ℕ} → Merge xs ys ps text
      → AllByRecursion (λ (n : Name). Contains ps n.path) xs
  old_held over = tt
  old_held (old {x = x} {xs = xs} {ps = ps} l m) =
      (first_held x.path x.path ps refl, more_held x.path ps xs (old_held m))
  old_held (new {y = y} {xs = xs} {ps = ps} l m) = more_held y.path ps xs (old_held m)
  old_held (both {x = x} {xs = xs} {ps = ps} e m) =
      (first_held x.path x.path ps refl, more_held x.path ps xs (old_held m))

  new_held : {xs ys : List Name} {ps : List (List ℕ)} {text : List ℕ} → Merge xs ys ps text
      → AllByRecursion (λ (n : Name). Contains ps n.path) ys
  new_held over = tt
  new_held (old {x = x} {ys = ys} {ps = ps} l m) = more_held x.path ps ys (new_held m)
  new_held (new {y = y} {ys = ys} {ps = ps} l m) =
      (first_held y.path y.path ps refl, more_held y.path ps ys (new_held m))
  new_held (both {x = x} {y = y} {ys = ys} {ps = ps} e m) =
      (first_held x.path y.path ps e, more_held x.path ps ys (new_held m))

  pub all_held : (xs ys : List Name) (ps : List (List ℕ)) (text : List ℕ) → Merge xs ys ps text
      → All (λ (n : Name). Contains ps n.path) (xs ++ ys)
  all_held xs ys ps text m =
      let P : Name → Type 0 = λ n. Contains ps n.path in
      All-append P xs ys (All-from_recursion P xs (old_held m)) (All-from_recursion P ys (new_held m))

  -- the lines of the first path, and those of others
  each_same : (f g : List ℕ → List ℕ) (ps : List (List ℕ)) → AllByRecursion (λ p. g p ≡ f p) ps
      → flat_map g ps ≡ flat_map f ps
  each_same f g [] h = refl
  each_same f g (p ∷ ps) h =
      ap (λ (v : List ℕ). v ++ flat_map g ps) h.0 ∙ ap (λ (v : List ℕ). f p ++ v) (each_same f g ps h.1)

  one_more : (f g : List ℕ → List ℕ) (p : List ℕ) (ps : List (List ℕ)) (first text : List ℕ) → first ≡ f p
      → text ≡ flat_map g ps → AllByRecursion (λ q. g q ≡ f q) ps → first ++ text ≡ f p ++ flat_map f ps
  one_more f g p ps first text e h k =
      ap (λ (v : List ℕ). v ++ text) e ∙ ap (λ (v : List ℕ). f p ++ v) (h ∙ each_same f g ps k)

  lines_are : (p : List ℕ) (o u v w : Option Node) → o ≡ v → u ≡ w → lines_by p o u ≡ lines_by p v w
  lines_are p o u v w d e = ap (λ (z : Option Node). lines_by p z u) d ∙ ap (lines_by p v) e

  pub told : {xs ys : List Name} {ps : List (List ℕ)} {text : List ℕ} → Merge xs ys ps text → Rise xs → Rise ys
      → text ≡ flat_map (lines_at xs ys) ps
  told over h k = refl
  told (old {x = x} {xs = xs} {ys = ys} {ps = ps} {text = rest} l m) h k =
      one_more (lines_at (x ∷ xs) ys) (lines_at xs ys) x.path ps (removed_line x.path) rest
      (sym (lines_are x.path _ _ (Some x.node) None (here x xs x.path refl) (absent x.path ys l)))
      (told m h.1 k)
      (weaker (λ (q : List ℕ). slice_cmp nat_cmp x.path q ≡ Less) _
      (λ q less. sym (lines_are q _ _ (at_path xs q) (at_path ys q) (later x xs q less) refl)) ps
      (before x.path m h.0 l))
  told (new {y = y} {xs = xs} {ys = ys} {ps = ps} {text = rest} l m) h k =
      one_more (lines_at xs (y ∷ ys)) (lines_at xs ys) y.path ps (added_line y.path) rest
      (sym (lines_are y.path _ _ None (Some y.node) (absent y.path xs l) (here y ys y.path refl)))
      (told m h k.1)
      (weaker (λ (q : List ℕ). slice_cmp nat_cmp y.path q ≡ Less) _
      (λ q less. sym (lines_are q _ _ (at_path xs q) (at_path ys q) refl (later y ys q less))) ps
      (before y.path m l k.0))
  told (both {x = x} {y = y} {xs = xs} {ys = ys} {ps = ps} {text = rest} e m) h k =
      one_more (lines_at (x ∷ xs) (y ∷ ys)) (lines_at xs ys) x.path ps (node_lines places a b x.path x.node y.node) rest
      (sym (lines_are x.path _ _ (Some x.node) (Some y.node) (here x xs x.path refl) (here y ys x.path (sym e))))
      (told m h.1 k.1)
      (weaker (λ (q : List ℕ). slice_cmp nat_cmp x.path q ≡ Less) _
      (λ q less. sym (lines_are q _ _ (at_path xs q) (at_path ys q) (later x xs q less)
      (later y ys q (subst (λ (v : List ℕ). slice_cmp nat_cmp v q ≡ Less) e less)))) ps
      (before x.path m h.0 (above_same x.path y.path ys e k.0)))
