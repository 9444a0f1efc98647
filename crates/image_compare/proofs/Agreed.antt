-- No line is written exactly if all names are alike.
use Rattle.std.proofs.Common.{◌≡◌, ℕ, Bool, true, false, List, [], ◌∷◌, ◌++◌, Option, Some, None, refl, sym, ap, ◌∙◌}
use Rattle.std.proofs.Common.{subst, inl, inr}
use Rattle.std.specs.Prelude.{◌||◌, if◌then◌else◌}
use Rattle.std.proofs.lemmas.Bool.{true≢false}
use Rattle.std.proofs.lemmas.Bool.Decides.{eqb_tells}
use Rattle.std.proofs.lemmas.Cmp.{nat_list_cmp_total}
use Rattle.std.proofs.lemmas.Map.Text.{is_eq-slice_cmp}
use Rattle.std.proofs.lemmas.Slice.Eq.{bytes_eq-Decides}
use Rattle.std.specs.Cmp.Lexicographic.{slice_cmp}
use Rattle.std.specs.Ordering.{nat_cmp, is_lt, is_eq, ordering_reverse}
use Rattle.std.specs.Str.{bytes_eq}
use Rattle.std.specs.declared.cmp.Ordering.{Ordering}
use Rattle.std.specs.declared.cmp.Ordering.TheVariants.{Less, Equal, Greater}
use Rattle.rom_tree.specs.declared.types.Stat.{Stat}
use Rattle.rom_tree.specs.Listing.{kind_letter}
use Rattle.rom_tree.specs.Tree.{Node, kind_of}
use Rattle.rom_tree.specs.Image.{stat_of, contents_of}
use Rattle.rom_tree.specs.Names.{Name}
use Rattle.image_compare.specs.Alike.{AreAlike, AreAlikeNodes}
use Rattle.image_compare.specs.Diff.{removed_line, added_line, attributes_line, same_attributes, contents_line}
use Rattle.image_compare.specs.Diff.{moved_line}
use Rattle.image_compare.specs.Diff.{start_line, start_of, alike_lines, node_lines, names_lines, is_printed}
use Rattle.image_compare.proofs.Compared.{same_true, same_is}
use Rattle.image_compare.proofs.Stepped.{removed_is, added_is, both_is, old_is, new_is, none_is}
use Rattle.image_compare.proofs.Printed.{printed_both, printed_some, removed_printed, added_printed, attributes_same}
use Rattle.image_compare.proofs.Printed.{attributes_differ}
use Rattle.image_compare.proofs.Printed.{contents_same, contents_differ, moved_same, moved_differ, nodes_alike}
use Rattle.image_compare.proofs.Printed.{nodes_differ}

-- a text that begins with one that is told is not empty
not_none : (a b : List ℕ) → true ≡ is_printed a → a ++ b ≡ [] → ⊥
not_none a b h e = true≢false (ap (λ (v : Bool). v || is_printed b) h ∙ (sym (printed_both a b) ∙ ap is_printed e))

printed_not_none : (a : List ℕ) → true ≡ is_printed a → a ≡ [] → ⊥
printed_not_none a h e = true≢false (h ∙ ap is_printed e)

both_none : (a b : List ℕ) → a ++ b ≡ [] → (a ≡ []) × (b ≡ [])
both_none [] b e = (refl, e)
both_none (c ∷ cs) b e = absurd (not_none (c ∷ cs) b refl e)

none_both : (a b : List ℕ) → a ≡ [] → b ≡ [] → a ++ b ≡ []
none_both a b d e = ap (λ (v : List ℕ). v ++ b) d ∙ e

-- ---- one order for paths

order_equal : (o p : Ordering) → o ≡ ordering_reverse p → false ≡ is_lt o → false ≡ is_lt p → is_eq o ≡ true
order_equal Less p e h k = absurd (true≢false (sym h))
order_equal Equal p e h k = refl
order_equal Greater Less e h k = absurd (true≢false (sym k))
order_equal Greater Equal e h k = absurd (true≢false (sym (ap is_eq e)))
order_equal Greater Greater e h k = absurd (true≢false (sym (ap is_lt e)))

pub same_path : (x y : List ℕ) → false ≡ is_lt (slice_cmp nat_cmp x y) → false ≡ is_lt (slice_cmp nat_cmp y x) → x ≡ y
same_path x y h k = (bytes_eq-Decides x y).0 (sym (is_eq-slice_cmp x y)
    ∙ order_equal (slice_cmp nat_cmp x y) (slice_cmp nat_cmp y x) (nat_list_cmp_total.antisymm x y) h k)

order_self : (o : Ordering) → o ≡ ordering_reverse o → false ≡ is_lt o
order_self Less e = absurd (true≢false (ap is_lt e))
order_self Equal e = refl
order_self Greater e = refl

not_before_self : (x y : List ℕ) → x ≡ y → false ≡ is_lt (slice_cmp nat_cmp x y)
not_before_self x y e = order_self (slice_cmp nat_cmp x x) (nat_list_cmp_total.antisymm x x)
    ∙ ap (λ (v : List ℕ). is_lt (slice_cmp nat_cmp x v)) e

-- ---- the lines of two nodes

module _ (path : List ℕ) where
  attributes_by : (s t : Stat) (r : Bool) → r ≡ same_attributes s t → attributes_line path s t ≡ []
      → same_attributes s t ≡ true
  attributes_by s t true e h = sym e
  attributes_by s t false e h =
      absurd (printed_not_none (attributes_line path s t) (printed_some _ _ _ (attributes_differ path s t e)) h)

  contents_by : (a b : List ℕ) (r : Bool) → r ≡ bytes_eq a b → contents_line path a b ≡ [] → a ≡ b
  contents_by a b true e h = same_is a b e
  contents_by a b false e h =
      absurd (printed_not_none (contents_line path a b) (printed_some _ _ _ (contents_differ path a b e)) h)

  moved_by : (p q : ℕ) → moved_line path p q ≡ [] → p ≡ q
  moved_by p q h = elim (eqb_tells p q) [
    | inl e ↦ e.1
    | inr e ↦ absurd (printed_not_none (moved_line path p q) (printed_some _ _ _ (moved_differ path p q e.1)) h)
  ]

  start_by : (o u : Option ℕ) → start_line path o u ≡ [] → (p q : ℕ) → o ≡ Some p → u ≡ Some q → p ≡ q
  start_by o u h p q d e =
      let P : Option ℕ → Type 0 = λ v. start_line path v u ≡ [] in
      let Q : Option ℕ → Type 0 = λ v. start_line path (Some p) v ≡ [] in
      moved_by p q (subst Q e (subst P d h))

  pub start_none : (o u : Option ℕ) → ((p q : ℕ) → o ≡ Some p → u ≡ Some q → p ≡ q) → start_line path o u ≡ []
  start_none None u h = refl
  start_none (Some p) None h = refl
  start_none (Some p) (Some q) h = moved_same path p q (h p q refl refl)

  module _ (a b : List ℕ) (x y : Node) where
    pub alike_is : (places : Bool) → alike_lines places a b path x y ≡ attributes_line path (stat_of x) (stat_of y)
        ++ (contents_line path (contents_of a x) (contents_of b y)
        ++ (if places then start_line path (start_of x) (start_of y) else []))
    unfolding alike_lines
    alike_is places = refl

    start_at : (places : Bool) → (if places then start_line path (start_of x) (start_of y) else []) ≡ []
        → places ≡ true → (p q : ℕ) → start_of x ≡ Some p → start_of y ≡ Some q → p ≡ q
    start_at true h e = start_by (start_of x) (start_of y) h
    start_at false h e = absurd (true≢false (sym e))

    start_of_none : (places : Bool)
        → (places ≡ true → (p q : ℕ) → start_of x ≡ Some p → start_of y ≡ Some q → p ≡ q)
        → (if places then start_line path (start_of x) (start_of y) else []) ≡ []
    start_of_none true h = start_none (start_of x) (start_of y) (h refl)
    start_of_none false h = refl

    none_nodes : (places : Bool) → node_lines places a b path x y ≡ [] → AreAlikeNodes places a b x y
    none_nodes places h = elim (eqb_tells (kind_letter (kind_of x)) (kind_letter (kind_of y))) [
      | inl k ↦
          let all = sym (alike_is places) ∙ (sym (nodes_alike places a b path x y k.1) ∙ h) in
          let first = both_none (attributes_line path (stat_of x) (stat_of y)) _ all in
          let second = both_none (contents_line path (contents_of a x) (contents_of b y)) _ first.1 in
          record {
            kind = k.1;
            attributes = attributes_by (stat_of x) (stat_of y) (same_attributes (stat_of x) (stat_of y)) refl first.0;
            contents = contents_by (contents_of a x) (contents_of b y) _ refl second.0;
            start = start_at places second.1;
          }
      | inr k ↦ absurd (not_none (removed_line path) (added_line path) (removed_printed path)
          (sym (nodes_differ places a b path x y k.1) ∙ h))
    ]

    nodes_none : (places : Bool) → AreAlikeNodes places a b x y → node_lines places a b path x y ≡ []
    nodes_none places h = nodes_alike places a b path x y h.kind ∙ (alike_is places
        ∙ none_both (attributes_line path (stat_of x) (stat_of y)) _
        (attributes_same path (stat_of x) (stat_of y) (sym h.attributes))
        (none_both (contents_line path (contents_of a x) (contents_of b y)) _
        (contents_same path (contents_of a x) (contents_of b y)
        (same_true (contents_of a x) (contents_of b y) h.contents)) (start_of_none places h.start)))

-- ---- all names

first_alike : (places : Bool) (a b : List ℕ) (x y : Name) (xs ys : List Name) (r s : Bool)
    → r ≡ is_lt (slice_cmp nat_cmp x.path y.path) → s ≡ is_lt (slice_cmp nat_cmp y.path x.path)
    → names_lines places a b (x ∷ xs) (y ∷ ys) ≡ []
    → (x.path ≡ y.path) × AreAlikeNodes places a b x.node y.node × (names_lines places a b xs ys ≡ [])
first_alike places a b x y xs ys true s d e h = absurd (not_none (removed_line x.path)
    (names_lines places a b xs (y ∷ ys)) (removed_printed x.path) (sym (removed_is places a b x y xs ys d) ∙ h))
first_alike places a b x y xs ys false true d e h = absurd (not_none (added_line y.path)
    (names_lines places a b (x ∷ xs) ys) (added_printed y.path) (sym (added_is places a b x y xs ys d e) ∙ h))
first_alike places a b x y xs ys false false d e h =
    let both = both_none (node_lines places a b x.path x.node y.node) (names_lines places a b xs ys)
    (sym (both_is places a b x y xs ys d e) ∙ h) in
    (same_path x.path y.path d e, none_nodes x.path a b x.node y.node places both.0, both.1)

pub none_alike : (places : Bool) (a b : List ℕ) (xs ys : List Name) → names_lines places a b xs ys ≡ []
    → AreAlike places a b xs ys
none_alike places a b [] [] h = tt
none_alike places a b (x ∷ xs) [] h = not_none (removed_line x.path) (names_lines places a b xs [])
    (removed_printed x.path)
    (sym (old_is places a b x x xs []) ∙ h)
none_alike places a b [] (y ∷ ys) h = not_none (added_line y.path) (names_lines places a b [] ys) (added_printed y.path)
    (sym (new_is places a b y y [] ys) ∙ h)
none_alike places a b (x ∷ xs) (y ∷ ys) h =
    let f = first_alike places a b x y xs ys (is_lt (slice_cmp nat_cmp x.path y.path))
    (is_lt (slice_cmp nat_cmp y.path x.path)) refl refl h in
    (f.0, f.1, none_alike places a b xs ys f.2)

pub alike_none : (places : Bool) (a b : List ℕ) (xs ys : List Name) → AreAlike places a b xs ys
    → names_lines places a b xs ys ≡ []
alike_none places a b [] [] h = none_is places a b
alike_none places a b (x ∷ xs) [] h = absurd h
alike_none places a b [] (y ∷ ys) h = absurd h
alike_none places a b (x ∷ xs) (y ∷ ys) h =
    both_is places a b x y xs ys (not_before_self x.path y.path h.0) (not_before_self y.path x.path (sym h.0))
    ∙ none_both (node_lines places a b x.path x.node y.node) (names_lines places a b xs ys)
    (nodes_none x.path a b x.node y.node places h.1) (alike_none places a b xs ys h.2)
