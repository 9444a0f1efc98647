-- Lines that are put only if something differs.
use Rattle.std.proofs.Common.{◌≡◌, ℕ, Bool, true, false, List, [], ◌∷◌, ◌++◌, length, refl, sym, ap, ◌∙◌, subst}
use Rattle.std.proofs.Common.{eq-eqb}
use Rattle.std.proofs.lemmas.List.{length-map}
use Rattle.std.proofs.lemmas.Bool.{ne_eqb}
use Rattle.std.specs.Prelude.{◌||◌, decimal, if◌then◌else◌}
use Rattle.std.specs.Str.{bytes_eq}
use Rattle.rom_fields.specs.Texts.{escaped}
use Rattle.rom_fields.specs.Written.{Puts, Sink}
use Rattle.rom_fields.proofs.Joins.{puts_nothing, chain}
use Rattle.rom_tree.specs.Image.{stat_of, contents_of}
use Rattle.rom_tree.specs.declared.types.Stat.{Stat}
use Rattle.rom_tree.specs.Listing.{kind_letter}
use Rattle.rom_tree.specs.Tree.{Node, kind_of, places_of}
use Rattle.std.specs.Prelude.{slice_index}
use Rattle.image_info.specs.Map.{eight_digits}
use Rattle.image_compare.specs.Diff.{attributes_line, attributes_text, same_attributes, contents_line, moved_line}
use Rattle.image_compare.specs.Diff.{node_lines, alike_lines, removed_line, added_line, is_printed}
use Rattle.image_compare.specs.Diff.{start_line, start_of}

-- a text that is another one was put, too
pub puts_as : (s t : Sink) (a b : List ℕ) → a ≡ b → Puts s t b → Puts s t a
puts_as s t a b e h = let P : List ℕ → Type 0 = λ v. Puts s t v in subst P (sym e) h

pub puts_none : (s : Sink) (a : List ℕ) → a ≡ [] → Puts s s a
puts_none s a e = puts_as s s a [] e (puts_nothing s)

pub printed_none : (a : List ℕ) → a ≡ [] → false ≡ is_printed a
printed_none a e = sym (ap is_printed e)

pub printed_some : (a : List ℕ) (c : ℕ) (cs : List ℕ) → a ≡ c ∷ cs → true ≡ is_printed a
printed_some a c cs e = sym (ap is_printed e)

-- ---- attributes

pub attributes_same : (path : List ℕ) (s t : Stat) → true ≡ same_attributes s t → attributes_line path s t ≡ []
unfolding attributes_line
attributes_same path s t e = rw (sym e) refl

pub attributes_differ : (path : List ℕ) (s t : Stat) → false ≡ same_attributes s t
    → attributes_line path s t ≡ 109 ∷ 32 ∷ [] ++ (escaped path ++ (32 ∷ []
    ++ (attributes_text s ++ (32 ∷ [] ++ (attributes_text t ++ 10 ∷ [])))))
unfolding attributes_line
attributes_differ path s t e = rw (sym e) refl

-- ---- contents

pub contents_same : (path a b : List ℕ) → true ≡ bytes_eq a b → contents_line path a b ≡ []
unfolding contents_line
contents_same path a b e = rw (sym e) refl

pub contents_differ : (path a b : List ℕ) → false ≡ bytes_eq a b
    → contents_line path a b ≡ 99 ∷ 32 ∷ [] ++ (escaped path ++ (32 ∷ []
    ++ (decimal (length a) ++ (32 ∷ [] ++ (decimal (length b) ++ 10 ∷ [])))))
unfolding contents_line
contents_differ path a b e = rw (sym e) refl

-- ---- places

pub moved_same : (path : List ℕ) (p q : ℕ) → p ≡ q → moved_line path p q ≡ []
unfolding moved_line
moved_same path p q e = rw (eq-eqb p q e) refl

pub moved_differ : (path : List ℕ) (p q : ℕ) → (p ≡ q → ⊥)
    → moved_line path p q ≡ 64 ∷ 32 ∷ [] ++ (escaped path ++ (32 ∷ 48 ∷ 120 ∷ []
    ++ (eight_digits p ++ (32 ∷ 48 ∷ 120 ∷ [] ++ (eight_digits q ++ 10 ∷ [])))))
unfolding moved_line
moved_differ path p q e = rw (ne_eqb p q e) refl

-- ---- kinds

pub nodes_alike : (places : Bool) (a b path : List ℕ) (x y : Node)
    → kind_letter (kind_of x) ≡ kind_letter (kind_of y)
    → node_lines places a b path x y ≡ alike_lines places a b path x y
unfolding node_lines
nodes_alike places a b path x y e = rw (eq-eqb (kind_letter (kind_of x)) (kind_letter (kind_of y)) e) refl

pub nodes_differ : (places : Bool) (a b path : List ℕ) (x y : Node)
    → (kind_letter (kind_of x) ≡ kind_letter (kind_of y) → ⊥)
    → node_lines places a b path x y ≡ removed_line path ++ added_line path
unfolding node_lines
nodes_differ places a b path x y e = rw (ne_eqb (kind_letter (kind_of x)) (kind_letter (kind_of y)) e) refl

pub removed_printed : (path : List ℕ) → true ≡ is_printed (removed_line path)
unfolding removed_line
removed_printed path = refl

pub added_printed : (path : List ℕ) → true ≡ is_printed (added_line path)
unfolding added_line
added_printed path = refl

-- ---- one text after another

pub printed_both : (a b : List ℕ) → is_printed (a ++ b) ≡ (is_printed a || is_printed b)
printed_both [] b = refl
printed_both (c ∷ cs) b = refl

any_printed : (a b c : List ℕ) → is_printed (a ++ (b ++ c)) ≡ (is_printed a || (is_printed b || is_printed c))
any_printed a b c = printed_both a (b ++ c) ∙ ap (λ (v : Bool). is_printed a || v) (printed_both b c)

module _ (places : Bool) (a b path : List ℕ) (p q : Node) (so sn : Stat) (d : so ≡ stat_of p) (e : sn ≡ stat_of q) where
  attributes_are : attributes_line path so sn ≡ attributes_line path (stat_of p) (stat_of q)
  attributes_are = ap (λ (v : Stat). attributes_line path v sn) d ∙ ap (attributes_line path (stat_of p)) e

  -- the three lines of two nodes of one kind
  pub alike_put : (s t u v : Sink) → Puts s t (attributes_line path so sn)
      → Puts t u (contents_line path (contents_of a p) (contents_of b q))
      → Puts u v (if places then start_line path (start_of p) (start_of q) else [])
      → Puts s v (alike_lines places a b path p q)
  unfolding alike_lines
  alike_put s t u v h k l = chain (puts_as s t (attributes_line path (stat_of p) (stat_of q))
      (attributes_line path so sn) (sym attributes_are) h) (chain k l)

  -- and whether there are any
  pub alike_printed : (r x y z : Bool) → r ≡ (x || (y || z)) → x ≡ is_printed (attributes_line path so sn)
      → y ≡ is_printed (contents_line path (contents_of a p) (contents_of b q))
      → z ≡ is_printed (if places then start_line path (start_of p) (start_of q) else [])
      → r ≡ is_printed (alike_lines places a b path p q)
  unfolding alike_lines
  alike_printed r x y z h k l m =
      h ∙ (ap (λ (v : Bool). v || (y || z)) (k ∙ ap is_printed attributes_are)
      ∙ (ap (λ (v : Bool). is_printed (attributes_line path (stat_of p) (stat_of q)) || (v || z)) l
      ∙ (ap (λ (v : Bool). is_printed (attributes_line path (stat_of p) (stat_of q))
      || (is_printed (contents_line path (contents_of a p) (contents_of b q)) || v)) m
      ∙ sym (any_printed (attributes_line path (stat_of p) (stat_of q))
      (contents_line path (contents_of a p) (contents_of b q))
      (if places then start_line path (start_of p) (start_of q) else [])))))

-- two lengths that are those of the contents
pub size_of : (x : Node) (b : List ℕ) (s : Stat) → s ≡ stat_of x → s.size ≡ length (contents_of b x)
size_of x b s e = ap (λ (v : Stat). v.size) e ∙ sym (length-map (places_of x) (λ p. slice_index b p))

pub contents_put : (s t : Sink) (path a b : List ℕ) (m n : ℕ) → m ≡ length a → n ≡ length b → false ≡ bytes_eq a b
    → Puts s t (99 ∷ 32 ∷ [] ++ (escaped path ++ (32 ∷ [] ++ (decimal m ++ (32 ∷ [] ++ (decimal n ++ 10 ∷ []))))))
    → Puts s t (contents_line path a b)
contents_put s t path a b m n h k d p =
    let P : ℕ → Type 0 = λ v. Puts s t
    (99 ∷ 32 ∷ [] ++ (escaped path ++ (32 ∷ [] ++ (decimal v ++ (32 ∷ [] ++ (decimal n ++ 10 ∷ [])))))) in
    let Q : ℕ → Type 0 = λ v. Puts s t
    (99 ∷ 32 ∷ [] ++ (escaped path ++ (32 ∷ [] ++ (decimal (length a) ++ (32 ∷ [] ++ (decimal v ++ 10 ∷ [])))))) in
    puts_as s t (contents_line path a b) _ (contents_differ path a b d) (subst Q k (subst P h p))

-- ---- letters of kinds

module _ (p q : Node) (s t : Stat) (x y : ℕ) (d : s ≡ stat_of p) (e : t ≡ stat_of q) (h : x ≡ kind_letter s.kind)
    (k : y ≡ kind_letter t.kind) where
  first_letter : x ≡ kind_letter (kind_of p)
  first_letter = h ∙ ap (λ (v : Stat). kind_letter v.kind) d

  second_letter : y ≡ kind_letter (kind_of q)
  second_letter = k ∙ ap (λ (v : Stat). kind_letter v.kind) e

  pub same_kinds : x ≡ y → kind_letter (kind_of p) ≡ kind_letter (kind_of q)
  same_kinds i = sym first_letter ∙ (i ∙ second_letter)

  pub other_kinds : (x ≡ y → ⊥) → kind_letter (kind_of p) ≡ kind_letter (kind_of q) → ⊥
  other_kinds i j = i (first_letter ∙ (j ∙ sym second_letter))

pub other_printed : (places : Bool) (a b path : List ℕ) (x y : Node)
    → (kind_letter (kind_of x) ≡ kind_letter (kind_of y) → ⊥) → true ≡ is_printed (node_lines places a b path x y)
unfolding removed_line
other_printed places a b path x y e = sym (ap is_printed (nodes_differ places a b path x y e))
