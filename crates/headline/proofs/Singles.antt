-- If no two names lead to directories of one number, each directory has one path.
use Rattle.std.proofs.Common.{◌≡◌, ℕ, Bool, true, false, ◌||◌, cond, List, [], ◌∷◌, ◌++◌, Some, refl, sym, ap, subst}
use Rattle.std.proofs.Common.{◌∙◌, eq-eqb}
use Rattle.std.specs.Prelude.{◌==◌}
use Rattle.std.proofs.lemmas.Bool.{eqb-true}
use Rattle.std.proofs.lemmas.List.Folds.{list_any-append}
use Rattle.std.specs.Cmp.Lexicographic.{bytes_decides}
use Rattle.std.specs.List.{list_any}
use Rattle.std.specs.Option.{option_and_then}
use Rattle.std.specs.Str.{bytes_eq}
use Rattle.manifest_tree.specs.Shape.{node_under}
use Rattle.rom_tree.specs.Image.{find_entry}
use Rattle.rom_tree.specs.Names.{Name, names, node_names}
use Rattle.rom_tree.specs.Tree.{Node, node, Body, directory, regular, symlink, block, character, socket, fifo, Entries}
use Rattle.rom_tree.specs.Tree.{no_entries, entry, IsIn, IsCoherent, ino_of, is_directory, nodes}
use Rattle.rom_tree.proofs.Nodes.{in_self}
use Rattle.image_manifest.specs.ByPaths.{HaveOnePath}
use Rattle.image_manifest.proofs.Followed.{in_tree}
use Rattle.image_manifest.proofs.Ways.{true_is_not_false, Among, later, neither, or_false, reaches}

-- the numbers of the directories to which names lead
abbrev mutual
  pub numbers_of : Node → List ℕ
  numbers_of (node a b) = body_numbers a.ino b

  pub body_numbers : ℕ → Body → List ℕ
  body_numbers n (directory es) = n ∷ entries_numbers es
  body_numbers n _ = []

  pub entries_numbers : Entries → List ℕ
  entries_numbers no_entries = []
  entries_numbers (entry name x es) = numbers_of x ++ entries_numbers es

abbrev pub has_number : ℕ → List ℕ → Bool
has_number n ns = list_any (λ k. k == n) ns

-- no number occurs twice
abbrev pub NoneTwice : List ℕ → Type 0
NoneTwice [] = Unit {0}
NoneTwice (n ∷ ns) = (has_number n ns ≡ false) × NoneTwice ns

pub or_front : (a b : Bool) → a ≡ true → (a || b) ≡ true
or_front true b h = refl
or_front false b h = absurd (cc)

pub or_back : (a b : Bool) → b ≡ true → (a || b) ≡ true
or_back true b h = refl
or_back false b h = h

pub in_front : (n : ℕ) (xs ys : List ℕ) → has_number n xs ≡ true → has_number n (xs ++ ys) ≡ true
in_front n xs ys h = list_any-append (λ k. k == n) xs ys ∙ or_front (has_number n xs) (has_number n ys) h

pub in_back : (n : ℕ) (xs ys : List ℕ) → has_number n ys ≡ true → has_number n (xs ++ ys) ≡ true
in_back n xs ys h = list_any-append (λ k. k == n) xs ys ∙ or_back (has_number n xs) (has_number n ys) h

twice_front : (xs ys : List ℕ) → NoneTwice (xs ++ ys) → NoneTwice xs
twice_front [] ys h = tt
twice_front (x ∷ xs) ys h = (
  (or_false (has_number x xs) (has_number x ys)
      (sym (list_any-append (λ k. k == x) xs ys) ∙ h.0)).0,
  twice_front xs ys h.1,
)

twice_back : (xs ys : List ℕ) → NoneTwice (xs ++ ys) → NoneTwice ys
twice_back [] ys h = h
twice_back (x ∷ xs) ys h = twice_back xs ys h.1

-- what is in the front is nowhere behind
not_in_both : (n : ℕ) (xs ys : List ℕ) → NoneTwice (xs ++ ys) → has_number n xs ≡ true → has_number n ys ≡ true → ⊥
not_in_both n [] ys h f g = absurd (cc)
not_in_both n (x ∷ xs) ys h f g =
    elim (x == n) as (λ t. (x == n) ≡ t → (t || has_number n xs) ≡ true → ⊥) [
      | true ↦ λ e k. true_is_not_false (has_number x (xs ++ ys))
          (in_back x xs ys (ap (λ (v : ℕ). has_number v ys) (eqb-true x n e) ∙ g)) h.0
      | false ↦ λ e k. not_in_both n xs ys h.1 k g
    ] refl f

pub twice_join : (xs ys : List ℕ) → NoneTwice xs → NoneTwice ys
    → ((n : ℕ) → has_number n xs ≡ true → has_number n ys ≡ true → ⊥) → NoneTwice (xs ++ ys)
twice_join [] ys h k f = k
twice_join (x ∷ xs) ys h k f = (
  list_any-append (λ k. k == x) xs ys ∙ neither (has_number x xs) (has_number x ys) h.0 (none (has_number x ys) refl),
  twice_join xs ys h.1 k (λ n i j. f n (or_back (x == n) (has_number n xs) i) j),
)
  where
    none : (t : Bool) → has_number x ys ≡ t → t ≡ false
    none false e = refl
    none true e = absurd (f x (or_front (x == x) (has_number x xs) (eq-eqb x x refl)) e)

some_is : (x y : Node) → Some x ≡ Some y → x ≡ y
some_is x y h = cc

-- a directory to which names lead has its number there
own_number : (x : Node) → is_directory x ≡ true → has_number (ino_of x) (numbers_of x) ≡ true
own_number (node a (directory es)) h =
    or_front (a.ino == a.ino) (has_number a.ino (entries_numbers es)) (eq-eqb a.ino a.ino refl)
own_number (node a (regular ps)) h = absurd (cc)
own_number (node a (symlink ps)) h = absurd (cc)
own_number (node a block) h = absurd (cc)
own_number (node a character) h = absurd (cc)
own_number (node a socket) h = absurd (cc)
own_number (node a fifo) h = absurd (cc)

mutual
  number_under : (q : List (List ℕ)) (t x : Node) → node_under q t ≡ Some x → is_directory x ≡ true
      → has_number (ino_of x) (numbers_of t) ≡ true
  number_under [] t x h d = ap (λ (v : Node). has_number (ino_of x) (numbers_of v)) (some_is t x h) ∙ own_number x d
  number_under (m ∷ ms) (node a (directory es)) x h d =
      or_back (a.ino == ino_of x) (has_number (ino_of x) (entries_numbers es)) (number_in m ms es x h d)
  number_under (m ∷ ms) (node a (regular ps)) x h d = absurd (cc)
  number_under (m ∷ ms) (node a (symlink ps)) x h d = absurd (cc)
  number_under (m ∷ ms) (node a block) x h d = absurd (cc)
  number_under (m ∷ ms) (node a character) x h d = absurd (cc)
  number_under (m ∷ ms) (node a socket) x h d = absurd (cc)
  number_under (m ∷ ms) (node a fifo) x h d = absurd (cc)

  number_in : (m : List ℕ) (ms : List (List ℕ)) (es : Entries) (x : Node)
      → option_and_then (λ y. node_under ms y) (find_entry es m) ≡ Some x → is_directory x ≡ true
      → has_number (ino_of x) (entries_numbers es) ≡ true
  number_in m ms no_entries x h d = absurd (cc)
  number_in m ms (entry name y es) x h d =
      elim (bytes_eq name m) as (λ t. option_and_then (λ y. node_under ms y) (cond t (Some y) (find_entry es m))
      ≡ Some x → has_number (ino_of x) (numbers_of y ++ entries_numbers es) ≡ true) [
        | true ↦ λ g. in_front (ino_of x) (numbers_of y) (entries_numbers es) (number_under ms y x g d)
        | false ↦ λ g. in_back (ino_of x) (numbers_of y) (entries_numbers es) (number_in m ms es x g d)
      ] h

same_lists : (m : List ℕ) (ms : List (List ℕ)) (n : List ℕ) (ns : List (List ℕ)) → m ≡ n → ms ≡ ns → m ∷ ms ≡ n ∷ ns
same_lists m ms n ns h k = cc

below_itself : (a n : ℕ) (ns : List ℕ) → has_number a ns ≡ false → a ≡ n → has_number n ns ≡ true → ⊥
below_itself a n ns h e g = true_is_not_false (has_number a ns) (ap (λ (v : ℕ). has_number v ns) e ∙ g) h

mutual
  one_list : (p q : List (List ℕ)) (t x y : Node) → NoneTwice (numbers_of t) → node_under p t ≡ Some x
      → node_under q t ≡ Some y → is_directory x ≡ true → is_directory y ≡ true → ino_of x ≡ ino_of y → p ≡ q
  one_list [] [] t x y s h g d e i = refl
  one_list [] (l ∷ ls) (node a (directory es)) x y s h g d e i =
      absurd (below_itself a.ino (ino_of y) (entries_numbers es) s.0
      (ap ino_of (some_is (node a (directory es)) x h) ∙ i) (number_in l ls es y g e))
  one_list [] (l ∷ ls) (node a (regular ps)) x y s h g d e i = absurd (cc)
  one_list [] (l ∷ ls) (node a (symlink ps)) x y s h g d e i = absurd (cc)
  one_list [] (l ∷ ls) (node a block) x y s h g d e i = absurd (cc)
  one_list [] (l ∷ ls) (node a character) x y s h g d e i = absurd (cc)
  one_list [] (l ∷ ls) (node a socket) x y s h g d e i = absurd (cc)
  one_list [] (l ∷ ls) (node a fifo) x y s h g d e i = absurd (cc)
  one_list (k ∷ ks) [] (node a (directory es)) x y s h g d e i =
      absurd (below_itself a.ino (ino_of x) (entries_numbers es) s.0
      (ap ino_of (some_is (node a (directory es)) y g) ∙ sym i) (number_in k ks es x h d))
  one_list (k ∷ ks) [] (node a (regular ps)) x y s h g d e i = absurd (cc)
  one_list (k ∷ ks) [] (node a (symlink ps)) x y s h g d e i = absurd (cc)
  one_list (k ∷ ks) [] (node a block) x y s h g d e i = absurd (cc)
  one_list (k ∷ ks) [] (node a character) x y s h g d e i = absurd (cc)
  one_list (k ∷ ks) [] (node a socket) x y s h g d e i = absurd (cc)
  one_list (k ∷ ks) [] (node a fifo) x y s h g d e i = absurd (cc)
  one_list (k ∷ ks) (l ∷ ls) (node a (directory es)) x y s h g d e i = one_in k ks l ls es x y s.1 h g d e i
  one_list (k ∷ ks) (l ∷ ls) (node a (regular ps)) x y s h g d e i = absurd (cc)
  one_list (k ∷ ks) (l ∷ ls) (node a (symlink ps)) x y s h g d e i = absurd (cc)
  one_list (k ∷ ks) (l ∷ ls) (node a block) x y s h g d e i = absurd (cc)
  one_list (k ∷ ks) (l ∷ ls) (node a character) x y s h g d e i = absurd (cc)
  one_list (k ∷ ks) (l ∷ ls) (node a socket) x y s h g d e i = absurd (cc)
  one_list (k ∷ ks) (l ∷ ls) (node a fifo) x y s h g d e i = absurd (cc)

  one_in : (k : List ℕ) (ks : List (List ℕ)) (l : List ℕ) (ls : List (List ℕ)) (es : Entries) (x y : Node)
      → NoneTwice (entries_numbers es)
      → option_and_then (λ z. node_under ks z) (find_entry es k) ≡ Some x
      → option_and_then (λ z. node_under ls z) (find_entry es l) ≡ Some y
      → is_directory x ≡ true → is_directory y ≡ true → ino_of x ≡ ino_of y → k ∷ ks ≡ l ∷ ls
  one_in k ks l ls no_entries x y s h g d e i = absurd (cc)
  one_in k ks l ls (entry name z es) x y s h g d e i =
      let own : List ℕ = numbers_of z in
      let after : List ℕ = entries_numbers es in
      elim (bytes_eq name k) as (λ t. bytes_eq name k ≡ t
      → option_and_then (λ v. node_under ks v) (cond t (Some z) (find_entry es k)) ≡ Some x → k ∷ ks ≡ l ∷ ls) [
        | true ↦ λ a f. elim (bytes_eq name l) as
            (λ t. bytes_eq name l ≡ t → option_and_then (λ v. node_under ls v) (cond t (Some z) (find_entry es l))
            ≡ Some y → k ∷ ks ≡ l ∷ ls) [
              | true ↦ λ b c. same_lists k ks l ls (sym ((bytes_decides name k).0 a) ∙ (bytes_decides name l).0 b)
                  (one_list ks ls z x y (twice_front own after s) f c d e i)
              | false ↦ λ b c. absurd (not_in_both (ino_of x) own after s (number_under ks z x f d)
                  (ap (λ (v : ℕ). has_number v after) i ∙ number_in l ls es y c e))
            ] refl g
        | false ↦ λ a f. elim (bytes_eq name l) as
            (λ t. bytes_eq name l ≡ t → option_and_then (λ v. node_under ls v) (cond t (Some z) (find_entry es l))
            ≡ Some y → k ∷ ks ≡ l ∷ ls) [
              | true ↦ λ b c. absurd (not_in_both (ino_of y) own after s (number_under ls z y c e)
                  (ap (λ (v : ℕ). has_number v after) (sym i) ∙ number_in k ks es x f d))
              | false ↦ λ b c. one_in k ks l ls es x y (twice_back own after s) f c d e i
            ] refl g
      ] refl h

below : (t : Node) (n : Name) → Among n (node_names [] t) → Among n (names t)
unfolding names
below t n h = later h

-- what names lead to is a node of the tree
pub in_under : (q : List (List ℕ)) (t x : Node) → node_under q t ≡ Some x → IsIn x (nodes t)
in_under [] t x h = subst (λ (v : Node). IsIn v (nodes t)) (some_is t x h) (in_self t)
in_under (m ∷ ms) t x h = let r = reaches [] m ms t x h in subst (λ (v : Node). IsIn v (nodes t)) r.node
    (in_tree t r.name (below t r.name r.among))

pub one_path : (t : Node) → IsCoherent t → NoneTwice (numbers_of t) → HaveOnePath t
one_path t one s p q x y h g d i =
    let same : x ≡ y = one x y (in_under p t x h) (in_under q t y g) i in
    one_list p q t x y s h g d (ap is_directory (sym same) ∙ d) i
