-- Paths of different names are apart.
use Rattle.std.proofs.Common.{◌≡◌, ℕ, zero, suc, ◌<◌, Bool, true, false, ◌||◌, List, [], ◌∷◌, ◌++◌, length, get_or}
use Rattle.std.proofs.Common.{Option, Some, None, refl, sym, ap, ◌∙◌, append_assoc, arith}
use Rattle.std.specs.Cmp.Lexicographic.{bytes_decides}
use Rattle.std.specs.List.{list_any}
use Rattle.std.specs.Option.{option_and_then}
use Rattle.std.specs.Str.{bytes_eq}
use Rattle.std.proofs.lemmas.Bool.{eq-eqb}
use Rattle.manifest.specs.Paths.{path_of}
use Rattle.manifest_tree.specs.Shape.{node_under}
use Rattle.rom_tree.specs.Image.{find_entry}
use Rattle.rom_tree.specs.Names.{Name}
use Rattle.rom_tree.specs.Tree.{Node, entries_of}
use Rattle.image_manifest.specs.ByPaths.{has_slash}
use Rattle.image_manifest.proofs.Plain.{PathsDiffer, has_path}
use Rattle.image_manifest.proofs.Ways.{Among, first, later, or_false}

pub among_at : (ns : List Name) (i : ℕ) (e : Name) → i < length ns → Among (get_or ns i e) ns
among_at [] i e h = absurd (omega (arith, h))
among_at (n ∷ ns) zero e h = first
among_at (n ∷ ns) (suc i) e h = later (among_at ns i e (omega (arith, h)))

or_true : (a b : Bool) → b ≡ true → (a || b) ≡ true
or_true true b h = refl
or_true false b h = h

here_true : (a b : Bool) → a ≡ true → (a || b) ≡ true
here_true true b h = refl
here_true false b h = absurd (cc)

has_at : (ns : List Name) (i : ℕ) (e : Name) (p : List ℕ) → i < length ns → (get_or ns i e).path ≡ p
    → has_path p ns ≡ true
has_at [] i e p h is = absurd (omega (arith, h))
has_at (n ∷ ns) zero e p h is = here_true (bytes_eq n.path p) (has_path p ns) ((bytes_decides n.path p).1 is)
has_at (n ∷ ns) (suc i) e p h is =
    or_true (bytes_eq n.path p) (has_path p ns) (has_at ns i e p (omega (arith, h)) is)

true_false : (b : Bool) → b ≡ true → b ≡ false → ⊥
true_false b h g = cc

-- two names with one path are one
pub differ_at : (ns : List Name) (i j : ℕ) (e : Name) → PathsDiffer ns → i < length ns → j < length ns
    → (get_or ns i e).path ≡ (get_or ns j e).path → i ≡ j
differ_at [] i j e d a b is = absurd (omega (arith, a))
differ_at (n ∷ ns) zero zero e d a b is = refl
differ_at (n ∷ ns) zero (suc j) e d a b is =
    absurd (true_false (has_path n.path ns) (has_at ns j e n.path (omega (arith, b)) (sym is)) d.0)
differ_at (n ∷ ns) (suc i) zero e d a b is =
    absurd (true_false (has_path n.path ns) (has_at ns i e n.path (omega (arith, a)) is) d.0)
differ_at (n ∷ ns) (suc i) (suc j) e d a b is =
    ap suc (differ_at ns i j e d.1 (omega (arith, a)) (omega (arith, b)) is)

-- ---- a path that leads through another has its names first

head_is : (a b : ℕ) (xs ys : List ℕ) → a ∷ xs ≡ b ∷ ys → a ≡ b
head_is a b xs ys is = cc

tail_is : (a b : ℕ) (xs ys : List ℕ) → a ∷ xs ≡ b ∷ ys → xs ≡ ys
tail_is a b xs ys is = cc

no_slash_here : (b : ℕ) (bs : List ℕ) → has_slash (b ∷ bs) ≡ false → b ≡ 47 → ⊥
no_slash_here b bs plain is = true_false _ (eq-eqb b 47 is) (or_false _ (has_slash bs) plain).0

no_slash_later : (b : ℕ) (bs : List ℕ) → has_slash (b ∷ bs) ≡ false → has_slash bs ≡ false
no_slash_later b bs plain = (or_false _ (has_slash bs) plain).1

-- what follows a name: a slash, or nothing
pub data Follows : List ℕ → Type 0 where
  end : Follows []
  slash : (bs : List ℕ) → Follows (47 ∷ bs)

pub follows_path : (ns : List (List ℕ)) → Follows (path_of ns)
follows_path [] = end
follows_path (n ∷ ns) = slash (n ++ path_of ns)

begins_with_slash : (b : ℕ) (us vs : List ℕ) → Follows us → us ≡ b ∷ vs → b ≡ 47
begins_with_slash b us vs end is = absurd (cc)
begins_with_slash b us vs (slash bs) is = sym (head_is 47 b bs vs is)

-- names without slashes that are followed by the same are the same
same_first : (n k us vs : List ℕ) → has_slash n ≡ false → has_slash k ≡ false → Follows us → Follows vs
    → n ++ us ≡ k ++ vs → (n ≡ k) × (us ≡ vs)
same_first [] [] us vs p q f g is = (refl, is)
same_first [] (b ∷ k) us vs p q f g is =
    absurd (no_slash_here b k q (begins_with_slash b us (k ++ vs) f is))
same_first (a ∷ n) [] us vs p q f g is =
    absurd (no_slash_here a n p (begins_with_slash a vs (n ++ us) g (sym is)))
same_first (a ∷ n) (b ∷ k) us vs p q f g is =
    let more = same_first n k us vs (no_slash_later a n p) (no_slash_later b k q) f g
    (tail_is a b (n ++ us) (k ++ vs) is) in
    (ap (λ (x : ℕ). x ∷ n) (head_is a b (n ++ us) (k ++ vs) is) ∙ ap (λ (x : List ℕ). b ∷ x) more.0, more.1)

follows_more : (ns : List (List ℕ)) (rest : List ℕ) → Follows (path_of ns ++ 47 ∷ rest)
follows_more [] rest = slash rest
follows_more (n ∷ ns) rest = slash ((n ++ path_of ns) ++ 47 ∷ rest)

pub longer : (ns ks : List (List ℕ)) (rest : List ℕ) → list_any has_slash ns ≡ false → list_any has_slash ks ≡ false
    → path_of ks ≡ path_of ns ++ 47 ∷ rest → (k : List ℕ) × (more : List (List ℕ)) × (ks ≡ ns ++ k ∷ more)
longer [] [] rest p q is = absurd (cc)
longer [] (k ∷ ks) rest p q is = (k, ks, refl)
longer (n ∷ ns) [] rest p q is = absurd (cc)
longer (n ∷ ns) (k ∷ ks) rest p q is =
    let s = or_false (has_slash n) (list_any has_slash ns) p in
    let t = or_false (has_slash k) (list_any has_slash ks) q in
    let both = same_first n k (path_of ns ++ 47 ∷ rest) (path_of ks) s.0 t.0 (follows_more ns rest) (follows_path ks)
    (sym (append_assoc n (path_of ns) (47 ∷ rest)) ∙ sym (tail_is 47 47 (k ++ path_of ks) _ is)) in
    let more = longer ns ks rest s.1 t.1 (sym both.1) in (
      more.0,
      more.1,
      ap (λ (x : List ℕ). x ∷ ks) (sym both.0) ∙ ap (λ (x : List (List ℕ)). n ∷ x) more.2,
    )

-- ---- below a node with no entries there is nothing

under_append : (ns ks : List (List ℕ)) (t : Node)
    → node_under (ns ++ ks) t ≡ option_and_then (λ x. node_under ks x) (node_under ns t)
under_append [] ks t = refl
under_append (n ∷ ns) ks t = by (λ x. under_append ns ks x) (find_entry (entries_of t) n)
  where
    by : ((x : Node) → node_under (ns ++ ks) x ≡ option_and_then (λ y. node_under ks y) (node_under ns x))
        → (o : Option Node) → option_and_then (λ x. node_under (ns ++ ks) x) o
        ≡ option_and_then (λ x. node_under ks x) (option_and_then (λ x. node_under ns x) o)
    by each None = refl
    by each (Some x) = each x

pub nothing_below : (ns : List (List ℕ)) (k : List ℕ) (more : List (List ℕ)) (t x y : Node)
    → node_under ns t ≡ Some x → find_entry (entries_of x) k ≡ None → node_under (ns ++ k ∷ more) t ≡ Some y → ⊥
nothing_below ns k more t x y is none found =
    let at : node_under (ns ++ k ∷ more) t ≡ None =
    under_append ns (k ∷ more) t ∙ ap (λ (o : Option Node). option_and_then (λ z. node_under (k ∷ more) z) o) is
    ∙ ap (λ (o : Option Node). option_and_then (λ z. node_under more z) o) none in
    never y (sym found ∙ at)
  where
    never : (z : Node) → Some z ≡ None → ⊥
    never z h = cc
