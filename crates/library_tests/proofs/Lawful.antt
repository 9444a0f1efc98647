-- The tree of the sample is lawful.
use Rattle.std.proofs.Common.{◌≡◌, ℕ, ◌==◌, ◌||◌, ◌<◌, nat_lt, Bool, true, false, cond, List, [], ◌∷◌}
use Rattle.std.proofs.Common.{Option, Some, None, is_some}
use Rattle.std.proofs.Common.{if◌then◌else◌, option_and_then, refl, sym, ◌∙◌, ap, subst, arith, bytes_eq}
use Rattle.std.proofs.lemmas.Bool.{ltb-false}
use Rattle.std.proofs.lemmas.List.Elements.{All-from_recursion}
use Rattle.std.specs.Cmp.Lexicographic.{bytes_decides}
use Rattle.std.specs.List.{AllByRecursion, list_any}
use Rattle.image_manifest.specs.ByPaths.{HaveOnePath, has_slash}
use Rattle.image_manifest.specs.Describable.{HasSmallNumbers, IsLawfulList, IsLawfulName, IsLawfulTree}
use Rattle.manifest.specs.Paths.{is_bad_name}
use Rattle.manifest_tree.specs.Shape.{node_under}
use Rattle.rom_tree.specs.Image.{find_entry}
use Rattle.rom_tree.specs.Tree.{Node, Entries, no_entries, entry, entries_of, attributes_of, ino_of, is_directory}
use Rattle.rom_tree.specs.Tree.{nodes, IsIn}
use Rattle.library_tests.specs.Sample.{attributes, root, bin, deep, empty, sh, pipe, link, disk, tty, log}
use Rattle.library_tests.specs.SampleLaws.{each}

-- a property holds of each name with its node
abbrev OfEach : (List ℕ → Node → Type 0) → Entries → Type 0
OfEach P no_entries = Unit {0}
OfEach P (entry name x es) = P name x × OfEach P es

some_is : (x y : Node) → Some x ≡ Some y → x ≡ y
some_is x y e = cc

found : (P : List ℕ → Node → Type 0) (f : Node → Option Node) (x : Node) (es : Entries) (m : List ℕ)
    → OfEach P es → option_and_then f (find_entry es m) ≡ Some x → (z : Node) × P m z × (f z ≡ Some x)
found P f x no_entries m h e = absurd (cc)
found P f x (entry name z es) m h e =
    elim (bytes_eq name m) as (λ t. bytes_eq name m ≡ t → option_and_then f (cond t (Some z) (find_entry es m)) ≡ Some x
    → (w : Node) × P m w × (f w ≡ Some x)) [
      | true ↦ λ a g. (z, subst (λ n. P n z) ((bytes_decides name m).0 a) h.0, g)
      | false ↦ λ a g. found P f x es m h.1 g
    ] refl e

-- the numbers of the directories, and their paths
abbrev is_top : ℕ → Bool
is_top n = (n == 1) || ((n == 2) || ((n == 4) || (n == 10)))

abbrev path_by : ℕ → List (List ℕ)
path_by n =
    if n == 1 then [] else
    if n == 2 then (98 ∷ 105 ∷ 110 ∷ []) ∷ [] else
    if n == 4 then (98 ∷ 105 ∷ 110 ∷ []) ∷ (100 ∷ 101 ∷ 101 ∷ 112 ∷ []) ∷ [] else
    (101 ∷ 109 ∷ 112 ∷ 116 ∷ 121 ∷ []) ∷ []

-- a node by its number, and the path of a directory
abbrev Led : List (List ℕ) → Node → Type 0
Led p x = (is_directory x ≡ is_top (ino_of x)) × (is_top (ino_of x) ≡ true → p ≡ path_by (ino_of x))

-- all paths that lead on from a node
abbrev LedOn : (List (List ℕ) → List (List ℕ)) → Node → Type 0
LedOn F z = (ms : List (List ℕ)) (x : Node) → node_under ms z ≡ Some x → Led (F ms) x

within : (F : List (List ℕ) → List (List ℕ)) (z : Node) → Led (F []) z
    → OfEach (λ name w. LedOn (λ ms. F (name ∷ ms)) w) (entries_of z) → LedOn F z
within F z led below [] x e = subst (λ v. Led (F []) v) (some_is z x e) led
within F z led below (m ∷ ms) x e =
    let r = found (λ name w. LedOn (λ q. F (name ∷ q)) w) (λ w. node_under ms w) x (entries_of z) m below e in
    r.1 ms x r.2

leaf : (z : Node) → entries_of z ≡ no_entries → is_directory z ≡ false → is_top (ino_of z) ≡ false
    → (F : List (List ℕ) → List (List ℕ)) → LedOn F z
leaf z none d n F =
    within F z (d ∙ sym n, λ h. absurd (cc))
    (subst (λ es. OfEach (λ name w. LedOn (λ ms. F (name ∷ ms)) w) es) (sym none) tt)

led : (p : List (List ℕ)) (x : Node) → node_under p root ≡ Some x → Led p x
led = within (λ q. q) root (refl, λ h. refl) (
  within _ bin (refl, λ h. refl)
      (leaf sh refl refl refl _, (within _ deep (refl, λ h. refl) (leaf pipe refl refl refl _, tt), tt)),
  (
    leaf link refl refl refl _,
    (
      leaf disk refl refl refl _,
      (
        leaf tty refl refl refl _,
        (
          leaf log refl refl refl _,
          (leaf sh refl refl refl _, (within _ empty (refl, λ h. refl) tt, tt)),
        ),
      ),
    ),
  ),
)

one_path : HaveOnePath root
one_path p q x y h g d i =
    let a = led p x h in
    let b = led q y g in
    let top : is_top (ino_of x) ≡ true = sym a.0 ∙ d in
    a.1 top ∙ ap path_by i ∙ sym (b.1 (ap is_top (sym i) ∙ top))

small : (name : List ℕ) → list_any (λ b. nat_lt 255 b) name ≡ false → AllByRecursion (λ b. b < 256) name
small [] h = tt
small (x ∷ xs) h =
    elim (nat_lt 255 x) as (λ t. nat_lt 255 x ≡ t → (t || list_any (λ b. nat_lt 255 b) xs) ≡ false
    → AllByRecursion (λ b. b < 256) (x ∷ xs)) [
      | true ↦ λ a g. absurd (cc)
      | false ↦ λ a g. (omega (arith, ltb-false 255 x a), small xs g)
    ] refl h

-- not a lawful name, and not a lawful list
abbrev is_bad : List ℕ → Bool
is_bad n = list_any (λ b. nat_lt 255 b) n || (list_any (λ b. b == 0) n || (has_slash n || is_bad_name n))

abbrev has_bad : Entries → Bool
has_bad no_entries = false
has_bad (entry name x es) = is_bad name || (is_some (find_entry es name) || has_bad es)

neither : (a b : Bool) → (a || b) ≡ false → (a ≡ false) × (b ≡ false)
neither true b h = absurd (cc)
neither false b h = (refl, h)

none : (o : Option Node) → is_some o ≡ false → o ≡ None
none None h = refl
none (Some x) h = absurd (cc)

lawful_name : (n : List ℕ) → is_bad n ≡ false → IsLawfulName n
lawful_name n h =
    let a = neither (list_any (λ b. nat_lt 255 b) n) _ h in
    let b = neither (list_any (λ b. b == 0) n) _ a.1 in
    let c = neither (has_slash n) (is_bad_name n) b.1 in
    record {
      bytes = All-from_recursion (λ b. b < 256) n (small n a.0);
      no_zero = b.0;
      no_slash = c.0;
      good = c.1;
    }

lawful_list : (es : Entries) → has_bad es ≡ false → IsLawfulList es
lawful_list no_entries h = tt
lawful_list (entry name x es) h =
    let a = neither (is_bad name) (is_some (find_entry es name) || has_bad es) h in
    let b = neither (is_some (find_entry es name)) (has_bad es) a.1 in
    (lawful_name name a.0, none (find_entry es name) b.0, lawful_list es b.1)

lists : (x : Node) → IsIn x (nodes root) → IsLawfulList (entries_of x)
unfolding is_bad_name
lists x k = lawful_list (entries_of x)
    (each (λ y. has_bad (entries_of y) ≡ false) refl refl refl refl refl refl refl refl refl refl x k)

numbered : (ino mode major minor : ℕ) → mode < 4096 → major < 256 → minor < 256
    → HasSmallNumbers (attributes ino mode major minor)
numbered ino mode major minor a b c = record {
  mode = a;
  uid = omega arith;
  gid = omega arith;
  major = omega (arith, b);
  minor = omega (arith, c);
}

numbers : (x : Node) → IsIn x (nodes root) → HasSmallNumbers (attributes_of x)
numbers =
    let small : (ino mode : ℕ) → mode < 4096 → HasSmallNumbers (attributes ino mode 0 0) =
    (λ ino mode a. numbered ino mode 0 0 a (omega arith) (omega arith)) in
    each (λ x. HasSmallNumbers (attributes_of x)) (small 1 493 (omega arith)) (small 2 448 (omega arith))
    (small 3 2541 (omega arith)) (small 4 365 (omega arith)) (small 5 420 (omega arith)) (small 6 511 (omega arith))
    (numbered 7 432 8 1 (omega arith) (omega arith) (omega arith))
    (numbered 8 400 4 64 (omega arith) (omega arith) (omega arith)) (small 9 7 (omega arith))
    (small 10 0 (omega arith))

pub lawful : IsLawfulTree root
lawful = record { root = refl; lists = lists; numbers = numbers; directories = one_path }
