-- The nodes of two trees that are alike, and files that are known by their line.
use Rattle.std.proofs.Common.{◌≡◌, ◌≢◌, List, [], ◌∷◌, map, refl, sym, ap, subst, ◌∙◌, inl, inr, Option, Some, None}
use Rattle.std.proofs.Common.{◌↔◌}
use Rattle.std.specs.Option.{option_and_then, option_map}
use Rattle.std.specs.List.{AllByRecursion as Every}
use Rattle.record_forest.specs.Members.{Has, Pairs}
use Rattle.record_forest.proofs.Lists.{pairs_pick}
use Rattle.manifest_tree.specs.Files.{Placed}

-- both are there, and alike, or neither is
abbrev pub Alike : {X Y : Type 0} → (X → Y → Type 0) → Option X → Option Y → Type 0
Alike R None None = Unit {0}
Alike R None (Some y) = ⊥
Alike R (Some x) None = ⊥
Alike R (Some x) (Some y) = R x y

-- what is alike leads to what is alike
pub then_alike : {X Y Z W : Type 0} (R : X → Y → Type 0) (S : Z → W → Type 0) (f : X → Option Z) (g : Y → Option W)
    (o : Option X) (k : Option Y)
    → Alike R o k → ((x : X) (y : Y) → R x y → Alike S (f x) (g y))
    → Alike S (option_and_then f o) (option_and_then g k)
then_alike R S f g None None a h = tt
then_alike R S f g None (Some y) a h = absurd a
then_alike R S f g (Some x) None a h = absurd a
then_alike R S f g (Some x) (Some y) a h = h x y a

pub alike_map : {X Y Z : Type 0} (R : X → Y → Type 0) (f : X → Z) (g : Y → Z) → ((x : X) (y : Y) → R x y → f x ≡ g y)
    → (o : Option X) (k : Option Y) → Alike R o k → option_map f o ≡ option_map g k
alike_map R f g h None None a = refl
alike_map R f g h None (Some y) a = absurd a
alike_map R f g h (Some x) None a = absurd a
alike_map R f g h (Some x) (Some y) a = ap Some (h x y a)

pub alike_some : {X Y : Type 0} (R : X → Y → Type 0) (o : Option X) (k : Option Y) (x : X) (y : Y) → Alike R o k
    → o ≡ Some x → k ≡ Some y → R x y
alike_some R o k x y a e f = subst (λ u. Alike R (Some x) u) f (subst (λ u. Alike R u k) e a)

-- two members are one, or are apart in both
pub same_both : (xs : List Placed) (x y : Placed) → Pairs (λ (u v : Placed). u.place ≢ v.place) xs
    → Pairs (λ (u v : Placed). u.inode.line ≢ v.inode.line) xs → Has (λ u. u ≡ x) xs → Has (λ u. u ≡ y) xs
    → (x.place ≡ y.place) ↔ (x.inode.line ≡ y.inode.line)
same_both xs x y p l h k = (
  λ e. elim (pairs_pick (λ (u v : Placed). u.place ≢ v.place) (λ u. u ≡ x) (λ u. u ≡ y) xs p h k) [
    | inl s ↦ ap (λ (u : Placed). u.inode.line) (sym s.1 ∙ s.2)
    | inr s ↦ elim s.4 [
      | inl n ↦ absurd (n (ap (λ (u : Placed). u.place) s.2 ∙ e ∙ sym (ap (λ (u : Placed). u.place) s.3)))
      | inr n ↦ absurd (n (ap (λ (u : Placed). u.place) s.3 ∙ sym e ∙ sym (ap (λ (u : Placed). u.place) s.2)))
    ]
  ],
  λ e. elim (pairs_pick (λ (u v : Placed). u.inode.line ≢ v.inode.line) (λ u. u ≡ x) (λ u. u ≡ y) xs l h k) [
    | inl s ↦ ap (λ (u : Placed). u.place) (sym s.1 ∙ s.2)
    | inr s ↦ elim s.4 [
      | inl n ↦ absurd (n (ap (λ (u : Placed). u.inode.line) s.2 ∙ e ∙ sym (ap (λ (u : Placed). u.inode.line) s.3)))
      | inr n ↦ absurd (n (ap (λ (u : Placed). u.inode.line) s.3 ∙ sym e ∙ sym (ap (λ (u : Placed). u.inode.line) s.2)))
    ]
  ],
)

pub every_unmap : {X Y : Type 0} (f : X → Y) (P : Y → Type 0) → (xs : List X) → Every P (map f xs)
    → Every (λ x. P (f x)) xs
every_unmap f P [] h = tt
every_unmap f P (x ∷ xs) h = (h.0, every_unmap f P xs h.1)

pub pairs_unmap : {X Y : Type 0} (f : X → Y) (R : Y → Y → Type 0) → (xs : List X) → Pairs R (map f xs)
    → Pairs (λ x y. R (f x) (f y)) xs
pairs_unmap f R [] h = tt
pairs_unmap f R (x ∷ xs) h = (every_unmap f (R (f x)) xs h.0, pairs_unmap f R xs h.1)
