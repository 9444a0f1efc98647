-- Files that become names of the first files with their contents.
use Rattle.std.proofs.Common.{◌≡◌, ℕ, zero, suc, ◌<◌, ◌≤◌, List, [], ◌∷◌, Option, Some, None, Less, get_or, length, map}
use Rattle.std.proofs.Common.{refl, sym, ap, ap₂, subst, ◌∙◌, arith}
use Rattle.std.specs.Cmp.Lexicographic.{slice_cmp}
use Rattle.std.specs.Ordering.{nat_cmp}
use Rattle.std.proofs.lemmas.List.{same_lists}
use Rattle.build_commands.specs.Equal.{at_index, joined, zipped}
use Rattle.build_commands.specs.Grouping.{inode_of, with_inode}
use Rattle.build_commands.specs.Inventory.{path_of}
use Rattle.build_commands.specs.Overlay.{AreInOrder, IsBefore}
use Rattle.build_commands.specs.declared.inventory.Inode.{Inode}
use Rattle.build_commands.specs.declared.inventory.NamedFile.{NamedFile}
use Rattle.build_commands.proofs.Mapped.{Mapping}

module _ {X Y Z : Type 0} (g : X → Y → Z) (y : Y) where
  same_length : (xs : List X) (ys : List Y) → length (zipped g y xs ys) ≡ length xs
  same_length [] ys = refl
  same_length (x ∷ xs) [] = ap suc (same_length xs [])
  same_length (x ∷ xs) (z ∷ ys) = ap suc (same_length xs ys)

  zipped_at : (xs : List X) (ys : List Y) (k : ℕ) (c : Z) (d : X) → k < length xs
      → get_or (zipped g y xs ys) k c ≡ g (get_or xs k d) (get_or ys k y)
  zipped_at [] ys k c d l = absurd (omega (arith, l))
  zipped_at (x ∷ xs) [] zero c d l = refl
  zipped_at (x ∷ xs) (z ∷ ys) zero c d l = refl
  zipped_at (x ∷ xs) [] (suc k) c d l = zipped_at xs [] k c d (omega (arith, l))
  zipped_at (x ∷ xs) (z ∷ ys) (suc k) c d l = zipped_at xs ys k c d (omega (arith, l))

pub all_joined : (inodes : List (Option Inode)) (old now : List NamedFile) (i : ℕ) → length old ≤ i
    → Mapping (λ j f. with_inode f (get_or inodes j None)) old now i → now ≡ zipped with_inode None old inodes
all_joined inodes old now i all a =
    same_lists now (zipped with_inode None old inodes) (a.size ∙ sym (same_length with_inode None old inodes))
    (λ k d l.
    let here : k < length old = omega (arith, l, a.size) in
    a.done k d (omega (arith, here, all)) ∙ sym (zipped_at with_inode None old inodes k d d here))

-- the inodes are those of the first files
one_joined : (f : NamedFile) (o : Option NamedFile) → with_inode f (inode_of o) ≡ joined f o
one_joined f None = refl
one_joined f (Some g) = refl

by_inodes : (all fs : List NamedFile) (os : List (Option ℕ))
    → zipped with_inode None fs (map (λ first. inode_of (at_index all first)) os)
    ≡ zipped (λ f first. joined f (at_index all first)) None fs os
by_inodes all [] os = refl
by_inodes all (f ∷ fs) [] = ap (λ (v : List NamedFile). f ∷ v) (by_inodes all fs [])
by_inodes all (f ∷ fs) (o ∷ os) = ap₂ ◌∷◌ (one_joined f (at_index all o)) (by_inodes all fs os)

pub sharing : (fs new : List NamedFile) (os known : List (Option ℕ)) (inodes : List (Option Inode))
    → new ≡ zipped with_inode None fs inodes → inodes ≡ map (λ first. inode_of (at_index fs first)) os
    → os ≡ known → new ≡ zipped (λ f first. joined f (at_index fs first)) None fs known
sharing fs new os known inodes made are is =
    made ∙ ap (zipped with_inode None fs) are ∙ by_inodes fs fs os
    ∙ ap (zipped (λ f first. joined f (at_index fs first)) None fs) is

-- all paths stay
path_kept : (f : NamedFile) (o : Option Inode) → path_of (with_inode f o) ≡ path_of f
path_kept f None = refl
path_kept f (Some i) = refl

before_kept : (p : List ℕ) (fs : List NamedFile) (inodes : List (Option Inode)) → IsBefore p fs
    → IsBefore p (zipped with_inode None fs inodes)
before_kept p [] inodes b = tt
before_kept p (f ∷ fs) [] b = b
before_kept p (f ∷ fs) (i ∷ inodes) b =
    subst (λ (q : List ℕ). slice_cmp nat_cmp p q ≡ Less) (sym (path_kept f i)) b

pub still_in_order : (fs : List NamedFile) (inodes : List (Option Inode)) → AreInOrder fs
    → AreInOrder (zipped with_inode None fs inodes)
still_in_order [] inodes o = tt
still_in_order (f ∷ fs) [] o = (before_kept (path_of f) fs [] o.0, still_in_order fs [] o.1)
still_in_order (f ∷ fs) (i ∷ inodes) o = (
  subst (λ (p : List ℕ). IsBefore p (zipped with_inode None fs inodes)) (sym (path_kept f i))
      (before_kept (path_of f) fs inodes o.0),
  still_in_order fs inodes o.1,
)
