-- Files that get the alignments of their indices.
use Rattle.std.proofs.Common.{◌≡◌, true, false, if◌then◌else◌, ℕ, zero, suc, ◌<◌, ◌≤◌, List, [], ◌∷◌, Option, Some}
use Rattle.std.proofs.Common.{None, get_or, length, map, OnErr, OnOk, Result, Ok, Err}
use Rattle.std.proofs.Common.{refl, sym, ap, subst, ◌∙◌, arith}
use Rattle.std.specs.List.{slice_get}
use Rattle.std.proofs.lemmas.List.{same_lists}
use Rattle.build_commands.specs.Alignments.{aligned_each, largest, shared}
use Rattle.build_commands.specs.Inventory.{path_of}
use Rattle.build_commands.specs.Overlay.{AreInOrder, IsBefore}
use Rattle.build_commands.specs.declared.inventory.NamedFile.{NamedFile}
use Rattle.build_commands.proofs.Mapped.{Mapping}
use Rattle.build_commands.proofs.Pathed.{order_kept}

-- a file with an alignment, if there is one
abbrev pub with_align : Option ℕ → NamedFile → NamedFile
with_align None f = f
with_align (Some align) f = record f { align = align }

same_length : (aligns : List ℕ) (fs : List NamedFile) → length (aligned_each aligns fs) ≡ length fs
same_length [] fs = refl
same_length (a ∷ aligns) [] = refl
same_length (a ∷ aligns) (f ∷ fs) = ap suc (same_length aligns fs)

aligned_at : (aligns : List ℕ) (fs : List NamedFile) (k : ℕ) (d : NamedFile) → k < length fs
    → get_or (aligned_each aligns fs) k d ≡ with_align (slice_get aligns k) (get_or fs k d)
aligned_at [] fs k d l = refl
aligned_at (a ∷ aligns) [] k d l = absurd (omega (arith, l))
aligned_at (a ∷ aligns) (f ∷ fs) zero d l = refl
aligned_at (a ∷ aligns) (f ∷ fs) (suc k) d l = aligned_at aligns fs k d (omega (arith, l))

pub all_aligned : (aligns : List ℕ) (old now : List NamedFile) (i : ℕ) → length old ≤ i
    → Mapping (λ j. with_align (slice_get aligns j)) old now i → now ≡ aligned_each aligns old
all_aligned aligns old now i all a =
    same_lists now (aligned_each aligns old) (a.size ∙ sym (same_length aligns old))
    (λ k d l.
    let here : k < length old = omega (arith, l, a.size) in
    a.done k d (omega (arith, here, all)) ∙ sym (aligned_at aligns old k d here))

-- all paths stay
before_aligned : (aligns : List ℕ) (p : List ℕ) (fs : List NamedFile) → IsBefore p fs
    → IsBefore p (aligned_each aligns fs)
before_aligned [] p fs b = b
before_aligned (a ∷ aligns) p [] b = tt
before_aligned (a ∷ aligns) p (f ∷ fs) b = b

pub aligned_in_order : (aligns : List ℕ) (fs : List NamedFile) → AreInOrder fs → AreInOrder (aligned_each aligns fs)
aligned_in_order [] fs o = o
aligned_in_order (a ∷ aligns) [] o = tt
aligned_in_order (a ∷ aligns) (f ∷ fs) o = (before_aligned aligns (path_of f) fs o.0, aligned_in_order aligns fs o.1)

shared_keeps : (fs : List NamedFile) (f : NamedFile) → path_of (shared fs f) ≡ path_of f
shared_keeps fs f = elim f.has_links as
    (λ b. path_of (if b then record f { align = largest f.inode.device f.inode.number fs } else f) ≡ path_of f)
    [ true ↦ refl | false ↦ refl ]

pub shared_in_order : (all fs : List NamedFile) → AreInOrder fs → AreInOrder (map (shared all) fs)
shared_in_order all fs o = order_kept (shared all) (shared_keeps all) fs o

-- the alignments were shared, or all stayed
pub either_in_order : {E : Type 0} (aligns : List ℕ) (old each new : List NamedFile) (r : Result (Unit {0}) E)
    → each ≡ aligned_each aligns old → OnOk r (new ≡ map (shared each) each) → OnErr r (new ≡ each)
    → AreInOrder old → AreInOrder new
either_in_order aligns old each new (Ok u) is made same o =
    subst AreInOrder (sym made)
    (shared_in_order each each (subst AreInOrder (sym is) (aligned_in_order aligns old o)))
either_in_order aligns old each new (Err e) is made same o =
    subst AreInOrder (sym same) (subst AreInOrder (sym is) (aligned_in_order aligns old o))
