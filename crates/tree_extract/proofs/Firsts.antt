-- Facts on the choice of members, index by index.
use Rattle.std.proofs.Common.{◌≡◌, ℕ, suc, ◌+◌, ◌<◌, ◌&&◌, Bool, List, [], ◌∷◌, ◌++◌, length, get_or, Option, None}
use Rattle.std.proofs.Common.{if◌then◌else◌, IfSome, refl, ap, sym, ◌∙◌, arith, zero, ◌-◌, take, replicate}
use Rattle.std.proofs.lemmas.List.{get_or-replicate, length-replicate}
use Rattle.tree_extract.specs.Choices.{kind_in, is_chosen, file_by, is_file_at, names, or_at, first_chosen, name_by}
use Rattle.tree_extract.specs.Choices.{kind_noted, kind_after, kind_by, kind_chosen, kinds_below}
use Rattle.tree_extract.specs.declared.tree.Kind.{Kind}
use Rattle.tree_extract.specs.declared.tree.Kind.TheVariants.{Directory, File, Further, Symlink, Nothing}

next : (n : ℕ) → n + 1 ≡ suc n
next n = omega arith

pub kinds_next : (ks : List Kind) (cs : List Bool) (n : ℕ)
    → kinds_below ks cs (n + 1) ≡ kinds_below ks cs n ++ kind_chosen ks cs n ∷ []
kinds_next ks cs n = ap (kinds_below ks cs) (next n)

pub first_next : (ks : List Kind) (cs : List Bool) (f n : ℕ)
    → first_chosen ks cs f (n + 1) ≡ or_at (first_chosen ks cs f n) (names ks cs f n) n
first_next ks cs f n = ap (first_chosen ks cs f) (next n)

-- the first chosen names below an index are noted
abbrev pub AreNoted : List Kind → List Bool → ℕ → List (Option ℕ) → Type 0
AreNoted ks cs n firsts = (f : ℕ) → f < length ks → get_or firsts f None ≡ first_chosen ks cs f n

module _ (ks : List Kind) (cs : List Bool) (n : ℕ) (firsts : List (Option ℕ)) (noted : AreNoted ks cs n firsts) where
  by_kind : (k : Kind) → n < length ks → ((first : ℕ) → k ≡ Further first → first < length ks)
      → kind_noted firsts n k ≡ kind_by ks cs n k
  by_kind Directory h further = refl
  by_kind File h further = ap name_by (noted n h)
  by_kind (Further first) h further = ap name_by (noted first (further first refl))
  by_kind Symlink h further = refl
  by_kind Nothing h further = refl

  pub kind_is : n < length ks → ((first : ℕ) → kind_in ks n ≡ Further first → first < length ks)
      → kind_after (is_chosen cs n) firsts n (kind_in ks n) ≡ kind_chosen ks cs n
  kind_is h further = ap (λ (k : Kind). if is_chosen cs n then k else Nothing) (by_kind (kind_in ks n) h further)

  pub noted_next : (new : List (Option ℕ))
      → ((f : ℕ) → get_or new f None
      ≡ or_at (get_or firsts f None) (is_chosen cs n && is_file_at f (file_by (kind_in ks n) n)) n)
      → AreNoted ks cs (n + 1) new
  noted_next new step = λ f h.
      step f ∙ ap (λ (o : Option ℕ). or_at o (names ks cs f n) n) (noted f h) ∙ sym (first_next ks cs f n)

-- the file that a member names is one of the members
pub file_within : (ks : List Kind) (k : Kind) (n m : ℕ) → m ≡ length ks → n < length ks
    → ((first : ℕ) → k ≡ Further first → first < length ks) → IfSome (file_by k n) (λ file. file < m)
file_within ks Directory n m e h further = tt
file_within ks File n m e h further = omega (arith, e, h)
file_within ks (Further first) n m e h further = let l = further first refl in omega (arith, e, l)
file_within ks Symlink n m e h further = tt
file_within ks Nothing n m e h further = tt

-- nothing is noted at first
no_notes : (n none : ℕ) (o : Option ℕ) → none ≡ 0 → take n [] ++ replicate (n - none) o ≡ replicate n o
no_notes zero none o z = let same : 0 - none ≡ 0 = omega arith in ap (λ (v : ℕ). replicate v o) same
no_notes (suc n) none o z = let same : suc n - none ≡ suc n = omega (arith, z) in ap (λ (v : ℕ). replicate v o) same

pub noted_first : (ks : List Kind) (cs : List Bool) (old firsts : List (Option ℕ)) (none : ℕ) → old ≡ [] → none ≡ 0
    → firsts ≡ take (length ks) old ++ replicate (length ks - none) None
    → (length firsts ≡ length ks) × AreNoted ks cs 0 firsts
noted_first ks cs [] firsts none z zero_is e =
    let is : firsts ≡ replicate (length ks) None = e ∙ no_notes (length ks) none None zero_is in (
      ap length is ∙ length-replicate (length ks) None,
      λ f h. ap (λ (v : List (Option ℕ)). get_or v f None) is ∙ get_or-replicate (length ks) f None None h,
    )
noted_first ks cs (o ∷ old) firsts none z zero_is e = absurd (omega (arith, ap length z))
