-- The largest alignments of files, in a map.
use Rattle.std.proofs.Common.{◌≡◌, ℕ, ◌&&◌, Bool, true, false, cond, max, Ordering, Less, Equal, Greater, List, []}
use Rattle.std.proofs.Common.{◌∷◌, map}
use Rattle.std.proofs.Common.{Option, Some, refl, sym, ap, ap₂, ◌∙◌, arith}
use Rattle.std.specs.Prelude.{unwrap_or, ◌==◌}
use Rattle.std.specs.BTreeMap.{BTreeMap}
use Rattle.std.specs.Ordering.{is_eq, nat_cmp, ordering_then}
use Rattle.std.proofs.lemmas.Bool.Decides.{nat_tests}
use Rattle.build_commands.specs.Alignments.{aligned_at, larger, largest, shared, shared_by}
use Rattle.build_commands.specs.declared.inventory.NamedFile.{NamedFile}

equal_then : (x y : Ordering) → is_eq (ordering_then x y) ≡ (is_eq x && is_eq y)
equal_then Less y = refl
equal_then Equal y = refl
equal_then Greater y = refl

equal_numbers : (x y : ℕ) → is_eq (nat_cmp x y) ≡ (x == y)
equal_numbers x y = grind (arith, nat_tests)

pub keys_tested : (a b x y : ℕ)
    → is_eq (ordering_then (nat_cmp a x) (nat_cmp b y)) ≡ ((a == x) && (b == y))
keys_tested a b x y = equal_then (nat_cmp a x) (nat_cmp b y) ∙ ap₂ ◌&&◌ (equal_numbers a x) (equal_numbers b y)

pub first_equal : (a b x y : ℕ) → (a == x) && (b == y) ≡ true → a ≡ x
first_equal a b x y h = grind (arith, nat_tests, h)

pub second_equal : (a b x y : ℕ) → (a == x) && (b == y) ≡ true → b ≡ y
second_equal a b x y h = grind (arith, nat_tests, h)

unwrapped : (b : Bool) (v : ℕ) (o : Option ℕ) → unwrap_or (cond b (Some v) o) 0 ≡ cond b v (unwrap_or o 0)
unwrapped true v o = refl
unwrapped false v o = refl

-- one alignment is noted
pub noted_more : (f : NamedFile) (most device number : ℕ) (old new : Option ℕ) → f.has_links ≡ true
    → ((f.inode.device == device) && (f.inode.number == number) ≡ true → most ≡ max f.align (unwrap_or old 0))
    → new ≡ cond (is_eq (ordering_then (nat_cmp f.inode.device device) (nat_cmp f.inode.number number))) (Some most) old
    → unwrap_or new 0 ≡ larger device number f (unwrap_or old 0)
noted_more f most device number old new links same is =
    let test : Bool = (f.inode.device == device) && (f.inode.number == number) in
    ap (λ (o : Option ℕ). unwrap_or o 0) is
    ∙ unwrapped (is_eq (ordering_then (nat_cmp f.inode.device device) (nat_cmp f.inode.number number))) most old
    ∙ ap (λ (b : Bool). cond b most (unwrap_or old 0)) (keys_tested f.inode.device f.inode.number device number)
    ∙ (elim test as
    (λ t. test ≡ t
    → cond t most (unwrap_or old 0) ≡ cond t (max f.align (unwrap_or old 0)) (unwrap_or old 0)) [
      | true ↦ λ e. same e
      | false ↦ λ e. refl
    ] refl)
    ∙ ap (λ (b : Bool). cond (b && (f.inode.device == device) && (f.inode.number == number))
    (max f.align (unwrap_or old 0)) (unwrap_or old 0)) (sym links)

shared_one : (fs : List NamedFile) (m : BTreeMap (ℕ × ℕ) ℕ)
    → ((device number : ℕ) → aligned_at m device number ≡ largest device number fs)
    → (f : NamedFile) → shared_by m f ≡ shared fs f
shared_one fs m h f =
    ap (λ (n : ℕ). cond f.has_links (record f { align = n }) f) (h f.inode.device f.inode.number)

pub shared_all : (fs : List NamedFile) (m : BTreeMap (ℕ × ℕ) ℕ)
    → ((device number : ℕ) → aligned_at m device number ≡ largest device number fs)
    → (gs : List NamedFile) → map (shared_by m) gs ≡ map (shared fs) gs
shared_all fs m h [] = refl
shared_all fs m h (g ∷ gs) = ap₂ ◌∷◌ (shared_one fs m h g) (shared_all fs m h gs)
