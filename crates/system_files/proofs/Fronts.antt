-- Fronts of known bytes that are read one after the other.
use Rattle.std.proofs.Common.{◌≡◌, ℕ, ◌-◌, ◌+◌, ◌≤◌, ◌^◌, max, min, [], true, false, Bool, List, ◌++◌, Option, Some}
use Rattle.std.proofs.Common.{None, IfSome, length, take, drop, sym, ap, subst, ◌∙◌, arith, cond}
use lib.Seq.{take-append-add}
use Rattle.std.specs.Io.{StartsWith}
use Rattle.std.specs.Io.KnownBytes.{Consumes}
use Rattle.std.proofs.KnownBytes.{Consumes-nil, Consumes-trans, starts_with_rest}
use Rattle.cramfs_format.specs.Superblock.{has_crc, order_of, size_word}
use Rattle.formats.specs.Reach.{Reaches, short, romfs, cramfs, neither, IsSumRefused}

-- what was read in all
pub read_on : (a b c : Option (List ℕ)) (old new : List ℕ) → Consumes a b old → StartsWith new old
    → Consumes b c (drop (length old) new) → Consumes a c new
read_on a b c old new before starts read =
    subst (Consumes a c) (sym (starts_with_rest new old starts))
    (Consumes-trans a b c old (drop (length old) new) before read)

-- is the front up to there
pub up_to : (a b : Option (List ℕ)) (old new : List ℕ) (until n : ℕ) → Consumes a b old → n ≡ length old
    → length old ≤ until
    → IfSome b (λ xs. new ≡ old ++ take (until - n) xs) → IfSome a (λ xs. new ≡ take until xs)
up_to None b old new until n before long within read = tt
up_to (Some xs) None old new until n before long within read = absurd before
up_to (Some xs) (Some ys) old new until n before long within read =
    let split : until ≡ length old + (until - n) = omega arith in
    read ∙ sym (take-append-add old ys (until - n)) ∙ ap (λ k. take k (old ++ ys)) (sym split)
    ∙ ap (take until) (sym before)

-- nothing was read yet
pub none_yet : (a : Option (List ℕ)) (old : List ℕ) → old ≡ [] → Consumes a a old
none_yet a old e = subst (Consumes a a) (sym e) (Consumes-nil a)

-- all that a check looks at
pub whole : (a : Option (List ℕ)) (head bytes : List ℕ) (reach len file : ℕ) → IfSome a (λ xs. head ≡ take 76 xs)
    → Reaches head reach
    → IfSome a (λ xs. bytes ≡ take reach xs) → file ≡ max len (length bytes)
    → IfSome a (λ xs. (n : ℕ) × Reaches (take 76 xs) n × (bytes ≡ take n xs) × (file ≡ max len (length bytes)))
whole None head bytes reach len file h r b f = tt
whole (Some xs) head bytes reach len file h r b f = (reach, subst (λ l. Reaches l reach) h r, b, f)

-- what refuses it
pub refusing : (a : Option (List ℕ)) (head bytes : List ℕ) (reach len until number at : ℕ)
    → IfSome a (λ xs. head ≡ take 76 xs) → Reaches head reach
    → IfSome a (λ xs. bytes ≡ take until xs) → until ≡ min reach 512 → IsSumRefused bytes len → number ≡ 5 → at ≡ 12
    → IfSome a (λ xs. Reaches (take 76 xs) reach × IsSumRefused bytes len × (bytes ≡ take (min reach 512) xs)
    × (number ≡ 5) × (at ≡ 12))
refusing None head bytes reach len until number at h r b e w n p = tt
refusing (Some xs) head bytes reach len until number at h r b e w n p =
    (subst (λ l. Reaches l reach) h r, w, b ∙ ap (λ k. take k xs) e, n, p)

least_of : (b : Bool) (n : ℕ) → 76 ≤ cond b (max 76 n) (2 ^ 28)
least_of true n = omega arith
least_of false n = omega arith

-- a check looks at 76 bytes at least
pub reach_least : (head : List ℕ) (n : ℕ) → Reaches head n → 76 ≤ n
reach_least head n (short _ e) = omega arith
reach_least head n (romfs _ _ e) = omega arith
reach_least head n (cramfs _ _ e) =
    subst (λ k. 76 ≤ k) (sym e) (least_of (has_crc (order_of head) head) (size_word (order_of head) head))
reach_least head n (neither _ _ _ e) = omega arith
