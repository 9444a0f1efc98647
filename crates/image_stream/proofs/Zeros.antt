-- Zeros that go out piece by piece.
use Rattle.std.proofs.Common.{◌≡◌, ℕ, ◌+◌, ◌-◌, ◌≤◌, List, ◌++◌, take, Option, ap, sym, refl, ◌∙◌, arith}
use Rattle.std.proofs.lemmas.List.{replicate-append-replicate, take-replicate}
use Rattle.std.specs.Io.KnownBytes.{Appends}
use Rattle.rom_fields.specs.Written.{AppendsPrefix}
use Rattle.rom_fields.proofs.Joins.{front_after, front_first}
use Rattle.image_stream.specs.Segments.{zeros}
use Rattle.image_stream.specs.Steps.{Gone}
use Rattle.image_stream.proofs.Fronts.{gone_more}

-- the first n of the zeros at hand
pub some_zeros : (gap : List ℕ) (most n : ℕ) → gap ≡ zeros most → n ≤ most → take n gap ≡ zeros n
some_zeros gap most n e h = ap (take n) e ∙ take-replicate n most 0 h

pub more_zeros : (k n m : ℕ) (xs ys : List ℕ) → m ≡ k + n → xs ≡ zeros k → ys ≡ zeros n → xs ++ ys ≡ zeros m
more_zeros k n m xs ys e h q = ap (λ (v : List ℕ). v ++ ys) h ∙ ap (λ (v : List ℕ). zeros k ++ v) q
    ∙ replicate-append-replicate k n 0 ∙ ap zeros (sym e)

pub gone_zeros : (k n m : ℕ) (a b c : Option (List ℕ)) (Was Is Next : List ℕ → Type 0) (ys : List ℕ) → m ≡ k + n
    → ys ≡ zeros n → Gone (λ xs. xs ≡ zeros k) a b Was Is → Appends b c ys → ((xs : List ℕ) → Is xs → Next (xs ++ ys))
    → Gone (λ xs. xs ≡ zeros m) a c Was Next
gone_zeros k n m a b c Was Is Next ys e q h w s =
    gone_more (λ xs. xs ≡ zeros k) (λ xs. xs ≡ zeros m) a b c Was Is Next ys h
    (λ xs v. more_zeros k n m xs ys e v q) w s

pub broken_zeros : (k n m : ℕ) (a b c : Option (List ℕ)) (xs ys : List ℕ) → k + n ≤ m → xs ≡ zeros k → ys ≡ zeros n
    → Appends a b xs → AppendsPrefix b c ys → AppendsPrefix a c (zeros m)
broken_zeros k n m a b c xs ys le e q w v =
    let t : AppendsPrefix a c ((xs ++ ys) ++ zeros (m - (k + n))) =
    front_first a c (xs ++ ys) (zeros (m - (k + n))) (front_after a b c xs ys w v) in
    let all : (xs ++ ys) ++ zeros (m - (k + n)) ≡ zeros m =
    more_zeros (k + n) (m - (k + n)) m (xs ++ ys) (zeros (m - (k + n))) (omega arith)
    (more_zeros k n (k + n) xs ys refl e q) refl in
    (t.0, t.1, t.2, sym all ∙ t.3)
