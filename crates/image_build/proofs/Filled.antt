-- A buffer all of whose bytes were written.
use Rattle.std.proofs.Common.{◌≡◌, ℕ, List, ◌++◌, length, take, ap, ◌∙◌}
use Rattle.std.proofs.Math.Seq.{take-append_seam}

pub filled : (n : ℕ) (xs ys : List ℕ) → n ≡ length xs → take n (xs ++ ys) ≡ xs
filled n xs ys e = ap (λ (k : ℕ). take k (xs ++ ys)) e ∙ take-append_seam xs ys
