use Rattle.std.proofs.Common.{◌≡◌, ◌++◌, List, ℕ, true, leb}
use Rattle.std.proofs.lemmas.Bool.{OnTrue_from, leb-true, le-leb}
use Rattle.image_stream.specs.WordSums.{IsSum}
use Rattle.image_stream.proofs.Weights.{sum_behind, place_after}
use Rattle.image_stream.proofs.word_sum.WordSumChecksum.is_full.Goals as goal

pub returns-clause-full : goal.returns-clause-full
returns-clause-full c =
    let s = c.args.self.now in
    let full : leb 512 s.place ≡ true → (xs ys : List ℕ) → IsSum s.place s.sum xs → IsSum s.place s.sum (xs ++ ys) =
    λ is xs ys. sum_behind s.place s.sum xs ys (leb-true 512 s.place is) in
    OnTrue_from _ _ full

pub returns-clause-after_512_bytes : goal.returns-clause-after_512_bytes
returns-clause-after_512_bytes c =
    λ xs h long. le-leb 512 c.args.self.now.place (place_after c.args.self.now.place c.args.self.now.sum xs h long)
