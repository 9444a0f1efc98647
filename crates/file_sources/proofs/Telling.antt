-- What files in memory told.
use Rattle.std.proofs.Common.{◌≡◌, ℕ, zero, suc, List, [], ◌∷◌, ◌++◌, length, take, drop, refl, ap, ◌∙◌, sym}
use Rattle.std.specs.Prelude.{Result, Ok, Err, Some}
use Rattle.program_streams.specs.Streams.{ReadsFrom}
use Rattle.file_sources.specs.Told.{Told, told_by, AreOfNames}

take_again : (n : ℕ) (xs : List ℕ) → take n xs ≡ take (length (take n xs)) xs
take_again zero xs = refl
take_again (suc n) [] = refl
take_again (suc n) (x ∷ xs) = ap (λ (v : List ℕ). x ∷ v) (take_again n xs)

join : (log more : List Told) → AreOfNames log → AreOfNames more → AreOfNames (log ++ more)
join [] more h m = m
join (t ∷ log) more h m = (h.0, join log more h.1 m)

once : {E : Type 0} (name : List ℕ) (at : ℕ) (r : Result ℕ E) (buf : List ℕ) → ReadsFrom (Some name) at r buf
    → AreOfNames (told_by name at r buf)
once name at (Ok n) buf h =
    let all = drop at name in
    (h.0 ∙ take_again n all ∙ ap (λ (v : List ℕ). take (length v) all) (sym h.0), tt)
once name at (Err e) buf h = tt

-- one read more
pub tells_more : {E : Type 0} (name : List ℕ) (at : ℕ) (r : Result ℕ E) (buf : List ℕ) → ReadsFrom (Some name) at r buf
    → (log : List Told) → AreOfNames log → AreOfNames (log ++ told_by name at r buf)
tells_more name at r buf h log k = join log (told_by name at r buf) k (once name at r buf h)
