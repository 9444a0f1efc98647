-- The promises refuse runs that may lose a file.
use Rattle.std.proofs.Common.{◌≡◌, inr, ⊎_elim, ℕ, cond, List, [], ◌∷◌, Option, refl, sym, ◌∙◌}
use Rattle.std.specs.Prelude.{nat_eq}
use Rattle.atomic_file.specs.Log.{Create, Sync, Close, Remove, Did, Refused, EndsBy}
use Rattle.atomic_file.specs.Crashes.{AsBefore, Nothing, Made, entry}
use Rattle.atomic_file.specs.WrongRuns.{RefusesEnd, RefusesError}
use Rattle.atomic_file.specs.WrongRuns.{not_durable}
use Rattle.atomic_file.specs.WrongRuns.{part_left}
use Rattle.atomic_file.proofs.Numbers.{at_name}

made_before : (n k : ℕ) → Made k ≡ AsBefore n → ⊥
made_before n k is = cc

nothing_before : (n : ℕ) → Nothing ≡ AsBefore n → ⊥
nothing_before n is = cc

nothing_made : (k : ℕ) → Nothing ≡ Made k → ⊥
nothing_made k is = cc

made_nothing : (k : ℕ) → Made k ≡ Nothing → ⊥
made_nothing k is = cc

-- without a synchronization of the directory, a crash may leave OUT as it was
pub undurable : (known : Option (List ℕ)) → RefusesEnd (not_durable known)
undurable known part out ended =
    let leads : entry (not_durable known part out) out ≡ Made 0 =
    at_name out (entry (Did Close ∷ Did (Sync known) ∷ Did (Create part) ∷ []) part)
    (cond (nat_eq out part) Nothing (entry (Did Close ∷ Did (Sync known) ∷ Did (Create part) ∷ []) out))
    ∙ at_name part (Made 0) (AsBefore part) in
    made_before out 0 (sym leads ∙ sym (ended out (AsBefore out) (inr (inr (inr (inr refl))))))

pub left : RefusesError part_left
left names part image is kept =
    let leads : entry (part_left part names.out) part ≡ Made 0 = at_name part (Made 0) (AsBefore part) in
    ⊎_elim
    (λ leaves. ⊎_elim (λ same. made_before part 0 (sym leads ∙ same)) (λ none. made_nothing 0 (sym leads ∙ none))
    leaves)
    (λ ends. other_event part ends)
    (kept.no_part part is)
  where
    other_event : (n : ℕ) → EndsBy (Refused (Remove n)) (Did (Create part) ∷ []) → ⊥
    other_event n (rest, same) = cc
