-- The new file of a replacement is an image without a fault.
use Rattle.std.proofs.Common.{◌≡◌, ◌⊎◌, inl, inr, ⊎_elim, ℕ, ◌≤◌, List, [], Option, Some, None, refl, ◌∙◌, ap}
use Rattle.atomic_file.specs.Crashes.{Place, Made, Content, Anything, Whole, MayLead, made, entry, content}
use Rattle.atomic_file.specs.Log.{Event}
use Rattle.atomic_file.specs.Moments.{HoldsImage, IsNew, IsOldOrNew}
use Rattle.atomic_file.specs.declared.names.Names.{Names}
use Rattle.headline.specs.Durable.{IsImageOf, IsBuiltFile}
use Rattle.image_build.specs.Streamed.{form_in, image_with, stored_in}
use Rattle.image_check.specs.Checked.{IsFaultless}
use Rattle.image_stream.specs.Outcomes.{IsWritten}
use Rattle.manifest_layout.specs.Plans.{Planned}
use Rattle.rom_commands.specs.Answers.{usual_limits}

-- what a law says of each image that is streamed into an empty file
abbrev pub AreFaultless : Option (List (List ℕ)) → Planned → Type 0
AreFaultless known p = (is : Option (List ℕ))
    → (w : IsWritten known (form_in p.format p) (stored_in p.format) (Some []) is)
    → IsFaultless (image_with p w.rest) usual_limits

module _ (known : Option (List (List ℕ))) (p : Planned) (old log : List Event) (faultless : AreFaultless known p) where
  of_content : (place : Place) (k : ℕ) → made old ≤ k → place ≡ Made k → (c : Content) → content log k ≡ c
      → HoldsImage (IsImageOf known p) c → IsBuiltFile p old log place
  of_content place k since leads Anything is holds = absurd holds
  of_content place k since leads (Whole None) is holds = absurd (holds.streamed.0.written)
  of_content place k since leads (Whole (Some bytes)) is holds = record {
    number = k;
    since = since;
    leads = leads;
    rest = holds.streamed.0.rest;
    holds = is ∙ ap (λ (b : List ℕ). Whole (Some b)) holds.streamed.0.written;
    faultless = faultless (Some bytes) holds.streamed.0;
  }

  of_new : (place : Place) → IsNew (IsImageOf known p) old log place → IsBuiltFile p old log place
  of_new place (k, since, leads, holds) = of_content place k since leads (content log k) refl holds

  pub seen : (names : Names) → IsOldOrNew names (IsImageOf known p) old log
      → (entry log names.out ≡ entry old names.out) ⊎ IsBuiltFile p old log (entry log names.out)
  seen names m = ⊎_elim (λ same. inl same) (λ new. inr (of_new (entry log names.out) new)) m.seen

  pub crashed : (names : Names) (place : Place) → IsOldOrNew names (IsImageOf known p) old log
      → MayLead log names.out place → MayLead old names.out place ⊎ IsBuiltFile p old log place
  crashed names place m may = ⊎_elim (λ was. inl was) (λ new. inr (of_new place new)) (m.crashed place may)
