use Rattle.std.proofs.Common.{◌≡◌, ◌⊎◌, inl, inr, List, ℕ, Option, subst, sym}
use Rattle.image_build.specs.Images.{IsCheckedImage, IsImageWritten}
use Rattle.image_build.specs.declared.padding.Padding.{Padding}
use Rattle.image_stream.specs.Answers.{Answer}
use Rattle.manifest_layout.specs.Plans.{Planned}
use Rattle.atomic_file.specs.Log.{Event}
use Rattle.atomic_file.specs.Crashes.{Place, Content, Anything, Whole}
use Rattle.atomic_file.specs.Moments.{HoldsImage, IsNew}
use Rattle.image_build.proofs.laws.checked_is_written.Goals as goal

holds : (P Q : Option (List ℕ) → Type 0) → ((c : Option (List ℕ)) → P c → Q c) → (c : Content)
    → HoldsImage P c → HoldsImage Q c
holds P Q h Anything is = absurd is
holds P Q h (Whole known) is = h known is

is_new : (P Q : Option (List ℕ) → Type 0) → ((c : Option (List ℕ)) → P c → Q c) → (old log : List Event)
    → (p : Place) → IsNew P old log p → IsNew Q old log p
is_new P Q h old log p is = (is.0, is.1, is.2, holds P Q h _ is.3)

either : {A B C : Type 0} → (B → C) → A ⊎ B → A ⊎ C
either f (inl a) = inl a
either f (inr b) = inr (f b)

without : {passed : Option (List ℕ) → Type 0} (padding : Padding) → padding.len ≡ 0 → (known : Option (List (List ℕ)))
    → (was is : List Answer → Type 0) → (p : Planned) → (old new : Option (List ℕ))
    → IsCheckedImage passed padding known was is p old new → IsImageWritten known was is p old new
without padding none known was is p old new w =
    subst (IsImageWritten known was is p old) (sym (w.padded.none none)) w.written

pub returns : goal.returns
returns g c = λ names last padding known was is p fresh old log none it. record {
  seen = either (is_new _ _ (λ c w. without padding none known _ _ p fresh c w) old log _) it.seen;
  crashed = λ place may.
      either (is_new _ _ (λ c w. without padding none known _ _ p fresh c w) old log place) (it.crashed place may);
  others_seen = it.others_seen;
  others_crashed = it.others_crashed;
  files = it.files;
}
