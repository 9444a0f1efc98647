use Rattle.std.proofs.Common.{◌≡◌, ◌∷◌, [], List, Bool, ℕ, Option, Some, map, ap, subst, ◌∙◌, refl}
use Rattle.build_commands.specs.Alignments.{shared}
use Rattle.build_commands.specs.Composed.{Logs, Reading, digested, joined, sized}
use Rattle.build_commands.specs.Equal.{compared, further, shared_all}
use Rattle.build_commands.specs.declared.inventory.NamedFile.{NamedFile}
use Rattle.build_commands.proofs.Readings.{logs_join}
use Rattle.build_commands.proofs.composing.share_slice.Goals as goal

pub returns-clause-shared : goal.returns-clause-shared
returns-clause-shared g c =
    let is : _ → List Reading → Type 0 = g.R.Readings.IsLog in
    let fs = c.args.files.now in
    let lens = c.in-Ok-Some.sizes.items in
    let digests = c.in-Ok.digests.items in
    let all = shared_all fs lens digests in
    let same : c.share_equal.new.found ≡ all =
    c.in_ok-further.ensures.shared
    ∙ ap (λ (v : List ℕ). shared_all fs v c.deref-5.result.now) c.deref-4.ensures.value
    ∙ ap (λ (v : List (Option (List ℕ))). shared_all fs lens v) c.deref-5.ensures.value in
    let asked : c.deref-3.result.now ≡ compared fs lens =
    c.deref-3.ensures.value ∙ c.in_ok-compared.ensures ∙ ap (λ (v : List ℕ). compared fs v) c.deref.ensures.value in
    let told : c.deref-6.result.now ≡ further fs lens digests =
    c.deref-6.ensures.value ∙ c.in_ok-further.ensures.further
    ∙ ap (λ (v : List ℕ). further fs v c.deref-5.result.now) c.deref-4.ensures.value
    ∙ ap (λ (v : List (Option (List ℕ))). further fs lens v) c.deref-5.ensures.value in
    let one = sized fs (Some lens) ∷ [] in
    let two = digested fs lens (compared fs lens) digests ∷ [] in
    let three = joined all (further fs lens digests) ∷ [] in
    let a = is c.args.readings.now in
    let b = is c.sizes.new.self in
    let d = is c.digests.new.self in
    let e = is c.joined.new.self in
    let second : Logs b d two =
    subst (λ (v : List ℕ). Logs b d (digested fs v (compared fs lens) digests ∷ [])) c.deref-2.ensures.value
    (subst (λ (v : List Bool). Logs b d (digested fs c.deref-2.result.now v digests ∷ [])) asked c.in-Ok.ensures) in
    let third : Logs d e three =
    subst (λ (v : List NamedFile). Logs d e (joined v (further fs lens digests) ∷ [])) same
    (subst (λ (v : List Bool). Logs d e (joined c.share_equal.new.found v ∷ [])) told c.in_default.ensures) in (
      Some lens,
      sized fs (Some lens) ∷ digested fs lens (compared fs lens) digests ∷ joined all (further fs lens digests) ∷ [],
      logs_join a b e one
          (digested fs lens (compared fs lens) digests ∷ joined all (further fs lens digests) ∷ [])
          (rw c.in-Ok-Some.field-0-is at c.in-Ok-Some.ensures) (logs_join b d e two three second third),
      (
        digests,
        subst (λ (v : List NamedFile). c.share_alignments.new.found ≡ map (shared v) v) same
            c.in_ok-share_alignments.ensures.shared,
        refl,
      ),
    )
