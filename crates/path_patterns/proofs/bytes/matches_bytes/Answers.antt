use Rattle.std.proofs.Common.{◌≡◌, List, ℕ, Bool, true, false, refl, ap, subst, ◌∙◌}
use Rattle.std.specs.Prelude.{IfOk}
use Rattle.std.specs.Str.{IsUtf8, chars, is_utf8}
use Rattle.std.proofs.lemmas.Str.{IsUtf8-from_is_utf8, is_utf8-from_IsUtf8}
use Rattle.path_patterns.specs.Patterns.{fits, fits_bytes}
use Rattle.path_patterns.proofs.bytes.matches_bytes.Goals as goal

no_text : (bs : List ℕ) (v : Bool) → is_utf8 bs ≡ v → (IsUtf8 bs → ⊥) → is_utf8 bs ≡ false
no_text bs true e n = absurd (n (IsUtf8-from_is_utf8 bs e))
no_text bs false e n = e

pub returns-in_ok-path-in-Ok : goal.returns-in_ok-path-in-Ok
returns-in_ok-path-in-Ok c =
    let bytes : List ℕ = c.args.path.now in
    let text = c.in-Ok.ensures.cases in
    let valid : is_utf8 bytes ≡ true = is_utf8-from_IsUtf8 bytes text.1 in
    let same : c.as_slice.result.now ≡ chars bytes =
    c.as_slice.ensures.value ∙ c.in_ok-path-in-Ok.ensures ∙ ap chars text.0 in
    let all : fits c.args.pieces.now (chars bytes) ≡ fits_bytes c.args.pieces.now bytes = rw valid refl in
    subst (λ (v : Bool). IfOk c.matches.result (λ b. b ≡ v)) (ap (fits c.args.pieces.now) same ∙ all) c.matches.ensures

pub returns-in-Err : goal.returns-in-Err
returns-in-Err c =
    let bytes : List ℕ = c.args.path.now in
    let none : is_utf8 bytes ≡ false = no_text bytes (is_utf8 bytes) refl c.in-Err.ensures.cases.0 in
    rw none refl
