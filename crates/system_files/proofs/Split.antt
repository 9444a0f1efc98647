-- The split of a name at its last slash.
use Rattle.std.proofs.Common.{◌∙◌, ◌<◌, ℕ, List, ◌∷◌, ◌++◌, Some, None, ap, ap₂, sym, refl, subst, arith, drop}
use Rattle.std.proofs.Common.{take-append-drop}
use Rattle.std.specs.Str.Pattern.{RFindsChar, SplitsAroundMatch}
use Rattle.std.proofs.lemmas.Str.Pattern.{NoCharPasses-char, drop_at_char}
use Rattle.system_files.specs.Names.{HasNoSlash, IsSplit}

pub split_some : (text front back : List ℕ) → SplitsAroundMatch (RFindsChar 47) text front back
    → IsSplit text (Some front) back
split_some text front back h =
    let low : 47 < 128 = omega arith in
    let none : HasNoSlash (drop h.1 text) = λ i. NoCharPasses-char 47 (drop h.1 text) i h.2.0 low in (
      sym (take-append-drop h.0 text)
          ∙ ap₂ (λ a b. a ++ b) (sym h.3) (drop_at_char 47 text h.0 h.1 h.2.1 low ∙ ap (λ l. 47 ∷ l) (sym h.4)),
      subst HasNoSlash (sym h.4) none,
    )

pub split_none : (text : List ℕ) → RFindsChar 47 text None → IsSplit text None text
split_none text h = (refl, λ i. NoCharPasses-char 47 text i h (omega arith))
