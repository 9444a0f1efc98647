-- A search for a space or a line feed says whether a text is plain.
use Rattle.std.proofs.Common.{◌≡◌, ◌<◌, ◌||◌, ℕ, suc, Bool, true, false, List, [], ◌∷◌, length, get_or, Option}
use Rattle.std.proofs.Common.{Some, None, refl, sym, ap, ◌∙◌, arith, not}
use Rattle.std.specs.List.{list_any}
use Rattle.std.specs.Option.{is_some}
use Rattle.std.proofs.lemmas.List.Folds.{list_any_at}
use Rattle.memchr.specs.Find.{IsFirstByte, is_byte2}
use Rattle.command_line.specs.Numbers.{is_plain}

lacks : (p : ℕ → Bool) (xs : List ℕ) → ((k : ℕ) → k < length xs → ¬ (p (get_or xs k 0) ≡ true)) → list_any p xs ≡ false
lacks p [] none = refl
lacks p (x ∷ xs) none =
    let rest = lacks p xs (λ k l. none (suc k) (omega arith)) in
    elim (p x) as (λ t. p x ≡ t → (t || list_any p xs) ≡ false)
    [ true ↦ λ e. absurd (none 0 (omega arith) e) | false ↦ λ e. rest ] refl

not_not : (r : Bool) → r ≡ not (not r)
not_not true = refl
not_not false = refl

pub plain : (text : List ℕ) (found : Option ℕ) (r : Bool) → 0 < length text → IsFirstByte (is_byte2 32 10) text found
    → is_some found ≡ not r → r ≡ is_plain text
plain [] found r h first e = absurd (omega arith)
plain (b ∷ bs) None r h first e =
    not_not r ∙ sym (ap not e) ∙ ap not (sym (lacks (is_byte2 32 10) (b ∷ bs) (λ k l p. first k (omega arith) l p)))
plain (b ∷ bs) (Some i) r h first e =
    let high = first.0.high in
    not_not r ∙ sym (ap not e) ∙ ap not (sym (list_any_at (is_byte2 32 10) (b ∷ bs) i 0 high first.1))
