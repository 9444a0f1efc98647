-- Machines that agree reply the same.
use Rattle.std.proofs.Common.{◌≡◌, ℕ, Bool, true, false, cond, List, [], ◌∷◌, ◌++◌, ◌==◌, refl, ap, ◌∙◌}
use Rattle.serve_lines.specs.Served.{Machine, Exchange, exchanges, used_after, line_feed}
use Rattle.serve_lines.specs.Views.{AgreeOn, AllFine}

module _ {S : Type 0} (m n : Machine S) (Clean : S → Type 0) (Fine : List ℕ → Type 0)
    (agree : AgreeOn m n Clean Fine) where
  pub same_replies : (s : S) (ls : List (List ℕ)) → Clean s → AllFine Fine ls → exchanges m s ls ≡ exchanges n s ls
  unfolding exchanges
  same_replies s [] clean fine = refl
  same_replies s (l ∷ ls) clean fine =
      let rest : exchanges m (m.next s l) ls ≡ exchanges n (n.next s l) ls =
      same_replies (m.next s l) ls (agree.clean s l clean fine.0) fine.1
      ∙ ap (λ (t : S). exchanges n t ls) (agree.next s l clean fine.0) in
      ap (λ (r : List ℕ). record { line = l; reply = r } ∷ cond (m.ends l) [] (exchanges m (m.next s l) ls))
      (agree.reply s l clean fine.0)
      ∙ ap (λ (b : Bool). record { line = l; reply = n.reply s l } ∷ cond b [] (exchanges m (m.next s l) ls))
      (agree.ends l)
      ∙ ap (λ (es : List Exchange). record { line = l; reply = n.reply s l } ∷ cond (n.ends l) [] es) rest

to_either : (t : Bool) (a b x : List ℕ) → a ≡ x → b ≡ x → cond t a b ≡ x
to_either true a b x h k = h
to_either false a b x h k = k

-- if no line ends the serving, all of the input is used
pub used_all : {S : Type 0} (m : Machine S) → ((l : List ℕ) → m.ends l ≡ false) → (line x : List ℕ)
    → used_after m line x ≡ x
unfolding used_after
used_all m goes line [] = refl
used_all m goes line (b ∷ x) =
    ap (λ (y : List ℕ). b ∷ y) (to_either (b == line_feed) (cond (m.ends line) [] (used_after m [] x))
    (used_after m (line ++ b ∷ []) x) x
    (ap (λ (t : Bool). cond t [] (used_after m [] x)) (goes line) ∙ used_all m goes [] x)
    (used_all m goes (line ++ b ∷ []) x))
