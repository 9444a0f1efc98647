-- A hash map whose keys are byte vectors, looked up by bytes: what a change at some bytes leaves at others.
use Rattle.std.proofs.Common.{◌≡◌, ℕ, Bool, true, false, cond, List, Option, Vec, sym, subst, ◌∙◌}
use mathlib.Core.Logic.{⊎_elim}
use Rattle.std.specs.Cmp.Lexicographic.{bytes_decides, nat_list_eq_equiv}
use Rattle.std.specs.Str.{bytes_eq}
use Rattle.std.specs.HashMap.{HashMap, UpdatesBy, get_by}
use Rattle.std.specs.Map.{lookup, IsKeyTest, AreApart, KeepsOthers}
use Rattle.std.proofs.lemmas.Bool.{cases_Bool, cond-true, cond-false}

apart : (bs cs ks : List ℕ) → bytes_eq bs cs ≡ false → bytes_eq bs ks ≡ true → bytes_eq cs ks ≡ false
apart bs cs ks n y = nat_list_eq_equiv.symm cs ks ∙ sym (nat_list_eq_equiv.congr bs ks cs y) ∙ n

others : {K X : Type 0} (eq : K → K → Bool) (test : K → Bool) (old new : List (K × X)) → KeepsOthers eq test old new
    → (other : K → Bool) → IsKeyTest eq other → AreApart test other → lookup other new ≡ lookup other old
unfolding KeepsOthers
others eq test old new h = h

pub has_more : {A S : Type 0} (bs : List ℕ) → {X : Type 0} (m n : HashMap (Vec ℕ A) X S) (w : Option X)
    → UpdatesBy (λ x y. bytes_eq x.items y.items) (λ k. bytes_eq bs k.items) m n w
    → (cs : List ℕ) → get_by (λ k. bytes_eq cs k.items) n
    ≡ cond (bytes_eq bs cs) w (get_by (λ k. bytes_eq cs k.items) m)
has_more bs m n w h cs =
    ⊎_elim
    (λ y. subst (λ l. get_by (λ k. bytes_eq l k.items) n ≡ w) ((bytes_decides bs cs).0 y) h.1
    ∙ sym (cond-true (bytes_eq bs cs) w _ y))
    (λ e. others _ _ _ _ h.3 _ (λ x y. nat_list_eq_equiv.congr cs x.items y.items) (λ k. apart bs cs k.items e)
    ∙ sym (cond-false (bytes_eq bs cs) w _ e))
    (cases_Bool (bytes_eq bs cs))
