-- A session's replies come from its view.
use Rattle.std.proofs.Common.{◌≡◌, ℕ, Bool, true, false, cond, List, [], ◌∷◌, refl, sym, ap, ◌∙◌}
use Rattle.std.specs.Prelude.{◌||◌}
use Rattle.serve_lines.specs.Served.{Exchange, exchanges, lines_of}
use Rattle.serve_lines.specs.Views.{SessionMachine, names, is_seen, view, of_session, IsSame, AreApart, SeesItsView}
use Rattle.serve_lines.proofs.Joined.{filtered-again}

module _ {S Shared Own : Type 0} (m : SessionMachine S Shared Own) (apart : AreApart m) where
  -- the exchange of a line, and those after it
  rest_of : (k : ℕ) (s : S) (l : List ℕ) (ls : List (List ℕ)) → List Exchange
  rest_of k s l ls = of_session m k (exchanges m.machine (m.machine.next s l) ls)

  goes : (s : S) (l : List ℕ) (ls : List (List ℕ))
      → exchanges m.machine s (l ∷ ls) ≡ record { line = l; reply = m.machine.reply s l }
      ∷ exchanges m.machine (m.machine.next s l) ls
  unfolding exchanges
  goes s l ls = ap (λ (t : Bool). record { line = l; reply = m.machine.reply s l }
      ∷ cond t [] (exchanges m.machine (m.machine.next s l) ls)) (apart.goes_on l)

  own_line : (k : ℕ) (s : S) (l : List ℕ) (ls : List (List ℕ)) → names m k l ≡ true
      → of_session m k (exchanges m.machine s (l ∷ ls))
      ≡ record { line = l; reply = m.machine.reply s l }
      ∷ of_session m k (exchanges m.machine (m.machine.next s l) ls)
  own_line k s l ls own =
      ap (of_session m k) (goes s l ls)
      ∙ ap (λ (t : Bool). cond t (record { line = l; reply = m.machine.reply s l }
      ∷ of_session m k (exchanges m.machine (m.machine.next s l) ls))
      (of_session m k (exchanges m.machine (m.machine.next s l) ls))) own

  other_line : (k : ℕ) (s : S) (l : List ℕ) (ls : List (List ℕ)) → names m k l ≡ false
      → of_session m k (exchanges m.machine s (l ∷ ls)) ≡ of_session m k (exchanges m.machine (m.machine.next s l) ls)
  other_line k s l ls other =
      ap (of_session m k) (goes s l ls)
      ∙ ap (λ (t : Bool). cond t (record { line = l; reply = m.machine.reply s l }
      ∷ of_session m k (exchanges m.machine (m.machine.next s l) ls))
      (of_session m k (exchanges m.machine (m.machine.next s l) ls))) other

  seen_line : (k : ℕ) (l : List ℕ) (ls : List (List ℕ)) → is_seen m k l ≡ true → view m k (l ∷ ls) ≡ l ∷ view m k ls
  seen_line k l ls h = ap (λ (t : Bool). cond t (l ∷ view m k ls) (view m k ls)) h

  unseen_line : (k : ℕ) (l : List ℕ) (ls : List (List ℕ)) → is_seen m k l ≡ false → view m k (l ∷ ls) ≡ view m k ls
  unseen_line k l ls h = ap (λ (t : Bool). cond t (l ∷ view m k ls) (view m k ls)) h

  step : (k : ℕ) (s t : S) (l : List ℕ) → IsSame m k s t → names m k l ≡ true
      → IsSame m k (m.machine.next s l) (m.machine.next t l)
  step k s t l same own = record { shared = apart.shared s t l same.shared; own = apart.own k s t l same own }

  step_shared : (k : ℕ) (s t : S) (l : List ℕ) → IsSame m k s t → names m k l ≡ false
      → IsSame m k (m.machine.next s l) (m.machine.next t l)
  step_shared k s t l same other = record {
    shared = apart.shared s t l same.shared;
    own = apart.other k s l other ∙ same.own ∙ sym (apart.other k t l other);
  }

  step_away : (k : ℕ) (s t : S) (l : List ℕ) → IsSame m k s t → names m k l ≡ false → m.is_shared l ≡ false
      → IsSame m k (m.machine.next s l) t
  step_away k s t l same other away = record {
    shared = apart.unshared s l away ∙ same.shared;
    own = apart.other k s l other ∙ same.own;
  }

  sees_by : (k : ℕ) (s t : S) (l : List ℕ) (ls : List (List ℕ)) → IsSame m k s t
      → ((u v : S) → IsSame m k u v → of_session m k (exchanges m.machine u ls)
      ≡ of_session m k (exchanges m.machine v (view m k ls)))
      → (a b : Bool) → names m k l ≡ a → m.is_shared l ≡ b
      → of_session m k (exchanges m.machine s (l ∷ ls)) ≡ of_session m k (exchanges m.machine t (view m k (l ∷ ls)))
  sees_by k s t l ls same more true b own shared =
      let seen : is_seen m k l ≡ true = ap (λ (x : Bool). x || m.is_shared l) own in
      own_line k s l ls own
      ∙ ap (λ (x : List ℕ). record { line = l; reply = x }
      ∷ of_session m k (exchanges m.machine (m.machine.next s l) ls)) (apart.reply k s t l same own)
      ∙ ap (λ (x : List Exchange). record { line = l; reply = m.machine.reply t l } ∷ x)
      (more (m.machine.next s l) (m.machine.next t l) (step k s t l same own))
      ∙ sym (own_line k t l (view m k ls) own)
      ∙ sym (ap (λ (x : List (List ℕ)). of_session m k (exchanges m.machine t x)) (seen_line k l ls seen))
  sees_by k s t l ls same more false true other shared =
      let seen : is_seen m k l ≡ true = ap (λ (x : Bool). x || m.is_shared l) other ∙ shared in
      other_line k s l ls other
      ∙ more (m.machine.next s l) (m.machine.next t l) (step_shared k s t l same other)
      ∙ sym (other_line k t l (view m k ls) other)
      ∙ sym (ap (λ (x : List (List ℕ)). of_session m k (exchanges m.machine t x)) (seen_line k l ls seen))
  sees_by k s t l ls same more false false other away =
      let unseen : is_seen m k l ≡ false = ap (λ (x : Bool). x || m.is_shared l) other ∙ away in
      other_line k s l ls other
      ∙ more (m.machine.next s l) t (step_away k s t l same other away)
      ∙ sym (ap (λ (x : List (List ℕ)). of_session m k (exchanges m.machine t x)) (unseen_line k l ls unseen))

  pub sees : (k : ℕ) (s t : S) (ls : List (List ℕ)) → IsSame m k s t
      → of_session m k (exchanges m.machine s ls) ≡ of_session m k (exchanges m.machine t (view m k ls))
  unfolding exchanges
  sees k s t [] same = refl
  sees k s t (l ∷ ls) same = sees_by k s t l ls same (λ u v. sees k u v ls) (names m k l) (m.is_shared l) refl refl

  -- the view as an input
  pub sees_its_view : (s : S) → SeesItsView m s
  sees_its_view s k x =
      sees k s s (lines_of x) (record { shared = refl; own = refl })
      ∙ sym (ap (λ (ls : List (List ℕ)). of_session m k (exchanges m.machine s ls)) (filtered-again (is_seen m k) x))
