-- What was tried before a part was made, and what follows it.
use Rattle.std.proofs.Common.{◌≡◌, ◌≢◌, ◌⊎◌, inl, inr, ⊎_elim, ℕ, suc, ◌+◌, ◌<◌, ◌≤◌, Bool, true, false, cond, List}
use Rattle.std.proofs.Common.{[], ◌∷◌}
use Rattle.std.proofs.Common.{◌++◌, refl, sym, ◌∙◌, ap, subst, arith}
use Rattle.std.specs.Prelude.{nat_eq}
use Rattle.atomic_file.specs.Log.{Create, Remove, Event, Did, Refused, Knows, EachMoment, Throughout}
use Rattle.atomic_file.specs.Crashes.{Place, Nothing, Made, made, entry}
use Rattle.atomic_file.specs.Moments.{IsPart, IsApart, IsTried, IsBegun}
use Rattle.atomic_file.specs.Runs.{AreAll, Adds, IsTry, taken, cleared, in_use, IsOther, other_cleared, other_in_use}
use Rattle.atomic_file.specs.Runs.{IsMade}
use Rattle.atomic_file.specs.declared.names.Names.{Names}
use Rattle.atomic_file.proofs.Numbers.{at_name, at_other, same_or_other}
use Rattle.atomic_file.proofs.Logs.{adds_none, adds_one, adds_both, knows_more, knows_after, throughout_both}
use Rattle.atomic_file.proofs.Besides.{beside_create, beside_no_create, beside_remove, beside_no_remove}
use Rattle.atomic_file.proofs.Besides.{apart_start, apart_step, left_same}

removed_left : (b : Bool) (x y : Place) → (x ≡ y) ⊎ (x ≡ Nothing)
    → (cond b Nothing x ≡ y) ⊎ (cond b Nothing x ≡ Nothing)
removed_left true x y was = inr refl
removed_left false x y was = was

module _ (names : Names) (old : List Event) where
  one_more : (m n : ℕ) → m ≤ n → m ≤ suc n
  one_more m n less = omega arith

  same_number : (n : ℕ) → n ≤ n
  same_number n = omega arith

  pub tried_start : IsTried names old old
  tried_start = record { apart = apart_start names old; parts = λ n part. inl refl }

  pub tried_step : (e : Event) (log : List Event) → IsTry names e → IsTried names old log → IsTried names old (e ∷ log)
  tried_step _ log (taken n part) so_far = record {
    apart = apart_step names old n log (Refused (Create n) ∷ log) part (beside_no_create n log) (λ k less. refl)
        (one_more (made log) (made log) (same_number (made log))) so_far.apart;
    parts = so_far.parts;
  }
  tried_step _ log (cleared n part) so_far = record {
    apart = apart_step names old n log (Did (Remove n) ∷ log) part (beside_remove n log) (λ k less. refl)
        (same_number (made log)) so_far.apart;
    parts = λ m is. removed_left (nat_eq m n) (entry log m) (entry old m) (so_far.parts m is);
  }
  tried_step _ log (in_use n part) so_far = record {
    apart = apart_step names old n log (Refused (Remove n) ∷ log) part (beside_no_remove n log) (λ k less. refl)
        (same_number (made log)) so_far.apart;
    parts = so_far.parts;
  }

  all_tried : (later : List Event) → AreAll (IsTry names) later → IsTried names old (later ++ old)
  all_tried [] all = tried_start
  all_tried (e ∷ later) all = tried_step e (later ++ old) all.0 (all_tried later all.1)

  each_tried : (later : List Event) → AreAll (IsTry names) later → EachMoment (IsApart names old) later old
  each_tried [] all = apart_start names old
  each_tried (e ∷ later) all = ((all_tried (e ∷ later) all).apart, each_tried later all.1)

  pub after_tries : (log : List Event) → Adds (IsTry names) old log → IsTried names old log
  after_tries log (later, is, all) = subst (IsTried names old) (sym is) (all_tried later all)

  pub throughout_tries : (log : List Event) → Adds (IsTry names) old log → Throughout (IsApart names old) old log
  throughout_tries log (later, is, all) = (later, is, each_tried later all)

  pub made_begun : (name : ℕ) (log : List Event) → IsPart names name → IsTried names old log
      → IsBegun names name old (Did (Create name) ∷ log)
  made_begun name log part so_far = record {
    apart = apart_step names old name log (Did (Create name) ∷ log) part (beside_create name log) (λ k less. refl)
        (one_more (made log) (made log) (same_number (made log))) so_far.apart;
    is_part = part;
    number = made log;
    last = refl;
    since = so_far.apart.grown;
    leads = at_name name (Made (made log)) (entry log name);
    others = λ n is other. left_same names old n log (Did (Create name) ∷ log)
        (at_other n name (Made (made log)) (entry log n) other) (so_far.parts n is);
  }

  pub begun_step : (name : ℕ) (e : Event) (log : List Event) → IsOther names name e → IsBegun names name old log
      → IsBegun names name old (e ∷ log)
  begun_step name _ log (other_cleared n part differs) so_far = record {
    apart = apart_step names old n log (Did (Remove n) ∷ log) part (beside_remove n log) (λ k less. refl)
        (same_number (made log)) so_far.apart;
    is_part = so_far.is_part;
    number = so_far.number;
    last = so_far.last;
    since = so_far.since;
    leads = at_other name n Nothing (entry log name) (λ same. differs (sym same)) ∙ so_far.leads;
    others = λ m is other. removed_left (nat_eq m n) (entry log m) (entry old m) (so_far.others m is other);
  }
  begun_step name _ log (other_in_use n part differs) so_far = record {
    apart = apart_step names old n log (Refused (Remove n) ∷ log) part (beside_no_remove n log) (λ k less. refl)
        (same_number (made log)) so_far.apart;
    is_part = so_far.is_part;
    number = so_far.number;
    last = so_far.last;
    since = so_far.since;
    leads = so_far.leads;
    others = so_far.others;
  }

  all_begun : (name : ℕ) (later mid : List Event) → AreAll (IsOther names name) later → IsBegun names name old mid
      → IsBegun names name old (later ++ mid)
  all_begun name [] mid all begun = begun
  all_begun name (e ∷ later) mid all begun = begun_step name e (later ++ mid) all.0 (all_begun name later mid all.1
      begun)

  each_begun : (name : ℕ) (later mid : List Event) → AreAll (IsOther names name) later → IsBegun names name old mid
      → EachMoment (IsApart names old) later mid
  each_begun name [] mid all begun = begun.apart
  each_begun name (e ∷ later) mid all begun =
      ((all_begun name (e ∷ later) mid all begun).apart, each_begun name later mid all.1 begun)

  -- ---- the part was made, and the names behind it were cleared

  pub is_begun : (name : ℕ) (a b : List Event) → IsPart names name → IsMade names name old a
      → Adds (IsOther names name) a b → IsBegun names name old b
  is_begun name a b part (mid, tries, is) (later, is2, all) =
      subst (IsBegun names name old) (sym is2)
      (all_begun name later a all (subst (IsBegun names name old) (sym is) (made_begun name mid part (after_tries mid
      tries))))

  pub throughout_begun : (name : ℕ) (a b : List Event) → IsPart names name → IsMade names name old a
      → Adds (IsOther names name) a b → Throughout (IsApart names old) old b
  throughout_begun name a b part (mid, tries, is) (later, is2, all) =
      let begun : IsBegun names name old a =
      subst (IsBegun names name old) (sym is) (made_begun name mid part (after_tries mid tries)) in
      throughout_both (IsApart names old) old a b
      (throughout_both (IsApart names old) old mid a (throughout_tries mid tries)
      (Did (Create name) ∷ [], is, (subst (IsApart names old) is begun.apart, (after_tries mid tries).apart)))
      (later, is2, each_begun name later a all begun)

-- ---- the calls of one try

module _ (names : Names) (n : ℕ) (part : IsPart names n) (old : List Event) where
  pub after_taken : (a : List Event) → a ≡ Refused (Create n) ∷ old → Adds (IsTry names) old a
  after_taken a is =
      adds_one (IsTry names) (Refused (Create n)) old old a (taken n part) is (adds_none (IsTry names) old)

  pub after_in_use : (a b : List Event) → a ≡ Refused (Create n) ∷ old → b ≡ Refused (Remove n) ∷ a
      → Adds (IsTry names) old b
  after_in_use a b is is2 = adds_one (IsTry names) (Refused (Remove n)) old a b (in_use n part) is2 (after_taken a is)

  pub after_cleared : (a b : List Event) → a ≡ Refused (Create n) ∷ old → b ≡ Did (Remove n) ∷ a
      → Adds (IsTry names) old b
  after_cleared a b is is2 = adds_one (IsTry names) (Did (Remove n)) old a b (cleared n part) is2 (after_taken a is)

  pub after_again : (a b c : List Event) → a ≡ Refused (Create n) ∷ old → b ≡ Did (Remove n) ∷ a
      → c ≡ Refused (Create n) ∷ b → Adds (IsTry names) old c
  after_again a b c is is2 is3 =
      adds_one (IsTry names) (Refused (Create n)) old b c (taken n part) is3 (after_cleared a b is is2)

  pub knows_taken : (a : List Event) → a ≡ Refused (Create n) ∷ old → Knows (Refused (Create n)) old a
  knows_taken a is = ([], [], is)

  pub knows_in_use : (a b : List Event) → a ≡ Refused (Create n) ∷ old → b ≡ Refused (Remove n) ∷ a
      → Knows (Refused (Create n)) old b
  knows_in_use a b is is2 =
      (Refused (Remove n) ∷ [], [], is2 ∙ ap (λ (l : List Event). Refused (Remove n) ∷ l) is)

  pub knows_again : (a b c : List Event) → a ≡ Refused (Create n) ∷ old → b ≡ Did (Remove n) ∷ a
      → c ≡ Refused (Create n) ∷ b → Knows (Refused (Create n)) old c
  knows_again a b c is is2 is3 = (
    [],
    Did (Remove n) ∷ Refused (Create n) ∷ [],
    is3 ∙ ap (λ (l : List Event). Refused (Create n) ∷ l) (is2 ∙ ap (λ (l : List Event). Did (Remove n) ∷ l) is),
  )

  pub other_removed : (name : ℕ) (a : List Event) → n ≢ name → a ≡ Did (Remove n) ∷ old
      → Adds (IsOther names name) old a
  other_removed name a differs is = adds_one (IsOther names name) (Did (Remove n)) old old a
      (other_cleared n part differs) is (adds_none (IsOther names name) old)

  pub other_stays : (name : ℕ) (a : List Event) → n ≢ name → a ≡ Refused (Remove n) ∷ old
      → Adds (IsOther names name) old a
  other_stays name a differs is = adds_one (IsOther names name) (Refused (Remove n)) old old a
      (other_in_use n part differs) is (adds_none (IsOther names name) old)

-- ---- all tries

module _ (names : Names) (a b c : List Event) where
  pub later_made : (name : ℕ) → Adds (IsTry names) a b → IsMade names name b c → IsMade names name a c
  later_made name before (mid, tries, is) = (mid, adds_both (IsTry names) a b mid before tries, is)

  -- a name that was tried earlier, or is the one that was tried last
  pub knows_all : (name : ℕ) → Adds (IsTry names) a b → Adds (IsTry names) b c → Knows (Refused (Create name)) b c
      → ((n : ℕ) → names.first ≤ n → n < name → Knows (Refused (Create n)) a b)
      → (n : ℕ) → names.first ≤ n → n < name + 1 → Knows (Refused (Create n)) a c
  knows_all name before now known so_far n first less = ⊎_elim
      (λ is. subst (λ (m : ℕ). Knows (Refused (Create m)) a c) (sym is)
      (knows_after (IsTry names) (Refused (Create name)) a b c before known))
      (λ other. knows_more (IsTry names) (Refused (Create n)) a b c (so_far n first (earlier other)) now)
      (same_or_other n name)
    where
      earlier : n ≢ name → n < name
      earlier other = omega (arith, other, less)
