-- One member of a pass.
use Rattle.std.proofs.Common.{◌≡◌, ◌≢◌, ◌⊎◌, inl, inr, ⊎_elim, ◌<◌, ◌+◌, ℕ, Bool, true, false}
use Rattle.std.proofs.Common.{List, [], ◌∷◌, Option, Result, Ok, Err, length, sym, subst, arith}
use Rattle.std.proofs.lemmas.Bool.{cases_eq}
use Rattle.tree_extract.specs.Members.{Member, AreMembers, kind_at, path_at}
use Rattle.tree_extract.specs.Log.{Call}
use Rattle.tree_extract.specs.Log.{Event, Did, Refused, Logs, LogsName}
use Rattle.tree_extract.specs.Safe.{IsNew, IsSafe}
use Rattle.tree_extract.specs.Extracted.{Makes, IsMade, IsMadeAs, IsWhole, IsCopied, HasNoRights, sets_rights}
use Rattle.tree_extract.specs.Passes.{IsRun, IsAt, IsPast, rank}
use Rattle.tree_extract.specs.declared.tree.Kind.{Kind}
use Rattle.tree_extract.specs.declared.tree.Kind.TheVariants as kind
use Rattle.tree_extract.specs.declared.tree.Rights.{Rights}
use Rattle.tree_extract.proofs.Inside.{makes_other}

-- ---- one more event

pub did_run : (known : Option (List ℕ)) (ms : List Member) (log : List Event) (i : ℕ) (c : Call) → IsRun known ms log
    → IsSafe log c → i < length ms → Makes known ms i c → IsRun known ms (Did c ∷ log)
did_run known ms log i c run safe lt makes = record { safe = (safe, run.safe); of = ((i, lt, makes), run.of) }

pub refused_run : (known : Option (List ℕ)) (ms : List Member) (log : List Event) (i : ℕ) (c : Call)
    → IsRun known ms log → IsSafe log c → i < length ms → Makes known ms i c → IsRun known ms (Refused c ∷ log)
refused_run known ms log i c run safe lt makes = record { safe = (safe, run.safe); of = ((i, lt, makes), run.of) }

-- whatever is answered
pub logs_run : {A E : Type 0} (known : Option (List ℕ)) (ms : List Member) (r : Result A E) (old new : List Event)
    (i : ℕ) (c : Call) → IsRun known ms old → IsSafe old c → i < length ms → Makes known ms i c → Logs c r old new
    → IsRun known ms new
logs_run known ms (Ok v) old new i c run safe lt makes is =
    subst (IsRun known ms) (sym is) (did_run known ms old i c run safe lt makes)
logs_run known ms (Err e) old new i c run safe lt makes (inl is) =
    subst (IsRun known ms) (sym is) (refused_run known ms old i c run safe lt makes)
logs_run known ms (Err e) old new i c run safe lt makes (inr is) = subst (IsRun known ms) (sym is) run

pub name_run : {E : Type 0} (known : Option (List ℕ)) (ms : List Member) (r : Result Bool E) (old new : List Event)
    (i : ℕ) (c : Call) → IsRun known ms old → IsSafe old c → i < length ms → Makes known ms i c
    → LogsName c r old new → IsRun known ms new
name_run known ms (Ok true) old new i c run safe lt makes is =
    subst (IsRun known ms) (sym is) (did_run known ms old i c run safe lt makes)
name_run known ms (Ok false) old new i c run safe lt makes is =
    subst (IsRun known ms) (sym is) (refused_run known ms old i c run safe lt makes)
name_run known ms (Err e) old new i c run safe lt makes (inl is) =
    subst (IsRun known ms) (sym is) (refused_run known ms old i c run safe lt makes)
name_run known ms (Err e) old new i c run safe lt makes (inr is) = subst (IsRun known ms) (sym is) run

-- ---- what stays made

whole_more : (known : Option (List ℕ)) (log : List Event) (e : Event) (p bytes : List ℕ) (rights : Rights)
    → IsWhole known log p bytes rights → IsWhole known (e ∷ log) p bytes rights
whole_more known log e p bytes rights whole = (whole.0, whole.1, inr whole.2)

copied_more : (known : Option (List ℕ)) (log : List Event) (e : Event) (p first bytes : List ℕ) (rights : Rights)
    → IsCopied known log p first bytes rights → IsCopied known (e ∷ log) p first bytes rights
copied_more known log e p first bytes rights copied = (copied.0, copied.1, inr copied.2)

made_as_more : (known : Option (List ℕ)) (ms : List Member) (i : ℕ) (log : List Event) (e : Event) (k : Kind)
    → IsMadeAs known ms i log k → IsMadeAs known ms i (e ∷ log) k
made_as_more known ms i log e kind.Directory made = inr made
made_as_more known ms i log e kind.File made = whole_more known log e _ _ _ made
made_as_more known ms i log e (kind.Further first) (inl made) = inl (inr made)
made_as_more known ms i log e (kind.Further first) (inr made) = inr (copied_more known log e _ _ _ _ made)
made_as_more known ms i log e kind.Symlink made = inr made
made_as_more known ms i log e kind.Nothing made = tt

pub made_more : (known : Option (List ℕ)) (ms : List Member) (i : ℕ) (log : List Event) (e : Event)
    → IsMade known ms i log → IsMade known ms i (e ∷ log)
made_more known ms i log e made = made_as_more known ms i log e (kind_at ms i) made

-- ---- a member that was made

-- what other members find
pub record IsMore (known : Option (List ℕ)) (ms : List Member) (k : ℕ) (old new : List Event) : Type 0 where
  pub run : IsRun known ms new
  pub stays : (j : ℕ) → IsMade known ms j old → IsMade known ms j new
  pub fresh : (j : ℕ) → j < length ms → k ≢ j → IsNew old (path_at ms j) → IsNew new (path_at ms j)
  pub no_rights : HasNoRights old → HasNoRights new

pub more_none : (known : Option (List ℕ)) (ms : List Member) (k : ℕ) (log : List Event) → IsRun known ms log
    → IsMore known ms k log log
more_none known ms k log run = record {
  run = run;
  stays = λ j made. made;
  fresh = λ j lt other is. is;
  no_rights = λ is. is;
}

pub more_did : (known : Option (List ℕ)) (ms : List Member) (k : ℕ) (old log : List Event) (c : Call) → AreMembers ms
    → k < length ms → IsMore known ms k old log → IsSafe log c → Makes known ms k c → sets_rights c ≡ false
    → IsMore known ms k old (Did c ∷ log)
more_did known ms k old log c members lt more safe makes no_rights = record {
  run = did_run known ms log k c more.run safe lt makes;
  stays = λ j made. made_more known ms j log (Did c) (more.stays j made);
  fresh = λ j lj other is. (makes_other known ms k j c members lt lj other makes, more.fresh j lj other is);
  no_rights = λ is. (no_rights, more.no_rights is);
}

pub more_refused : (known : Option (List ℕ)) (ms : List Member) (k : ℕ) (old log : List Event) (c : Call)
    → k < length ms → IsMore known ms k old log → IsSafe log c → Makes known ms k c → sets_rights c ≡ false
    → IsMore known ms k old (Refused c ∷ log)
more_refused known ms k old log c lt more safe makes no_rights = record {
  run = refused_run known ms log k c more.run safe lt makes;
  stays = λ j made. made_more known ms j log (Refused c) (more.stays j made);
  fresh = λ j lj other is. more.fresh j lj other is;
  no_rights = λ is. (no_rights, more.no_rights is);
}

by_cases : (j k : ℕ) → j < k + 1 → (j ≡ k) ⊎ (j < k)
by_cases j k lt = ⊎_elim (λ same. inl same) (λ other. inr (omega (arith, other))) (cases_eq j k)

past_here : (ms : List Member) (f k j : ℕ) → IsPast ms f (k + 1) j → (j ≡ k) ⊎ IsPast ms f k j
past_here ms f k j (inl less) = inr (inl less)
past_here ms f k j (inr is) = ⊎_elim (λ same. inl same) (λ less. inr (inr (is.0, less))) (by_cases j k is.1)

past_more : (ms : List Member) (f k j : ℕ) → IsPast ms f k j → IsPast ms f (k + 1) j
past_more ms f k j (inl less) = inl less
past_more ms f k j (inr is) = inr (is.0, omega (arith, is.1))

past_skip : (ms : List Member) (f k j : ℕ) → rank (kind_at ms k) ≢ f → IsPast ms f (k + 1) j → IsPast ms f k j
past_skip ms f k j other (inl less) = inl less
past_skip ms f k j other (inr is) =
    ⊎_elim (λ same. absurd (other (subst (λ i. rank (kind_at ms i) ≡ f) same is.0))) (λ less. inr (is.0, less))
    (by_cases j k is.1)

not_past : (ms : List Member) (f k : ℕ) → rank (kind_at ms k) ≡ f → IsPast ms f k k → ⊥
not_past ms f k is (inl less) = absurd (omega (arith, is, less))
not_past ms f k is (inr here) = absurd (omega (arith, here.1))

pub fresh_here : (known : Option (List ℕ)) (ms : List Member) (f k : ℕ) (log : List Event) → IsAt known ms f k log
    → k < length ms → rank (kind_at ms k) ≡ f → IsNew log (path_at ms k)
fresh_here known ms f k log place lt is = place.fresh k lt (not_past ms f k is)

pub step : (known : Option (List ℕ)) (ms : List Member) (f k : ℕ) (old new : List Event) → IsAt known ms f k old
    → k < length ms → rank (kind_at ms k) ≡ f → IsMore known ms k old new → IsMade known ms k new
    → IsAt known ms f (k + 1) new
step known ms f k old new place lt is more made = record {
  run = more.run;
  done = λ j lj past. ⊎_elim (λ same. subst (λ i. IsMade known ms i new) (sym same) made)
      (λ was. more.stays j (place.done j lj was)) (past_here ms f k j past);
  fresh = λ j lj unpast. more.fresh j lj
      (λ same. unpast (subst (λ i. IsPast ms f (k + 1) i) same (inr (is, omega arith))))
      (place.fresh j lj (λ was. unpast (past_more ms f k j was)));
  no_rights = more.no_rights place.no_rights;
}

pub skip : (known : Option (List ℕ)) (ms : List Member) (f k : ℕ) (log : List Event) → IsAt known ms f k log
    → rank (kind_at ms k) ≢ f → IsAt known ms f (k + 1) log
skip known ms f k log place other = record {
  run = place.run;
  done = λ j lj past. place.done j lj (past_skip ms f k j other past);
  fresh = λ j lj unpast. place.fresh j lj (λ was. unpast (past_more ms f k j was));
  no_rights = place.no_rights;
}

-- ---- from pass to pass

pub start : (known : Option (List ℕ)) (ms : List Member) (log : List Event) → log ≡ [] → IsAt known ms 0 0 log
start known ms log empty = subst (IsAt known ms 0 0) (sym empty) at_none where
  no_past : (j : ℕ) → IsPast ms 0 0 j → ⊥
  no_past j (inl less) = absurd (omega (arith, less))
  no_past j (inr is) = absurd (omega (arith, is.1))

  at_none : IsAt known ms 0 0 []
  at_none = record {
    run = record { safe = tt; of = tt };
    done = λ j lj past. absurd (no_past j past);
    fresh = λ j lj unpast. tt;
    no_rights = tt;
  }

was_past : (ms : List Member) (f j : ℕ) → j < length ms → IsPast ms (f + 1) 0 j → IsPast ms f (length ms) j
was_past ms f j lj (inl less) =
    ⊎_elim (λ same. inr (same, lj)) (λ lower. inl lower) (by_cases (rank (kind_at ms j)) f less)
was_past ms f j lj (inr is) = absurd (omega (arith, is.1))

is_past : (ms : List Member) (f j : ℕ) → IsPast ms f (length ms) j → IsPast ms (f + 1) 0 j
is_past ms f j (inl less) = inl (omega (arith, less))
is_past ms f j (inr is) = inl (omega (arith, is.0))

pub next_pass : (known : Option (List ℕ)) (ms : List Member) (f : ℕ) (log : List Event)
    → IsAt known ms f (length ms) log → IsAt known ms (f + 1) 0 log
next_pass known ms f log place = record {
  run = place.run;
  done = λ j lj past. place.done j lj (was_past ms f j lj past);
  fresh = λ j lj unpast. place.fresh j lj (λ was. unpast (is_past ms f j was));
  no_rights = place.no_rights;
}
