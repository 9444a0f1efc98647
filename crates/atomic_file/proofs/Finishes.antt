-- By which calls a run ended, from what each call says, and what that means.
use Rattle.std.proofs.Common.{◌≡◌, ◌⊎◌, inl, inr, ⊎_elim, ℕ, List, [], ◌∷◌, Option, Result, Ok, Err, IfOk, OnErr, refl}
use Rattle.std.proofs.Common.{sym, ◌∙◌, ap, subst}
use Rattle.atomic_file.specs.Log.{Sync, Close, Rename, Remove, SyncDirectory, Event, Did, Refused, EndsBy}
use Rattle.atomic_file.specs.Log.{Throughout}
use Rattle.atomic_file.specs.Crashes.{Place, Content, Anything, Whole, entry, content}
use Rattle.atomic_file.specs.Moments.{IsPart, IsNoPart, HoldsImage, IsNew, IsOldOrNew, IsApart, IsTried, IsLeft}
use Rattle.atomic_file.specs.Moments.{IsBegun}
use Rattle.atomic_file.specs.Moments.{IsReplaced, IsDurable, IsKept}
use Rattle.atomic_file.specs.Runs.{IsRemoval, IsDone, IsUnkept, not_synced, not_closed, not_renamed, not_durable}
use Rattle.atomic_file.specs.declared.directory.Durability.{Durability}
use Rattle.atomic_file.specs.declared.names.Names.{Names}
use Rattle.atomic_file.proofs.Besides.{from_apart}
use Rattle.atomic_file.proofs.Logs.{throughout_map, throughout_both, throughout_last}
use Rattle.atomic_file.proofs.Ends.{removal_apart, removal_part, throughout_done, throughout_unkept, replaced, kept}
use Rattle.atomic_file.proofs.Ends.{durable}

abbrev pub Removes : ℕ → List Event → List Event → Type 0
Removes name mid new = (e : Event) × IsRemoval name e × (new ≡ e ∷ mid)

-- ---- which calls

module _ (names : Names) (name : ℕ) (known : Option (List ℕ)) (old : List Event) where
  pub unsynced : (a new : List Event) → a ≡ Refused (Sync known) ∷ old → Removes name a new
      → IsUnkept names name known old new
  unsynced a new is end =
      subst (IsUnkept names name known old) (sym (end.2 ∙ ap (λ (l : List Event). end.0 ∷ l) is)) (not_synced end.0
      end.1)

  pub unclosed : (a b new : List Event) → a ≡ Did (Sync known) ∷ old → b ≡ Refused Close ∷ a → Removes name b new
      → IsUnkept names name known old new
  unclosed a b new is is2 end =
      let whole : new ≡ end.0 ∷ Refused Close ∷ Did (Sync known) ∷ old =
      end.2 ∙ ap (λ (l : List Event). end.0 ∷ l) (is2 ∙ ap (λ (l : List Event). Refused Close ∷ l) is) in
      subst (IsUnkept names name known old) (sym whole) (not_closed end.0 end.1)

  closed : (a b : List Event) → a ≡ Did (Sync known) ∷ old → b ≡ Did Close ∷ a → b ≡ Did Close ∷ Did (Sync known) ∷ old
  closed a b is is2 = is2 ∙ ap (λ (l : List Event). Did Close ∷ l) is

  pub unrenamed : (a b c new : List Event) → a ≡ Did (Sync known) ∷ old → b ≡ Did Close ∷ a
      → c ≡ Refused (Rename name names.out) ∷ b → Removes name c new → IsUnkept names name known old new
  unrenamed a b c new is is2 is3 end =
      let whole : new ≡ end.0 ∷ Refused (Rename name names.out) ∷ Did Close ∷ Did (Sync known) ∷ old =
      end.2 ∙ ap (λ (l : List Event). end.0 ∷ l)
      (is3 ∙ ap (λ (l : List Event). Refused (Rename name names.out) ∷ l) (closed a b is is2)) in
      subst (IsUnkept names name known old) (sym whole) (not_renamed end.0 end.1)

  pub undurable : (a b c new : List Event) → a ≡ Did (Sync known) ∷ old → b ≡ Did Close ∷ a
      → c ≡ Did (Rename name names.out) ∷ b → new ≡ Refused SyncDirectory ∷ c → IsUnkept names name known old new
  undurable a b c new is is2 is3 is4 =
      let whole : new ≡ Refused SyncDirectory ∷ Did (Rename name names.out) ∷ Did Close ∷ Did (Sync known) ∷ old =
      is4 ∙ ap (λ (l : List Event). Refused SyncDirectory ∷ l)
      (is3 ∙ ap (λ (l : List Event). Did (Rename name names.out) ∷ l) (closed a b is is2)) in
      subst (IsUnkept names name known old) (sym whole) not_durable

-- ---- a part that is given up

module _ (names : Names) (name : ℕ) (old log new : List Event) (begun : IsBegun names name old log) where
  pub removal_moments : Removes name log new → Throughout (IsApart names old) log new
  removal_moments (e, end, is) = (e ∷ [], is, (removal_apart names name old log begun e end, begun.apart))

  pub removal_left : Removes name log new → (n : ℕ) → IsPart names n
      → IsLeft old new n ⊎ EndsBy (Refused (Remove n)) new
  removal_left (e, end, is) n part =
      subst (λ (l : List Event). IsLeft old l n ⊎ EndsBy (Refused (Remove n)) l) (sym is)
      (removal_part names name old log begun e log end (λ m. refl) n part)

-- ---- a part that is kept

module _ (names : Names) (name : ℕ) (known : Option (List ℕ)) (mid new : List Event) (distinct : IsNoPart names
    names.out) where
  pub keep_moments : {E : Type 0} (r : Result Durability E) → IfOk r (λ d. IsDone names name known d mid new)
      → OnErr r (IsUnkept names name known mid new) → (old : List Event) → IsBegun names name old mid
      → Throughout (IsOldOrNew names (λ t. t ≡ known) old) mid new
  keep_moments (Ok d) ended stopped old begun = throughout_done names name known old mid distinct begun d new ended
  keep_moments (Err e) ended stopped old begun = throughout_unkept names name known old mid distinct begun new stopped

  pub keep_ok : {E : Type 0} (r : Result Durability E) → IfOk r (λ d. IsDone names name known d mid new)
      → IfOk r (λ d. (old : List Event) → IsBegun names name old mid → IsReplaced names (λ t. t ≡ known) old new)
  keep_ok (Ok d) ended = λ old begun. replaced names name known old mid distinct begun d new ended
  keep_ok (Err e) ended = tt

  pub keep_durable : {E : Type 0} (r : Result Durability E) → IfOk r (λ d. IsDone names name known d mid new)
      → IfOk r (λ d. IsDurable d new)
  keep_durable (Ok d) ended = durable names name known d mid new ended
  keep_durable (Err e) ended = tt

  pub keep_err : {E : Type 0} (r : Result Durability E) → OnErr r (IsUnkept names name known mid new)
      → OnErr r ((old : List Event) → IsBegun names name old mid → IsKept names (λ t. t ≡ known) old new)
  keep_err (Ok d) stopped = tt
  keep_err (Err e) stopped = λ old begun. kept names name known old mid distinct begun new stopped

-- ---- of the bytes that were written, to the bytes that were to be written

pub written : (writes : Option (List ℕ) → Option (List ℕ) → Type 0) (fresh a b : Option (List ℕ)) → a ≡ fresh
    → writes a b
    → (t : Option (List ℕ)) → t ≡ b → writes fresh t
written writes fresh a b is whole t same =
    subst (λ (o : Option (List ℕ)). writes o t) is (subst (λ (o : Option (List ℕ)). writes a o) (sym same) whole)

module _ (names : Names) (Small Image : Option (List ℕ) → Type 0) (more : (t : Option (List ℕ)) → Small t
    → Image t) where
  holds : (c : Content) → HoldsImage Small c → HoldsImage Image c
  holds Anything is = is
  holds (Whole known) is = more known is

  new_of : (old log : List Event) (p : Place) → IsNew Small old log p → IsNew Image old log p
  new_of old log p (k, since, is, whole) = (k, since, is, holds (content log k) whole)

  moment_of : (old log : List Event) → IsOldOrNew names Small old log → IsOldOrNew names Image old log
  moment_of old log m = record {
    seen = ⊎_elim (λ same. inl same) (λ new. inr (new_of old log (entry log names.out) new)) m.seen;
    crashed = λ p may. ⊎_elim (λ was. inl was) (λ new. inr (new_of old log p new)) (m.crashed p may);
    others_seen = m.others_seen;
    others_crashed = m.others_crashed;
    files = m.files;
  }

  pub moments_of : (old a b : List Event) → Throughout (IsOldOrNew names Small old) a b
      → Throughout (IsOldOrNew names Image old) a b
  moments_of old a b moments =
      throughout_map (IsOldOrNew names Small old) (IsOldOrNew names Image old) a b (moment_of old) moments

  pub replaced_of : (old log : List Event) → IsReplaced names Small old log → IsReplaced names Image old log
  replaced_of old log m = record { seen = new_of old log (entry log names.out) m.seen; no_part = m.no_part }

  pub kept_of : (old log : List Event) → IsKept names Small old log → IsKept names Image old log
  kept_of old log m = record {
    seen = ⊎_elim (λ same. inl same) (λ new. inr (new_of old log (entry log names.out) new.0, new.1)) m.seen;
    no_part = m.no_part;
  }

-- ---- while only parts are touched

module _ (names : Names) (Image : Option (List ℕ) → Type 0) (distinct : IsNoPart names names.out) where
  pub moments_apart : (old a b : List Event) → Throughout (IsApart names old) a b
      → Throughout (IsOldOrNew names Image old) a b
  moments_apart old a b moments = throughout_map (IsApart names old) (IsOldOrNew names Image old) a b
      (λ log apart. from_apart names old Image log distinct apart) moments

  pub kept_apart : (old a b : List Event) → Throughout (IsApart names old) a b
      → ((n : ℕ) → IsPart names n → IsLeft old b n ⊎ EndsBy (Refused (Remove n)) b) → IsKept names Image old b
  kept_apart old a b moments left =
      record { seen = inl ((throughout_last (IsApart names old) a b moments).seen names.out distinct); no_part = left }

  pub kept_tried : (old log : List Event) → IsTried names old log → IsKept names Image old log
  kept_tried old log tried =
      record { seen = inl (tried.apart.seen names.out distinct); no_part = λ n part. inl (tried.parts n part) }

  pub joined : (old a b : List Event) → Throughout (IsApart names old) old a
      → Throughout (IsOldOrNew names Image old) a b
      → Throughout (IsOldOrNew names Image old) old b
  joined old a b before after =
      throughout_both (IsOldOrNew names Image old) old a b (moments_apart old old a before) after
