-- What a call does to other names than the one that it is given: nothing, and after a crash neither.
use Rattle.std.proofs.Common.{◌≡◌, ◌≢◌, ◌⊎◌, inl, inr, ⊎_elim, ℕ, ◌<◌, ◌≤◌, List, [], ◌∷◌, Option, refl}
use Rattle.std.proofs.Common.{sym, ◌∙◌, subst, arith}
use Rattle.atomic_file.specs.Log.{Create, Sync, Close, Rename, Remove, SyncDirectory, Event, Did, Refused, Skipped}
use Rattle.atomic_file.specs.Crashes.{Place, Nothing, Made, made, entry, MayLead, content}
use Rattle.atomic_file.specs.Moments.{IsPart, IsNoPart, IsApart, IsOldOrNew, IsLeft}
use Rattle.atomic_file.specs.Runs.{IsRemoval, removed, stays}
use Rattle.atomic_file.specs.declared.names.Names.{Names}
use Rattle.atomic_file.proofs.Numbers.{at_other}

-- a crash may leave what is seen
pub seen_may : (log : List Event) (n : ℕ) → MayLead log n (entry log n)
seen_may [] n = refl
seen_may (Did (Create name) ∷ log) n = inl refl
seen_may (Did (Sync known) ∷ log) n = inl refl
seen_may (Did Close ∷ log) n = inl refl
seen_may (Did (Rename from to) ∷ log) n = inl refl
seen_may (Did (Remove name) ∷ log) n = inl refl
seen_may (Did SyncDirectory ∷ log) n = refl
seen_may (Refused call ∷ log) n = inr (seen_may log n)
seen_may (Skipped ∷ log) n = seen_may log n

pub record IsBeside (name : ℕ) (log next : List Event) : Type 0 where
  pub seen : (n : ℕ) → n ≢ name → entry next n ≡ entry log n
  pub crashed : (n : ℕ) (p : Place) → n ≢ name → MayLead next n p → (p ≡ entry log n) ⊎ MayLead log n p

pub beside_create : (name : ℕ) (log : List Event) → IsBeside name log (Did (Create name) ∷ log)
beside_create name log = record {
  seen = λ n other. at_other n name (Made (made log)) (entry log n) other;
  crashed = λ n p other may. ⊎_elim
      (λ is. inl (is ∙ at_other n name (Made (made log)) (entry log n) other))
      (λ was. inr was)
      may;
}

pub beside_no_create : (name : ℕ) (log : List Event) → IsBeside name log (Refused (Create name) ∷ log)
beside_no_create name log = record {
  seen = λ n other. refl;
  crashed = λ n p other may. ⊎_elim
      (λ is. inl (is ∙ at_other n name (Made (made log)) (entry log n) other))
      (λ was. inr was)
      may;
}

pub beside_remove : (name : ℕ) (log : List Event) → IsBeside name log (Did (Remove name) ∷ log)
beside_remove name log = record {
  seen = λ n other. at_other n name Nothing (entry log n) other;
  crashed = λ n p other may. ⊎_elim
      (λ is. inl (is ∙ at_other n name Nothing (entry log n) other))
      (λ was. inr was)
      may;
}

pub beside_no_remove : (name : ℕ) (log : List Event) → IsBeside name log (Refused (Remove name) ∷ log)
beside_no_remove name log = record {
  seen = λ n other. refl;
  crashed = λ n p other may. ⊎_elim
      (λ is. inl (is ∙ at_other n name Nothing (entry log n) other))
      (λ was. inr was)
      may;
}

pub beside_removal : (name : ℕ) (e : Event) (log : List Event) → IsRemoval name e → IsBeside name log (e ∷ log)
beside_removal name _ log removed = beside_remove name log
beside_removal name _ log stays = beside_no_remove name log

pub removal_content : (name : ℕ) (e : Event) (log : List Event) (k : ℕ) → IsRemoval name e
    → content (e ∷ log) k ≡ content log k
removal_content name _ log k removed = refl
removal_content name _ log k stays = refl

pub removal_made : (name : ℕ) (e : Event) (log : List Event) → IsRemoval name e → made (e ∷ log) ≡ made log
removal_made name _ log removed = refl
removal_made name _ log stays = refl

pub beside_sync : (name : ℕ) (known : Option (List ℕ)) (log : List Event) → IsBeside name log (Did (Sync known) ∷ log)
beside_sync name known log = record { seen = λ n other. refl; crashed = λ n p other may. may }

pub beside_no_sync : (name : ℕ) (known : Option (List ℕ)) (log : List Event)
    → IsBeside name log (Refused (Sync known) ∷ log)
beside_no_sync name known log = record { seen = λ n other. refl; crashed = λ n p other may. may }

pub beside_close : (name : ℕ) (log : List Event) → IsBeside name log (Did Close ∷ log)
beside_close name log = record { seen = λ n other. refl; crashed = λ n p other may. may }

pub beside_no_close : (name : ℕ) (log : List Event) → IsBeside name log (Refused Close ∷ log)
beside_no_close name log = record { seen = λ n other. refl; crashed = λ n p other may. may }

pub beside_directory : (name : ℕ) (log : List Event) → IsBeside name log (Did SyncDirectory ∷ log)
beside_directory name log = record { seen = λ n other. refl; crashed = λ n p other may. inl may }

pub beside_no_directory : (name : ℕ) (log : List Event) → IsBeside name log (Refused SyncDirectory ∷ log)
beside_no_directory name log = record { seen = λ n other. refl; crashed = λ n p other may. may }

pub beside_skipped : (name : ℕ) (log : List Event) → IsBeside name log (Skipped ∷ log)
beside_skipped name log = record { seen = λ n other. refl; crashed = λ n p other may. inr may }

module _ (names : Names) (old : List Event) where
  pub no_part_other : (n name : ℕ) → IsNoPart names n → IsPart names name → n ≢ name
  no_part_other n name free part same = free (subst (IsPart names) (sym same) part)

  -- ---- while only parts are touched

  pub apart_start : IsApart names old old
  apart_start = record {
    seen = λ n free. refl;
    crashed = λ n p free may. may;
    files = λ k less. refl;
    grown = omega
        arith;
  }

  pub apart_step : (name : ℕ) (log next : List Event) → IsPart names name → IsBeside name log next
      → ((k : ℕ) → k < made old → content next k ≡ content log k) → made log ≤ made next
      → IsApart names old log → IsApart names old next
  apart_step name log next part beside contents grown so_far = record {
    seen = λ n free. beside.seen n (no_part_other n name free part) ∙ so_far.seen n free;
    crashed = λ n p free may. ⊎_elim
        (λ is. subst (MayLead old n) (sym (is ∙ so_far.seen n free)) (seen_may old n))
        (λ was. so_far.crashed n p free was)
        (beside.crashed n p (no_part_other n name free part) may);
    files = λ k less. contents k less ∙ so_far.files k less;
    grown = more so_far.grown grown;
  }
    where
      more : made old ≤ made log → made log ≤ made next → made old ≤ made next
      more a b = omega arith

  pub left_same : (n : ℕ) (log next : List Event) → entry next n ≡ entry log n → IsLeft old log n → IsLeft old next n
  left_same n log next same was = ⊎_elim (λ is. inl (same ∙ is)) (λ is. inr (same ∙ is)) was

  -- then the file is as before
  pub from_apart : (Image : Option (List ℕ) → Type 0) (log : List Event) → IsNoPart names names.out
      → IsApart names old log → IsOldOrNew names Image old log
  from_apart Image log distinct apart = record {
    seen = inl (apart.seen names.out distinct);
    crashed = λ p may. inl (apart.crashed names.out p distinct may);
    others_seen = λ n other free. apart.seen n free;
    others_crashed = λ n p other free may. apart.crashed n p free may;
    files = apart.files;
  }
