-- What is seen, and what a crash leaves, at each moment while a part gets the name of the file.
use Rattle.std.proofs.Common.{◌≡◌, ◌≢◌, ◌⊎◌, inl, inr, ⊎_elim, ℕ, suc, ◌<◌, ◌≤◌, cond, List, [], ◌∷◌, Option, refl}
use Rattle.std.proofs.Common.{sym, ◌∙◌, ap, subst, arith}
use Rattle.std.specs.Prelude.{nat_eq}
use Rattle.atomic_file.specs.Log.{Sync, Close, Rename, Remove, SyncDirectory, Event, Did, Refused}
use Rattle.atomic_file.specs.Log.{EndsBy, Throughout, last_event}
use Rattle.atomic_file.specs.Crashes.{Place, Nothing, Made, Whole, made, entry, MayLead, content}
use Rattle.atomic_file.specs.Moments.{IsPart, IsNoPart, HoldsImage, IsNew, IsOldOrNew, IsApart, IsLeft, IsBegun}
use Rattle.atomic_file.specs.Moments.{IsReplaced, IsDurable, IsKept}
use Rattle.atomic_file.specs.Runs.{renamed_run, IsDone, IsUnkept, not_synced, not_closed, not_renamed, not_durable}
use Rattle.atomic_file.specs.Runs.{IsRemoval, removed, stays}
use Rattle.atomic_file.specs.declared.directory.Durability.{Durability}
use Rattle.atomic_file.specs.declared.directory.Durability.TheVariants.{Durable, Unknown}
use Rattle.atomic_file.specs.declared.names.Names.{Names}
use Rattle.atomic_file.proofs.Numbers.{at_name, at_same, at_other, same_or_other}
use Rattle.atomic_file.proofs.Besides.{seen_may, IsBeside, beside_sync, beside_no_sync, beside_close, beside_no_close}
use Rattle.atomic_file.proofs.Besides.{beside_directory, beside_no_directory, beside_skipped, beside_removal}
use Rattle.atomic_file.proofs.Besides.{removal_content, removal_made, apart_step, left_same, from_apart, no_part_other}

same_number : (m n : ℕ) → m ≡ n → m ≤ n
same_number m n is = omega arith

-- ---- a removal of the part

module _ (names : Names) (name : ℕ) (old log : List Event) (begun : IsBegun names name old log) where
  pub removal_apart : (e : Event) → IsRemoval name e → IsApart names old (e ∷ log)
  removal_apart e end = apart_step names old name log (e ∷ log) begun.is_part (beside_removal name e log end)
      (λ k less. removal_content name e log k end) (same_number (made log) (made (e ∷ log)) (sym (removal_made name e
      log end)))
      begun.apart

  pub removal_part : (e : Event) (log2 : List Event) → IsRemoval name e → ((n : ℕ) → entry log2 n ≡ entry log n)
      → (n : ℕ)
      → IsPart names n → IsLeft old (e ∷ log2) n ⊎ EndsBy (Refused (Remove n)) (e ∷ log2)
  removal_part e log2 end same n part = ⊎_elim (λ is. own e end is) (λ other. another other) (same_or_other n name)
    where
      own : (x : Event) → IsRemoval name x → n ≡ name → IsLeft old (x ∷ log2) n ⊎ EndsBy (Refused (Remove n)) (x ∷ log2)
      own _ removed is = inl (inr (at_same n name Nothing (entry log2 n) is))
      own _ stays is = inr (log2, ap (λ (m : ℕ). Refused (Remove m) ∷ log2) (sym is))

      another : n ≢ name → IsLeft old (e ∷ log2) n ⊎ EndsBy (Refused (Remove n)) (e ∷ log2)
      another other =
          inl (left_same names old n log (e ∷ log2) ((beside_removal name e log2 end).seen n other ∙ same n)
          (begun.others n part other))

-- ---- the part gets the name

module _ (names : Names) (name : ℕ) (known : Option (List ℕ)) (old mid : List Event) (distinct : IsNoPart names
    names.out)
    (begun : IsBegun names name old mid) where
  abbrev pub Image : Option (List ℕ) → Type 0
  Image t = t ≡ known

  out_other : names.out ≢ name
  out_other = no_part_other names old names.out name distinct begun.is_part

  abbrev after_sync : List Event
  after_sync = Did (Sync known) ∷ mid

  abbrev after_close : List Event
  after_close = Did Close ∷ after_sync

  abbrev after_rename : List Event
  after_rename = renamed_run names name known mid

  apart_sync : IsApart names old after_sync
  apart_sync = apart_step names old name mid after_sync begun.is_part (beside_sync name known mid) (λ k less. refl)
      (same_number (made mid) (made mid) refl) begun.apart

  apart_no_sync : IsApart names old (Refused (Sync known) ∷ mid)
  apart_no_sync = apart_step names old name mid (Refused (Sync known) ∷ mid) begun.is_part
      (beside_no_sync name known mid)
      (λ k less. refl) (same_number (made mid) (made mid) refl) begun.apart

  earlier : (k : ℕ) → k < made old → suc k ≢ made mid
  earlier k less same = before k begun.number less begun.since (same ∙ begun.last)
    where
      before : (k number : ℕ) → k < made old → made old ≤ number → suc k ≡ suc number → ⊥
      before k number a b c = omega arith

  apart_close : IsApart names old after_close
  apart_close = apart_step names old name after_sync after_close begun.is_part (beside_close name after_sync)
      (λ k less. at_other (suc k) (made mid) (Whole known) (content mid k) (earlier k less))
      (same_number (made mid) (made mid) refl) apart_sync

  apart_no_close : IsApart names old (Refused Close ∷ after_sync)
  apart_no_close = apart_step names old name after_sync (Refused Close ∷ after_sync) begun.is_part
      (beside_no_close name after_sync) (λ k less. refl) (same_number (made mid) (made mid) refl) apart_sync

  -- the part is whole from then on
  whole : content after_close begun.number ≡ Whole known
  whole = at_same (suc begun.number) (made mid) (Whole known) (content mid begun.number) (sym begun.last)

  is_new : (log : List Event) (p : Place) → content log begun.number ≡ content after_close begun.number
      → p ≡ Made begun.number → IsNew Image old log p
  is_new log p same is = (begun.number, begun.since, is, subst (HoldsImage Image) (sym (same ∙ whole)) refl)

  out_made : entry after_rename names.out ≡ Made begun.number
  out_made = at_name names.out (entry after_close name) (cond (nat_eq names.out name) Nothing (entry after_close
      names.out))
      ∙ begun.leads

  others_kept : (n : ℕ) → n ≢ names.out → n ≢ name → entry after_rename n ≡ entry mid n
  others_kept n other other2 =
      at_other n names.out (entry after_close name) (cond (nat_eq n name) Nothing (entry after_close n)) other
      ∙ at_other n name Nothing (entry after_close n) other2

  renamed : IsOldOrNew names Image old after_rename
  renamed = record {
    seen = inr (is_new after_rename (entry after_rename names.out) refl out_made);
    crashed = λ p may. ⊎_elim
        (λ is. inr (is_new after_rename p refl (is ∙ out_made)))
        (λ was. inl (apart_close.crashed names.out p distinct was))
        may;
    others_seen = λ n other free.
        others_kept n other (no_part_other names old n name free begun.is_part) ∙ begun.apart.seen n free;
    others_crashed = λ n p other free may. ⊎_elim
        (λ is. subst (MayLead old n)
        (sym (is ∙ others_kept n other (no_part_other names old n name free begun.is_part) ∙ begun.apart.seen n free))
        (seen_may old n))
        (λ was. apart_close.crashed n p free was)
        may;
    files = apart_close.files;
  }

  abbrev no_rename : List Event
  no_rename = Refused (Rename name names.out) ∷ after_close

  -- a rename that was refused, and that a crash may show all the same
  not_yet : IsOldOrNew names Image old no_rename
  not_yet = record {
    seen = inl (begun.apart.seen names.out distinct);
    crashed = λ p may. ⊎_elim
        (λ is. inr (is_new no_rename p refl (is ∙ out_made)))
        (λ was. inl (apart_close.crashed names.out p distinct was))
        may;
    others_seen = λ n other free. begun.apart.seen n free;
    others_crashed = λ n p other free may. ⊎_elim
        (λ is. subst (MayLead old n)
        (sym (is ∙ others_kept n other (no_part_other names old n name free begun.is_part) ∙ begun.apart.seen n free))
        (seen_may old n))
        (λ was. apart_close.crashed n p free was)
        may;
    files = apart_close.files;
  }

  -- a call that touches at most the part's name, from then on
  step : (log next : List Event) → IsBeside name log next → ((k : ℕ) → content next k ≡ content log k)
      → IsOldOrNew names Image old log → IsOldOrNew names Image old next
  step log next beside contents so_far = record {
    seen = ⊎_elim
        (λ same. inl (beside.seen names.out out_other ∙ same))
        (λ new. inr (still (entry next names.out) (entry log names.out) (beside.seen names.out out_other) new))
        so_far.seen;
    crashed = λ p may. ⊎_elim
        (λ is. ⊎_elim
        (λ same. inl (subst (MayLead old names.out) (sym (is ∙ same)) (seen_may old names.out)))
        (λ new. inr (still p (entry log names.out) is new))
        so_far.seen)
        (λ was. ⊎_elim (λ before. inl before) (λ new. inr (still p p refl new)) (so_far.crashed p was))
        (beside.crashed names.out p out_other may);
    others_seen = λ n other free.
        beside.seen n (no_part_other names old n name free begun.is_part) ∙ so_far.others_seen n other free;
    others_crashed = λ n p other free may. ⊎_elim
        (λ is. subst (MayLead old n) (sym (is ∙ so_far.others_seen n other free)) (seen_may old n))
        (λ was. so_far.others_crashed n p other free was)
        (beside.crashed n p (no_part_other names old n name free begun.is_part) may);
    files = λ k less. contents k ∙ so_far.files k less;
  }
    where
      still : (p q : Place) → p ≡ q → IsNew Image old log q → IsNew Image old next p
      still p q same (k, since, is, holds) = (k, since, same ∙ is, subst (HoldsImage Image) (sym (contents k)) holds)

  beside_last : (d : Durability) (log : List Event) → IsBeside name log (last_event d ∷ log)
  beside_last Durable log = beside_directory name log
  beside_last Unknown log = beside_skipped name log

  content_last : (d : Durability) (log : List Event) (k : ℕ) → content (last_event d ∷ log) k ≡ content log k
  content_last Durable log k = refl
  content_last Unknown log k = refl

  entry_last : (d : Durability) (log : List Event) (n : ℕ) → entry (last_event d ∷ log) n ≡ entry log n
  entry_last Durable log n = refl
  entry_last Unknown log n = refl

  -- ---- the run that ends well

  pub throughout_done : (d : Durability) (new : List Event) → IsDone names name known d mid new
      → Throughout (IsOldOrNew names Image old) mid new
  throughout_done d new is =
      subst (Throughout (IsOldOrNew names Image old) mid) (sym is) (
        last_event d ∷ Did (Rename name names.out) ∷ Did Close ∷ Did (Sync known) ∷ [],
        refl,
        (
          step after_rename (last_event d ∷ after_rename) (beside_last d after_rename) (content_last d after_rename)
              renamed,
          (
            renamed,
            (
              from_apart names old Image after_close distinct apart_close,
              (
                from_apart names old Image after_sync distinct apart_sync,
                from_apart names old Image mid distinct
                    begun.apart,
              ),
            ),
          ),
        ),
      )

  part_gone : (n : ℕ) → IsPart names n → IsLeft old after_rename n
  part_gone n part = ⊎_elim
      (λ is. inr (at_other n names.out (entry after_close name) (cond (nat_eq n name) Nothing (entry after_close n))
      no_out
      ∙ at_same n name Nothing (entry after_close n) is))
      (λ other. left_same names old n mid after_rename (others_kept n no_out other) (begun.others n part other))
      (same_or_other n name)
    where
      no_out : n ≢ names.out
      no_out same = distinct (subst (IsPart names) same part)

  pub replaced : (d : Durability) (new : List Event) → IsDone names name known d mid new
      → IsReplaced names Image old new
  replaced d new is =
      subst (IsReplaced names Image old) (sym is) (record {
        seen = is_new (last_event d ∷ after_rename) (entry (last_event d ∷ after_rename) names.out)
            (content_last d after_rename begun.number) (entry_last d after_rename names.out ∙ out_made);
        no_part = λ n part.
            left_same names old n after_rename (last_event d ∷ after_rename) (entry_last d after_rename n) (part_gone
            n part);
      })

  -- ---- the runs that end with an error

  after_removal : (e : Event) (log : List Event) → IsRemoval name e → IsApart names old log
      → IsApart names old (e ∷ log)
  after_removal e log end apart = apart_step names old name log (e ∷ log) begun.is_part (beside_removal name e log end)
      (λ k less. removal_content name e log k end) (same_number (made log) (made (e ∷ log)) (sym (removal_made name e
      log end)))
      apart

  pub throughout_unkept : (new : List Event) → IsUnkept names name known mid new
      → Throughout (IsOldOrNew names Image old) mid new
  throughout_unkept _ (not_synced e end) = (
    e ∷ Refused (Sync known) ∷ [],
    refl,
    (
      from_apart names old Image _ distinct (after_removal e (Refused (Sync known) ∷ mid) end apart_no_sync),
      (from_apart names old Image _ distinct apart_no_sync, from_apart names old Image _ distinct begun.apart),
    ),
  )
  throughout_unkept _ (not_closed e end) = (
    e ∷ Refused Close ∷ Did (Sync known) ∷ [],
    refl,
    (
      from_apart names old Image _ distinct (after_removal e (Refused Close ∷ after_sync) end apart_no_close),
      (
        from_apart names old Image _ distinct apart_no_close,
        (from_apart names old Image _ distinct apart_sync, from_apart names old Image _ distinct begun.apart),
      ),
    ),
  )
  throughout_unkept _ (not_renamed e end) = (
    e ∷ Refused (Rename name names.out) ∷ Did Close ∷ Did (Sync known) ∷ [],
    refl,
    (
      step no_rename (e ∷ no_rename) (beside_removal name e no_rename end) (λ k. removal_content name e no_rename k
          end) not_yet,
      (
        not_yet,
        (
          from_apart names old Image _ distinct apart_close,
          (from_apart names old Image _ distinct apart_sync, from_apart names old Image _ distinct begun.apart),
        ),
      ),
    ),
  )
  throughout_unkept _ not_durable = (
    Refused SyncDirectory ∷ Did (Rename name names.out) ∷ Did Close ∷ Did (Sync known) ∷ [],
    refl,
    (
      step after_rename (Refused SyncDirectory ∷ after_rename) (beside_no_directory name after_rename) (λ k. refl)
          renamed,
      (
        renamed,
        (
          from_apart names old Image _ distinct apart_close,
          (from_apart names old Image _ distinct apart_sync, from_apart names old Image _ distinct begun.apart),
        ),
      ),
    ),
  )

  pub kept : (new : List Event) → IsUnkept names name known mid new → IsKept names Image old new
  kept _ (not_synced e end) = record {
    seen = inl ((after_removal e (Refused (Sync known) ∷ mid) end apart_no_sync).seen names.out distinct);
    no_part = removal_part names name old mid begun e (Refused (Sync known) ∷ mid) end (λ n. refl);
  }
  kept _ (not_closed e end) = record {
    seen = inl ((after_removal e (Refused Close ∷ after_sync) end apart_no_close).seen names.out distinct);
    no_part = removal_part names name old mid begun e (Refused Close ∷ after_sync) end (λ n. refl);
  }
  kept _ (not_renamed e end) = record {
    seen = inl ((beside_removal name e no_rename end).seen names.out out_other ∙ begun.apart.seen names.out distinct);
    no_part = removal_part names name old mid begun e no_rename end (λ n. refl);
  }
  kept _ not_durable = record {
    seen = inr (
      is_new (Refused SyncDirectory ∷ after_rename) (entry (Refused SyncDirectory ∷ after_rename) names.out) refl
          out_made,
      (after_rename, refl),
    );
    no_part = λ n part. inl (part_gone n part);
  }

pub durable : (names : Names) (name : ℕ) (known : Option (List ℕ)) (d : Durability) (mid new : List Event)
    → IsDone names name known d mid new → IsDurable d new
durable names name known Durable mid new is =
    subst (IsDurable Durable) (sym is) (λ n p may. may)
durable names name known Unknown mid new is = (renamed_run names name known mid, is)
