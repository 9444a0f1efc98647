-- The rights of directories.
use Rattle.std.proofs.Common.{◌≡◌, ◌≢◌, inl, inr, ⊎_elim, ◌<◌, ◌+◌, ℕ, cond}
use Rattle.std.proofs.Common.{List, [], ◌∷◌, Option, length, refl, sym, ap, subst, arith}
use Rattle.std.proofs.lemmas.Bool.{cases_eq}
use Rattle.tree_extract.specs.Members.{Member, AreMembers, kind_at, path_at, rights_at}
use Rattle.tree_extract.specs.Log.{SetRights, Event, Did}
use Rattle.tree_extract.specs.Safe.{IsSafe}
use Rattle.tree_extract.specs.Extracted.{IsMadeAs, HasNoRights, AreRightsLast, IsExtracted}
use Rattle.tree_extract.specs.Passes.{IsAt, IsSet, rank}
use Rattle.tree_extract.specs.declared.tree.Kind.{Kind}
use Rattle.tree_extract.specs.declared.tree.Kind.TheVariants as kind
use Rattle.tree_extract.proofs.Inside.{inside}
use Rattle.tree_extract.proofs.Steps.{did_run, made_more}

none_last : (log : List Event) → HasNoRights log → AreRightsLast log
none_last [] is = tt
none_last (e ∷ log) is =
    subst (λ b. cond b (AreRightsLast log) (HasNoRights log)) (sym is.0) is.1

all_made : (known : Option (List ℕ)) (ms : List Member) (j : ℕ) (log : List Event) (k : Kind)
    → (rank k < 3 → IsMadeAs known ms j log k) → IsMadeAs known ms j log k
all_made known ms j log kind.Directory made = made (omega arith)
all_made known ms j log kind.File made = made (omega arith)
all_made known ms j log (kind.Further first) made = made (omega arith)
all_made known ms j log kind.Symlink made = made (omega arith)
all_made known ms j log kind.Nothing made = tt

pub begin : (known : Option (List ℕ)) (ms : List Member) (log : List Event) → IsAt known ms 3 0 log
    → IsSet known ms (length ms) log
begin known ms log place = record {
  run = place.run;
  made = λ j lj. all_made known ms j log (kind_at ms j) (λ less. place.done j lj (inl less));
  set = λ j from lj is. absurd (omega (arith, from, lj));
  last = none_last log place.no_rights;
}

pub set_skip : (known : Option (List ℕ)) (ms : List Member) (k : ℕ) (log : List Event) → IsSet known ms (k + 1) log
    → kind_at ms k ≢ kind.Directory → IsSet known ms k log
set_skip known ms k log place other = record {
  run = place.run;
  made = place.made;
  set = λ j from lj is. ⊎_elim (λ same. absurd (other (subst (λ i. kind_at ms i ≡ kind.Directory) same is)))
      (λ differs. place.set j (omega (arith, from, differs)) lj is) (cases_eq j k);
  last = place.last;
}

pub rights_safe : (known : Option (List ℕ)) (ms : List Member) (k : ℕ) (log : List Event) → AreMembers ms
    → IsSet known ms (k + 1) log → k < length ms → kind_at ms k ≡ kind.Directory
    → IsSafe log (SetRights (path_at ms k) (rights_at ms k))
rights_safe known ms k log members place lt is = (
  inside known ms log k members place.run lt (λ nothing. absurd (cc)),
  subst (IsMadeAs known ms k log) is (place.made k lt),
)

pub set_step : (known : Option (List ℕ)) (ms : List Member) (k : ℕ) (log : List Event) → AreMembers ms
    → IsSet known ms (k + 1) log → k < length ms → kind_at ms k ≡ kind.Directory
    → IsSet known ms k (Did (SetRights (path_at ms k) (rights_at ms k)) ∷ log)
set_step known ms k log members place lt is = record {
  run = did_run known ms log k (SetRights (path_at ms k) (rights_at ms k)) place.run
      (rights_safe known ms k log members place lt is) lt (refl, is, refl);
  made = λ j lj. made_more known ms j log _ (place.made j lj);
  set = λ j from lj is2. ⊎_elim (λ same. inl (ap (λ i. Did (SetRights (path_at ms i) (rights_at ms i))) same))
      (λ differs. inr (place.set j (omega (arith, from, differs)) lj is2)) (cases_eq j k);
  last = place.last;
}

pub extracted : (known : Option (List ℕ)) (ms : List Member) (log : List Event) → IsSet known ms 0 log
    → IsExtracted known ms log
extracted known ms log place = record {
  made = place.made;
  rights = λ j lj is. place.set j (omega arith) lj is;
  last = place.last;
}
