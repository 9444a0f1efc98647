-- The calls that make a member, for the members `ds` that the directory knows. They are those of the tree.
use Rattle.std.proofs.Common.{◌≡◌, ◌≢◌, inl, inr, ◌<◌, ◌+◌, ℕ, Bool, true, false, nat_eq}
use Rattle.std.proofs.Common.{List, ◌∷◌, Option, Result, Ok, Err, OnOk, length, refl, sym, ap, subst, ◌∙◌}
use Rattle.std.proofs.lemmas.Bool.{eqb-true, eq-eqb}
use Rattle.std.specs.Io.KnownBytes.{Appends}
use Rattle.tree_extract.specs.Members.{Member, AreMembers, kind_at, path_at, bytes_at, rights_at}
use Rattle.tree_extract.specs.Members.{owner_at}
use Rattle.tree_extract.specs.Log.{Call, MakeDirectory, MakeFile, FinishFile, MakeName}
use Rattle.tree_extract.specs.Log.{MakeSymlink, SetRights, Event, Did, Refused, Logs, LogsName}
use Rattle.tree_extract.specs.Safe.{IsNew, IsSafe, IsFree}
use Rattle.tree_extract.specs.Extracted.{Makes, IsMade, IsMadeAs, is_file, sets_rights}
use Rattle.tree_extract.specs.Passes.{IsRun, IsAt, IsSet, IsFileMade, IsNameMade, rank}
use Rattle.tree_extract.specs.declared.tree.Kind.{Kind}
use Rattle.tree_extract.specs.declared.tree.Kind.TheVariants as kind
use Rattle.tree_extract.proofs.Inside.{inside, free}
use Rattle.tree_extract.proofs.Steps.{logs_run, name_run, IsMore, more_none, more_did, more_refused}
use Rattle.tree_extract.proofs.Steps.{fresh_here, step}
use Rattle.tree_extract.proofs.DirectoryRights.{rights_safe, set_step}

-- the tree returned a kind of this pass
pub kind_rank : (ms : List Member) (k f : ℕ) (r : Kind) → r ≡ kind_at ms k → true ≡ nat_eq (rank r) f
    → rank (kind_at ms k) ≡ f
kind_rank ms k f r is fits = subst (λ x. rank x ≡ f) is (eqb-true (rank r) f (sym fits))

-- the tree returned a kind of another pass
pub other_rank : (ms : List Member) (k f : ℕ) (r : Kind) → r ≡ kind_at ms k → false ≡ nat_eq (rank r) f
    → rank (kind_at ms k) ≢ f
other_rank ms k f r is differs = λ same. never (differs ∙ eq-eqb (rank r) f (subst (λ x. rank x ≡ f) (sym is) same))
  where
    never : false ≡ true → ⊥
    never h = cc

rank_none : (k : Kind) → rank k ≡ 0 → k ≡ kind.Directory
rank_none kind.Directory is = refl
rank_none kind.File is = absurd (cc)
rank_none (kind.Further first) is = absurd (cc)
rank_none kind.Symlink is = absurd (cc)
rank_none kind.Nothing is = absurd (cc)

-- the tree returned a directory
pub is_directory : (ms : List Member) (k : ℕ) (r : Kind) → r ≡ kind_at ms k → true ≡ nat_eq (rank r) 0
    → kind_at ms k ≡ kind.Directory
is_directory ms k r is fits = rank_none (kind_at ms k) (kind_rank ms k 0 r is fits)

pub some_file : (k : Kind) → is_file k ≡ true → k ≢ kind.Nothing
some_file kind.Directory file = λ nothing. absurd (cc)
some_file kind.File file = λ nothing. absurd (cc)
some_file (kind.Further first) file = λ nothing. absurd (cc)
some_file kind.Symlink file = λ nothing. absurd (cc)
some_file kind.Nothing file = absurd (cc)

module _ (known : Option (List ℕ)) (ms ds : List Member) (same : ds ≡ ms) (members : AreMembers ms) (i : ℕ)
    (lt : i < length ms) where
  -- a call for the member is safe, by the paths that the directory knows
  pub free_there : (log : List Event) → IsRun known ms log → kind_at ms i ≢ kind.Nothing → IsNew log (path_at ms i)
      → IsFree log (path_at ds i)
  free_there log run some fresh =
      subst (λ (l : List Member). IsFree log (path_at l i)) (sym same) (free known ms log i members run lt some fresh)

  -- ---- a file

  pub file_refused : {A E : Type 0} (r : Result A E) (old new : List Event) → IsRun known ms old
      → is_file (kind_at ms i) ≡ true → IsNew old (path_at ms i) → Logs (MakeFile (path_at ds i)) r old new
      → IsRun known ms new
  file_refused r old new run file fresh logs =
      logs_run known ms r old new i (MakeFile (path_at ms i)) run
      (free known ms old i members run lt (some_file (kind_at ms i) file) fresh) lt (refl, file)
      (subst (λ (l : List Member). Logs (MakeFile (path_at l i)) r old new) same logs)

  pub file_finished : {A E : Type 0} (r : Result A E) (contents : Option (List ℕ)) (old mid new : List Event)
      → IsRun known ms mid → is_file (kind_at ms i) ≡ true → mid ≡ Did (MakeFile (path_at ms i)) ∷ old
      → Appends known contents (bytes_at ms i) → Logs (FinishFile (path_at ds i) contents (rights_at ds i)) r mid new
      → IsRun known ms new
  file_finished r contents old mid new run file made appends logs =
      logs_run known ms r mid new i (FinishFile (path_at ms i) contents (rights_at ms i)) run (old, made) lt
      (refl, file, refl, appends)
      (subst (λ (l : List Member). Logs (FinishFile (path_at l i) contents (rights_at l i)) r mid new) same logs)

  -- ---- a further name

  pub name_safe : (first : ℕ) (log : List Event) → IsRun known ms log → kind_at ms i ≡ kind.Further first
      → IsNew log (path_at ms i) → IsSafe log (MakeName (path_at ms i) (path_at ms first))
  name_safe first log run is fresh =
      let other = members.further i first lt is in (
        free known ms log i members run lt (λ nothing. absurd (cc)) fresh,
        inside known ms log first members run other.0 (λ nothing. absurd (cc)),
      )

  pub name_safe_there : (first : ℕ) (log : List Event) → IsRun known ms log → kind_at ms i ≡ kind.Further first
      → IsNew log (path_at ms i) → IsSafe log (MakeName (path_at ds i) (path_at ds first))
  name_safe_there first log run is fresh =
      subst (λ (l : List Member). IsSafe log (MakeName (path_at l i) (path_at l first))) (sym same)
      (name_safe first log run is fresh)

  pub name_asked : {E : Type 0} (first : ℕ) (r : Result Bool E) (old new : List Event) → IsRun known ms old
      → kind_at ms i ≡ kind.Further first → IsNew old (path_at ms i)
      → LogsName (MakeName (path_at ds i) (path_at ds first)) r old new → IsRun known ms new
  name_asked first r old new run is fresh logs =
      name_run known ms r old new i (MakeName (path_at ms i) (path_at ms first)) run
      (name_safe first old run is fresh) lt (refl, first, is, refl)
      (subst (λ (l : List Member). LogsName (MakeName (path_at l i) (path_at l first)) r old new) same logs)

  -- ---- what a member's call leaves

  made_by : (f : ℕ) (c : Call) (old : List Event) → IsAt known ms f i old → rank (kind_at ms i) ≡ f → IsSafe old c
      → Makes known ms i c → sets_rights c ≡ false → IsMade known ms i (Did c ∷ old)
      → IsAt known ms f (i + 1) (Did c ∷ old)
  made_by f c old place is safe makes no_rights made =
      step known ms f i old _ place lt is
      (more_did known ms i old old c members lt (more_none known ms i old place.run) safe makes no_rights) made

  pub directory_made : {A E : Type 0} (r : Result A E) (f : ℕ) (old new : List Event) → IsAt known ms f i old
      → rank (kind_at ms i) ≡ f → kind_at ms i ≡ kind.Directory → Logs (MakeDirectory (path_at ds i)) r old new
      → OnOk r (IsAt known ms f (i + 1) new)
  directory_made (Ok v) f old new place is is_kind logs =
      let c : Call = MakeDirectory (path_at ms i) in
      let safe = free known ms old i members place.run lt (λ nothing. absurd (cc))
      (fresh_here known ms f i old place lt is) in
      let made : IsMade known ms i (Did c ∷ old) =
      subst (IsMadeAs known ms i (Did c ∷ old)) (sym is_kind) (inl refl) in
      subst (IsAt known ms f (i + 1))
      (sym (subst (λ (l : List Member). new ≡ Did (MakeDirectory (path_at l i)) ∷ old) same logs))
      (made_by f c old place is safe (refl, is_kind) refl made)
  directory_made (Err e) f old new place is is_kind logs = tt

  pub directory_asked : {A E : Type 0} (r : Result A E) (f : ℕ) (old new : List Event) → IsAt known ms f i old
      → rank (kind_at ms i) ≡ f → kind_at ms i ≡ kind.Directory → Logs (MakeDirectory (path_at ds i)) r old new
      → IsRun known ms new
  directory_asked r f old new place is is_kind logs =
      logs_run known ms r old new i (MakeDirectory (path_at ms i)) place.run
      (free known ms old i members place.run lt (λ nothing. absurd (cc)) (fresh_here known ms f i old place lt is)) lt
      (refl, is_kind) (subst (λ (l : List Member). Logs (MakeDirectory (path_at l i)) r old new) same logs)

  pub link_made : {A E : Type 0} (r : Result A E) (f : ℕ) (text : List ℕ) (old new : List Event)
      → IsAt known ms f i old → rank (kind_at ms i) ≡ f → kind_at ms i ≡ kind.Symlink → text ≡ bytes_at ms i
      → Logs (MakeSymlink (path_at ds i) text (owner_at ds i)) r old new → OnOk r (IsAt known ms f (i + 1) new)
  link_made (Ok v) f text old new place is is_kind is_text logs =
      let c : Call = MakeSymlink (path_at ms i) text (owner_at ms i) in
      let safe = free known ms old i members place.run lt (λ nothing. absurd (cc))
      (fresh_here known ms f i old place lt is) in
      let made : IsMade known ms i (Did c ∷ old) =
      subst (IsMadeAs known ms i (Did c ∷ old)) (sym is_kind)
      (inl (ap (λ (t : List ℕ). Did (MakeSymlink (path_at ms i) t (owner_at ms i))) (sym is_text))) in
      subst (IsAt known ms f (i + 1))
      (sym (subst (λ (l : List Member). new ≡ Did (MakeSymlink (path_at l i) text (owner_at l i)) ∷ old) same logs))
      (made_by f c old place is safe (refl, is_kind, is_text, refl) refl made)
  link_made (Err e) f text old new place is is_kind is_text logs = tt

  pub link_asked : {A E : Type 0} (r : Result A E) (f : ℕ) (text : List ℕ) (old new : List Event)
      → IsAt known ms f i old → rank (kind_at ms i) ≡ f → kind_at ms i ≡ kind.Symlink → text ≡ bytes_at ms i
      → Logs (MakeSymlink (path_at ds i) text (owner_at ds i)) r old new → IsRun known ms new
  link_asked r f text old new place is is_kind is_text logs =
      logs_run known ms r old new i (MakeSymlink (path_at ms i) text (owner_at ms i)) place.run
      (free known ms old i members place.run lt (λ nothing. absurd (cc)) (fresh_here known ms f i old place lt is)) lt
      (refl, is_kind, is_text, refl)
      (subst (λ (l : List Member). Logs (MakeSymlink (path_at l i) text (owner_at l i)) r old new) same logs)

  -- a file was made, on top of what was logged for the member before
  file_at : (f : ℕ) (old mid new : List Event) → IsAt known ms f i old → rank (kind_at ms i) ≡ f
      → is_file (kind_at ms i) ≡ true → IsMore known ms i old mid → IsNew mid (path_at ms i)
      → ((contents : Option (List ℕ)) → Appends known contents (bytes_at ms i)
      → IsMade known ms i
      (Did (FinishFile (path_at ms i) contents (rights_at ms i)) ∷ Did (MakeFile (path_at ms i)) ∷ mid))
      → IsFileMade known ms i mid new → IsAt known ms f (i + 1) new
  file_at f old mid new place is file more fresh made it =
      let c : Call = MakeFile (path_at ms i) in
      let d : Call = FinishFile (path_at ms i) it.0 (rights_at ms i) in
      let begun = more_did known ms i old mid c members lt more
      (free known ms mid i members more.run lt (some_file (kind_at ms i) file) fresh) (refl, file) refl in
      let ended = more_did known ms i old (Did c ∷ mid) d members lt begun (mid, refl)
      (refl, file, refl, it.1) refl in
      subst (IsAt known ms f (i + 1)) (sym it.2)
      (step known ms f i old (Did d ∷ Did c ∷ mid) place lt is ended (made it.0 it.1))

  pub file_passed : {A E : Type 0} (r : Result A E) (f : ℕ) (old new : List Event) → IsAt known ms f i old
      → rank (kind_at ms i) ≡ f → kind_at ms i ≡ kind.File → OnOk r (IsFileMade known ms i old new)
      → OnOk r (IsAt known ms f (i + 1) new)
  file_passed (Ok v) f old new place is is_kind it =
      file_at f old old new place is (ap is_file is_kind) (more_none known ms i old place.run)
      (fresh_here known ms f i old place lt is)
      (λ contents appends. subst
      (IsMadeAs known ms i
      (Did (FinishFile (path_at ms i) contents (rights_at ms i)) ∷ Did (MakeFile (path_at ms i)) ∷ old))
      (sym is_kind) (contents, appends, inl refl)) it
  file_passed (Err e) f old new place is is_kind it = tt

  name_at : (f first : ℕ) (old new : List Event) → IsAt known ms f i old → rank (kind_at ms i) ≡ f
      → kind_at ms i ≡ kind.Further first → IsNameMade known ms i first old new → IsAt known ms f (i + 1) new
  name_at f first old new place is is_kind (inl did) =
      let c : Call = MakeName (path_at ms i) (path_at ms first) in
      let safe = name_safe first old place.run is_kind (fresh_here known ms f i old place lt is) in
      let made : IsMade known ms i (Did c ∷ old) =
      subst (IsMadeAs known ms i (Did c ∷ old)) (sym is_kind) (inl (inl refl)) in
      subst (IsAt known ms f (i + 1)) (sym did)
      (made_by f c old place is safe (refl, first, is_kind, refl) refl made)
  name_at f first old new place is is_kind (inr it) =
      let c : Call = MakeName (path_at ms i) (path_at ms first) in
      let fresh = fresh_here known ms f i old place lt is in
      file_at f old (Refused c ∷ old) new place is (ap is_file is_kind)
      (more_refused known ms i old old c lt (more_none known ms i old place.run)
      (name_safe first old place.run is_kind fresh) (refl, first, is_kind, refl) refl)
      fresh (λ contents appends. subst (IsMadeAs known ms i
      (Did (FinishFile (path_at ms i) contents (rights_at ms i)) ∷ Did (MakeFile (path_at ms i)) ∷ Refused c ∷ old))
      (sym is_kind) (inr (contents, appends, inl (refl, inr (inl refl))))) it

  pub name_passed : {A E : Type 0} (r : Result A E) (f first : ℕ) (old new : List Event) → IsAt known ms f i old
      → rank (kind_at ms i) ≡ f → kind_at ms i ≡ kind.Further first → OnOk r (IsNameMade known ms i first old new)
      → OnOk r (IsAt known ms f (i + 1) new)
  name_passed (Ok v) f first old new place is is_kind it = name_at f first old new place is is_kind it
  name_passed (Err e) f first old new place is is_kind it = tt

  -- ---- rights

  pub rights_safe_there : (log : List Event) → IsSet known ms (i + 1) log → kind_at ms i ≡ kind.Directory
      → IsSafe log (SetRights (path_at ds i) (rights_at ds i))
  rights_safe_there log place is_kind =
      subst (λ (l : List Member). IsSafe log (SetRights (path_at l i) (rights_at l i))) (sym same)
      (rights_safe known ms i log members place lt is_kind)

  pub rights_asked : {A E : Type 0} (r : Result A E) (old new : List Event) → IsSet known ms (i + 1) old
      → kind_at ms i ≡ kind.Directory → Logs (SetRights (path_at ds i) (rights_at ds i)) r old new → IsRun known ms new
  rights_asked r old new place is_kind logs =
      logs_run known ms r old new i (SetRights (path_at ms i) (rights_at ms i)) place.run
      (rights_safe known ms i old members place lt is_kind) lt (refl, is_kind, refl)
      (subst (λ (l : List Member). Logs (SetRights (path_at l i) (rights_at l i)) r old new) same logs)

  pub rights_set : {A E : Type 0} (r : Result A E) (old new : List Event) → IsSet known ms (i + 1) old
      → kind_at ms i ≡ kind.Directory → Logs (SetRights (path_at ds i) (rights_at ds i)) r old new
      → OnOk r (IsSet known ms i new)
  rights_set (Ok v) old new place is_kind logs =
      subst (IsSet known ms i)
      (sym (subst (λ (l : List Member). new ≡ Did (SetRights (path_at l i) (rights_at l i)) ∷ old) same logs))
      (set_step known ms i old members place lt is_kind)
  rights_set (Err e) old new place is_kind logs = tt
