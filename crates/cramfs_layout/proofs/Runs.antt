-- If files have their own tables, no two tables are at one offset.
use Rattle.std.proofs.Common.{◌≡◌, ◌≢◌, ℕ, ◌<◌, ◌≤◌, List, [], ◌∷◌, ◌++◌, refl, sym, ap, subst, ◌∙◌, arith, inl, inr}
use Rattle.std.proofs.lemmas.Bool.Decides.{eqb_tells}
use Rattle.std.specs.List.{AllByRecursion as Every}
use Rattle.record_forest.specs.Members.{Has, Pairs}
use Rattle.record_forest.proofs.Lists.{every_join, every_left, every_right, every_weaker, has_every, pairs_join}
use Rattle.record_forest.proofs.Lists.{pairs_pick}
use Rattle.manifest_tree.specs.Names.{Inode, Names, nothing, leaf, link, subdirectory}
use Rattle.cramfs_layout.specs.Layout.{pad4, State, Kept, nowhere, shared, fresh, kept, data_of, after_by, after_file}
use Rattle.cramfs_layout.specs.Layout.{after_list, after_names}
use Rattle.cramfs_layout.specs.Wells.{IsFile, AreWell}
use Rattle.cramfs_layout.proofs.Stored.{data_after, file_onward, names_onward}
use Rattle.cramfs_layout.proofs.Tabled.{FileFresh, AllFresh}

-- a table, the offset of its bytes, and their number
pub record Run : Type 0 where
  pub table : ℕ
  pub start : ℕ
  pub len : ℕ

abbrev pub run : ℕ → ℕ → ℕ → Run
run t d n = record { table = t; start = d; len = n }

abbrev pub file_run : Kept → State → Inode → List Run
file_run nowhere s i = []
file_run (shared t) s i = []
file_run fresh s i = run (pad4 s.at) (data_of s.at i) i.size ∷ []

-- of all files that have their own
abbrev pub runs : State → Names → List Run
runs s nothing = []
runs s (leaf name i rest) = file_run (kept s.tables i) s i ++ runs (after_file s i) rest
runs s (link name i rest) = runs (after_file s i) rest
runs s (subdirectory name i own rest) = runs (after_list s own) own ++ runs (after_names (after_list s own) own) rest

-- one of these
abbrev pub IsRun : List Run → ℕ → ℕ → ℕ → Type 0
IsRun R t d n = Has (λ r. r ≡ run t d n) R

abbrev pub IsIn : List Run → Run → Type 0
IsIn R r = Has (λ z. z ≡ r) R

file_in : (R : List Run) (s : State) (i : Inode) (k : Kept) → Every (IsIn R) (file_run k s i)
    → FileFresh (IsRun R) s i k
file_in R s i nowhere h = tt
file_in R s i (shared t) h = tt
file_in R s i fresh h = λ n. h.0

pub runs_fresh : (cs : List (List ℕ)) (R : List Run) (s : State) (n : Names) → AreWell cs n → Every (IsIn R) (runs s n)
    → AllFresh (IsRun R) s n
runs_fresh cs R s nothing w h = tt
runs_fresh cs R s (leaf name i rest) w h =
    let k = kept s.tables i in
    let more = runs (after_file s i) rest in (
      file_in R s i k (every_left (IsIn R) (file_run k s i) more h),
      runs_fresh cs R (after_file s i) rest w.2 (every_right (IsIn R) (file_run k s i) more h),
    )
runs_fresh cs R s (link name i rest) w h = absurd w
runs_fresh cs R s (subdirectory name i own rest) w h =
    let s1 = after_list s own in
    let s2 = after_names s1 own in (
      runs_fresh cs R s1 own w.2 (every_left (IsIn R) (runs s1 own) (runs s2 rest) h),
      runs_fresh cs R s2 rest w.3 (every_right (IsIn R) (runs s1 own) (runs s2 rest) h),
    )

-- a table within a range
abbrev pub Between : ℕ → ℕ → Run → Type 0
Between low high r = (low ≤ r.table) × (r.table < high)

abbrev pub Differ : Run → Run → Type 0
Differ x y = x.table ≢ y.table

pub record AreRuns (low high : ℕ) (R : List Run) : Type 0 where
  pub inside : Every (Between low high) R
  pub apart : Pairs Differ R

wider : (low high low' high' : ℕ) (R : List Run) → low' ≤ low → high ≤ high' → Every (Between low high) R
    → Every (Between low' high') R
wider low high low' high' R l m h = every_weaker (Between low high) (Between low' high')
    (λ r k. let a = k.0 in let c = k.1 in (omega arith, omega arith)) R h

runs_join : (low mid high : ℕ) (xs ys : List Run) → low ≤ mid → mid ≤ high → AreRuns low mid xs → AreRuns mid high ys
    → AreRuns low high (xs ++ ys)
runs_join low mid high xs ys l m a c = record {
  inside = every_join (Between low high) xs ys (wider low mid low high xs (omega arith) m a.inside)
      (wider mid high low high ys l (omega arith) c.inside);
  apart = pairs_join Differ xs ys a.apart c.apart
      (every_weaker (Between low mid) (λ x. Every (Differ x) ys)
      (λ x k. every_weaker (Between mid high) (Differ x)
      (λ y j e. let u = k.1 in let v = j.0 in absurd (omega (arith, e, u, v))) ys c.inside) xs a.inside);
}

file_runs : (cs : List (List ℕ)) (s : State) (i : Inode) (k : Kept) → IsFile cs i → kept s.tables i ≡ k
    → AreRuns s.at (after_by k s i).at (file_run k s i)
unfolding kept
file_runs cs s i nowhere h e = record { inside = tt; apart = tt }
file_runs cs s i (shared t) h e = record { inside = tt; apart = tt }
file_runs cs s i fresh h e = elim (eqb_tells i.size 0) [
  | inl y ↦ let z : nowhere ≡ fresh = (rw y.0 at e) in absurd (cc)
  | inr y ↦
      let d = (data_after cs s.at i h).0 in
      let n = y.1 in
      record { inside = ((omega arith, omega (arith, d, n)), tt); apart = (tt, tt) }
]

pub are_runs : (cs : List (List ℕ)) (s : State) (n : Names) → AreWell cs n
    → AreRuns s.at (after_names s n).at (runs s n)
are_runs cs s nothing h = record { inside = tt; apart = tt }
are_runs cs s (leaf name i rest) h =
    let s' = after_file s i in
    runs_join s.at s'.at (after_names s' rest).at (file_run (kept s.tables i) s i) (runs s' rest)
    (file_onward cs s i h.1) (names_onward cs s' rest h.2) (file_runs cs s i (kept s.tables i) h.1 refl)
    (are_runs cs s' rest h.2)
are_runs cs s (link name i rest) h = absurd h
are_runs cs s (subdirectory name i own rest) h =
    let s1 = after_list s own in
    let s2 = after_names s1 own in
    let t = (after_names s2 rest).at in
    let low : s.at ≤ s1.at = omega arith in
    let mine = are_runs cs s1 own h.2 in
    let mid = names_onward cs s1 own h.2 in
    let both = runs_join s1.at s2.at t (runs s1 own) (runs s2 rest) mid (names_onward cs s2 rest h.3) mine
    (are_runs cs s2 rest h.3) in
    record {
      inside = wider s1.at t s.at t (runs s1 own ++ runs s2 rest) low (omega arith) both.inside;
      apart = both.apart;
    }

-- the tables are behind an offset
pub run_low : (low high : ℕ) (R : List Run) (t d n : ℕ) → AreRuns low high R → IsRun R t d n → low ≤ t
run_low low high R t d n a h =
    let k = has_every (Between low high) (λ (r : Run). r ≡ run t d n) R a.inside h in
    let l = k.1.0 in
    subst (λ (r : Run). low ≤ r.table) k.2 l

-- the table determines the rest
pub one_run : (low high : ℕ) (R : List Run) (t d n e m : ℕ) → AreRuns low high R → IsRun R t d n → IsRun R t e m
    → (d ≡ e) × (n ≡ m)
one_run low high R t d n e m a h k =
    elim (pairs_pick Differ (λ (r : Run). r ≡ run t d n) (λ (r : Run). r ≡ run t e m) R a.apart h k) [
      | inl s ↦ let z : run t d n ≡ run t e m =
          sym s.1 ∙ s.2 in (ap (λ (r : Run). r.start) z, ap (λ (r : Run). r.len) z)
      | inr s ↦ let x = ap (λ (r : Run). r.table) s.2 in let y =
          ap (λ (r : Run). r.table) s.3 in elim s.4 [ inl f ↦ absurd (f (x ∙ sym y)) | inr f ↦ absurd (f (y ∙ sym x)) ]
    ]
