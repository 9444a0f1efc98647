-- `Calls`: the calls on open files, over any kind S of state: what is open, and what is mounted.
-- `Answer`: a reply or a refusal, and the state after it. `Lent`, `Named`: the contents of replies.
-- `viewed`: a result of the code, read as a reply. (This project's own.)
use Rattle.std.specs.Prelude.{ℕ, List, Option, Result, Ok, Err}
use Rattle.rom_tree.specs.declared.types.Stat.{Stat}
use Rattle.open_files.specs.declared.error.CallError.{CallError}

-- a reply or a refusal, and the state after it
pub record Answer (S R : Type 0) : Type 0 where
  pub reply : Result R CallError
  pub state : S

abbrev pub answer : {S R : Type 0} → Result R CallError → S → Answer S R
answer r s = record { reply = r; state = s }

-- a refusal does not change the state
abbrev pub refuse : {S R : Type 0} → CallError → S → Answer S R
refuse e s = answer (Err e) s

abbrev pub give : {S R : Type 0} → R → S → Answer S R
give r s = answer (Ok r) s

-- a reply about a node, with the number of its image if several images are served
abbrev pub Of : Type 0 → Type 0
Of X = Option ℕ × X

-- bytes of an image, and the offset of the first
pub record Lent : Type 0 where
  pub place : ℕ
  pub bytes : List ℕ

-- an entry's name, and the number of its node
pub record Named : Type 0 where
  pub name : List ℕ
  pub node : ℕ

-- the calls: the answer of each to its arguments
pub record Calls (S : Type 0) : Type 0 where
  pub lookup : S → List ℕ → Answer S (Of ℕ)
  pub stat : S → List ℕ → Answer S (Of Stat)
  pub lstat : S → List ℕ → Answer S (Of Stat)
  pub readlink : S → List ℕ → Answer S (Of Lent)
  pub open_path : S → List ℕ → Answer S ℕ
  pub fstat : S → ℕ → Answer S (Of Stat)
  pub read_bytes : S → ℕ → ℕ → Answer S (List ℕ)
  pub lend_piece : S → ℕ → ℕ → Answer S (Of Lent)
  pub map_piece : S → ℕ → ℕ → ℕ → Answer S (Of Lent)
  pub seek_to : S → ℕ → ℕ → Answer S (Unit {0})
  pub readdir : S → ℕ → Answer S (Option (Of Named))
  pub rewind : S → ℕ → Answer S (Unit {0})
  pub close : S → ℕ → Answer S (Unit {0})
  pub close_all : S → Answer S (Unit {0})
  pub mount_at : S → ℕ → List ℕ → Answer S (Unit {0})
  pub unmount : S → ℕ → Answer S (Unit {0})

-- a result of the code, with its value read as a reply
abbrev pub viewed : {A R : Type 0} → (A → R) → Result A CallError → Result R CallError
viewed f (Ok a) = Ok (f a)
viewed f (Err e) = Err e
