-- `again_inner` and similar definitions: the stream behind a layer. `ahead_remaining`: the rest of
-- a reader, if nothing after its end is read. `held_back`: the bytes that a layer holds back.
-- `held_contents`: the bytes of the writer behind it, and then those held back. `first_error`,
-- `Remembers`: the first error, which each call keeps or notes. `ReadsFrom`: a buffer has the bytes
-- from a position on. (This project's own.)
use Rattle.std.specs.Prelude.{◌≡◌, ℕ, ◌<◌, ◌≤◌, if◌then◌else◌, List, [], length, take, drop, Option}
use Rattle.std.specs.Prelude.{None, Some, IfSome, IfOk, Result, MatchResult}
use Rattle.std.specs.Io.KnownBytes.{append_known}
use Rattle.std.specs.IoError.{error_kind}
use Rattle.std_io.specs.declared.io.error.Error.{Error}
use Rattle.program_streams.specs.declared.again.Again.{Again}
use Rattle.program_streams.specs.declared.ahead.Ahead.{Ahead}
use Rattle.program_streams.specs.declared.held.Held.{Held}
use Rattle.program_streams.specs.declared.remembering.Remembering.{Remembering}

-- the stream behind each
abbrev pub again_inner : {X : Type 0} → Again X → X
again_inner s = s.inner

abbrev pub ahead_inner : {X : Type 0} → Ahead X → X
ahead_inner s = s.inner

abbrev pub held_inner : {X : Type 0} → Held X → X
held_inner s = s.inner

abbrev pub remembering_inner : {X : Type 0} → Remembering X → X
remembering_inner s = s.inner

-- the rest of the reader behind it, if it is known and nothing after its end was read
abbrev pub ahead_remaining : {X : Type 0} → (X → Option (List ℕ)) → Ahead X → Option (List ℕ)
ahead_remaining remaining s = if s.has_ended then Some [] else remaining s.inner

-- the bytes that are held back
abbrev pub held_back : {X : Type 0} → Held X → List ℕ
held_back s = s.held.items

-- the bytes of the writer behind it, if they are known, and then those held back
abbrev pub held_contents : {X : Type 0} → (X → Option (List ℕ)) → Held X → Option (List ℕ)
held_contents contents s = append_known (contents s.inner) s.held.items

-- the first error of a writer, if it failed
abbrev pub first_error : {X : Type 0} → Remembering X → Option Error
first_error s = s.error

-- The first error stays. If there was none, the first error now has the kind of this one.
abbrev pub Notes : Option Error → Option Error → Error → Type 0
Notes (Some first) new e = new ≡ Some first
Notes None None e = ⊥
Notes None (Some first) e = error_kind first ≡ error_kind e

-- an error is noted; without an error nothing changes
abbrev pub Remembers : {T : Type 0} → Option Error → Option Error → Result T Error → Type 0
Remembers old new r = MatchResult r (λ _. new ≡ old) (λ e. Notes old new e)

-- For `Ok(n)`, the first n bytes of the buffer are the known bytes from `at` on. n is 0 only at
-- their end, or if the buffer has no room.
abbrev pub ReadsFrom : {E : Type 0} → Option (List ℕ) → ℕ → Result ℕ E → List ℕ → Type 0
ReadsFrom known at r buf = IfSome known (λ xs. IfOk r (λ n.
    (take n buf ≡ take n (drop at xs)) × (n ≡ 0 → 0 < length buf → length xs ≤ at)))
