-- `IfKnown`: the contents of sources have a property, if they are known. `ReadsAt`: the result of a
-- read. `Reads`, `FailedAt`: the counts of failed reads. `contents_in`: the contents of sources in
-- memory. (This project's own.)
use Rattle.std.specs.Prelude.{◌≡◌, ℕ, ◌<◌, ◌≤◌, List, [], take, drop, length, get_or, Option, Some}
use Rattle.std.specs.Prelude.{None, Result, Ok, Err, MatchResult, ⊤}
use Rattle.rom_fields.specs.Failures.{one_more, Rose}
use Rattle.image_stream.specs.declared.slices.Slices.{Slices}

-- the contents of a file
abbrev pub content_of : List (List ℕ) → ℕ → List ℕ
content_of cs file = get_or cs file []

-- P holds for the contents, if they are known
abbrev pub IfKnown : Option (List (List ℕ)) → (List (List ℕ) → Type 0) → Type 0
IfKnown known P = (cs : List (List ℕ)) → known ≡ Some cs → P cs

-- A read of n bytes at `at` returns the next n bytes of the file's contents. It returns none only
-- at their end, behind it, or if there is no room for any.
abbrev pub ReadsAt : {E : Type 0} → Option (List (List ℕ)) → ℕ → ℕ → Result ℕ E → List ℕ → Type 0
ReadsAt known file at r buf =
    MatchResult r (λ n. IfKnown known (λ cs. (take n buf ≡ take n (drop at (content_of cs file)))
    × (n ≡ 0 → 0 < length buf → length (content_of cs file) ≤ at))) (λ _. ⊤)

-- the number of failed reads, up to 2^64 - 1, and the file of the last one that failed
pub record Reads : Type 0 where
  pub failures : ℕ
  pub failed : Option ℕ

abbrev pub no_failures : Reads
no_failures = record { failures = 0; failed = None }

-- a read of the file failed if the result is `Err`
abbrev pub after_read_of : {A E : Type 0} → ℕ → Reads → Result A E → Reads
after_read_of file r (Ok n) = r
after_read_of file r (Err e) = record { failures = one_more r.failures; failed = Some file }

-- a read failed since, and the last one that failed was of the file
pub record FailedAt (file : ℕ) (old new : Reads) : Type 0 where
  pub rose : Rose old.failures new.failures
  pub last : new.failed ≡ Some file

-- the contents of sources in memory
abbrev pub contents_in : Slices → List (List ℕ)
contents_in s = s.contents.now
