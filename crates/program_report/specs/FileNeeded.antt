-- `FileNeeded`: what a file needs. (This project's own. What its bytes say is
-- `elf_format/specs/Needs.antt`.)
use Rattle.std.specs.Prelude.{ℕ, Bool, if◌then◌else◌, List, [], length, Option, None, Some}
use Rattle.elf_format.specs.Needs.{Needed, interpreter_of, needs_of}

-- what a file needs: an interpreter; and libraries, with the run path
pub record FileNeeded : Type 0 where
  pub interpreter : Option (List ℕ)
  pub libraries : Needed

abbrev pub no_libraries : Needed
no_libraries = record { needed = []; run_path = None }

abbrev pub needed_or_none : Option Needed → Needed
needed_or_none None = no_libraries
needed_or_none (Some n) = n

-- what a file of these bytes needs: only one that can be executed needs its interpreter
abbrev pub file_needs : Bool → List ℕ → FileNeeded
file_needs executable b = record {
  interpreter = if executable then interpreter_of b else None;
  libraries = needed_or_none (needs_of b);
}

abbrev pub nothing_needed : FileNeeded
nothing_needed = record { interpreter = None; libraries = no_libraries }

-- the number of entries of its dynamic segment
abbrev pub entry_count : FileNeeded → ℕ
entry_count n = length n.libraries.needed
