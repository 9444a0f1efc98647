-- `Passes`, `Tries`: the values that the reader keeps behind a bad line, and behind any line, in
-- the words of the grammar. (This project's own.)
use Rattle.std.specs.Prelude.{◌≡◌, ℕ, List, [], ◌∷◌, reverse, map, Option, Some, None}
use Rattle.manifest.specs.Grammar.{Fault}
use Rattle.manifest.specs.Faults.{counted, passed, line_faults, after_line}
use Rattle.manifest.specs.Reading.{seen, IsKept}
use Rattle.manifest.specs.declared.line.Line.{Line}
use Rattle.manifest.specs.declared.reader.Reader.{Reader}
use Rattle.manifest.specs.declared.faults.BadLine.{BadLine}

-- a bad line, as a fault of the grammar
abbrev pub as_fault : BadLine → Fault
as_fault b = record { line = b.line; number = b.number }

abbrev pub as_faults : List BadLine → List Fault
as_faults bs = map as_fault bs

abbrev pub as_told : Option BadLine → List Fault
as_told None = []
as_told (Some b) = as_fault b ∷ []

-- one more line is counted
pub record Counts (old new : Reader) (l : Line) : Type 0 where
  pub seen : seen new
      ≡ record {
        latest = counted (reverse old.lines.items) l;
        volume = old.volume;
        volume_line = old.volume_line;
      }
  pub kept : IsKept new

-- a bad line was passed
pub record Passes (old new : Reader) (n : ℕ) (line : List ℕ) : Type 0 where
  pub seen : seen new ≡ passed (seen old) n line
  pub kept : IsKept new

-- a line was skipped, read, or passed with this fault
pub record Tries (old new : Reader) (n : ℕ) (line : List ℕ) (bad : Option BadLine) : Type 0 where
  pub told : line_faults (seen old) n line ≡ as_told bad
  pub seen : seen new ≡ after_line (seen old) n line
  pub kept : IsKept new
