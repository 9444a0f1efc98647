-- `AreCompact`: sections with no room between them except what alignment needs. (This project's
-- own.)
use Rattle.std.specs.Prelude.{ℕ, ◌+◌, ◌<◌, List, [], ◌∷◌}
use Rattle.manifest_tree.specs.Items.{Body, contents_of, Section}

-- the alignment of a section: that of its source for contents, and 4 for all else
abbrev pub section_align : (ℕ → ℕ) → Body → ℕ
section_align align (contents_of k) = align k
section_align align body = 4

-- Each section begins less than its alignment behind `at` or the section before it, and less than
-- 4,096 bytes are between the last one and `end`.
abbrev pub AreCompact : (ℕ → ℕ) → ℕ → ℕ → List Section → Type 0
AreCompact align at end [] = end < at + 4096
AreCompact align at end (s ∷ ss) =
    (s.place < at + section_align align s.body) × AreCompact align (s.place + s.len) end ss
