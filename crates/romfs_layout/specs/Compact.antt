-- `AreCompact`: sections with no room between them except what alignment needs. (This project's
-- own.)
use Rattle.std.specs.Prelude.{ℕ, ◌+◌, ◌<◌, ◌==◌, max, if◌then◌else◌, List, [], ◌∷◌}
use Rattle.manifest_tree.specs.Alignments.{align_by}
use Rattle.manifest_tree.specs.Bodies.{item_at}
use Rattle.manifest_tree.specs.Items.{Item, Body, super, record_of, Section}

-- the alignment of a header: 16, or more if the bytes behind it ask for more
abbrev pub header_align : (ℕ → ℕ) → Item → ℕ
header_align align i = if i.len == 0 then 16 else max 16 (align_by align i.fill)

-- the alignment of a section; bytes are at once behind their header
abbrev pub section_align : (ℕ → ℕ) → List Item → Body → ℕ
section_align align is super = 16
section_align align is (record_of index) = header_align align (item_at is index)
section_align align is body = 1

-- Each section begins less than its alignment behind `at` or the section before it, and less than
-- 1,024 bytes are between the last one and `end`.
abbrev pub AreCompact : (ℕ → ℕ) → List Item → ℕ → ℕ → List Section → Type 0
AreCompact align is at end [] = end < at + 1024
AreCompact align is at end (s ∷ ss) =
    (s.place < at + section_align align is s.body)
    × AreCompact align is (s.place + s.len) end ss
