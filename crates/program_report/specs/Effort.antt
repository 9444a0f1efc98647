-- `effort`: what it costs to look at the needs of a file, in bytes. `budget`: how much there is for
-- all files of an image. (This project's own.)
use Rattle.std.specs.Prelude.{ℕ, ◌+◌, ◌*◌, ◌/◌, nat_lt, max, if◌then◌else◌, List, [], ◌∷◌}
use Rattle.std.specs.Prelude.{length, Option, None, Some}
use Rattle.std.specs.List.{count_by}
use Rattle.std.specs.Option.{is_some}
use Rattle.rom_tree.specs.Image.{Image}
use Rattle.rom_tree.specs.Names.{Name}
use Rattle.rom_tree.specs.Tree.{Node, is_link, places_of}
use Rattle.program_report.specs.FileNeeded.{FileNeeded, entry_count}

-- what a look-up costs: each of at most 40 links has at most so many bytes of text
abbrev pub look : ℕ → ℕ
look longest = 1 + longest / 32

abbrev pub interpreter_count : Option (List ℕ) → ℕ
interpreter_count None = 0
interpreter_count (Some path) = 1

-- how many entries name a library
abbrev pub library_count : List (Option (List ℕ)) → ℕ
library_count names = count_by is_some names

-- the bytes of a run path; one that is longer than a path may be is not followed
abbrev pub run_path_size : Option (List ℕ) → ℕ
run_path_size None = 0
run_path_size (Some path) = if nat_lt 4095 (length path) then 0 else length path

-- A file of this size: its interpreter is looked up once. Each entry of its dynamic segment is
-- read, whose text may be a part of the file. Each library is looked up in 27 directories, and in
-- those of the run path, of which each has a byte.
unfoldable pub effort : ℕ → ℕ → FileNeeded → ℕ
effort longest size n =
    interpreter_count n.interpreter * look longest
    + (entry_count n * (1 + size / 1024)
    + library_count n.libraries.needed
    * (look longest * (27 + run_path_size n.libraries.run_path)))

-- the bytes of a link's text
abbrev pub link_size : Node → ℕ
link_size x = if is_link x then length (places_of x) else 0

-- the most bytes of a link's text
abbrev pub longest_link : List Name → ℕ
longest_link [] = 0
longest_link (x ∷ xs) = max (link_size x.node) (longest_link xs)

-- as many bytes as the image has, and 2^20 more
abbrev pub budget : Image → ℕ
budget m = 1048576 + length m.bytes

-- the most bytes of a link's text, and how much is left
pub record Allowance : Type 0 where
  pub longest : ℕ
  pub left : ℕ
