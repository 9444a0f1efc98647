-- `programs_text`: a line for each program or library of an image, in the order of the list, and
-- the totals. `warns`: whether there is one that is not, or not wholly, executed in place. (This
-- project's own. What is found of a file is `specs/Found.antt`.)
use Rattle.std.specs.Prelude.{ℕ, zero, suc, ◌+◌, ◌-◌, ◌*◌, ◌%◌, ◌^◌, ◌==◌, ◌||◌, min}
use Rattle.std.specs.Prelude.{nat_lt, Bool, false, slice_index}
use Rattle.std.specs.Prelude.{if◌then◌else◌, List, [], ◌∷◌, ◌++◌, codes, decimal, Option, Some}
use Rattle.std.specs.Prelude.{None}
use Rattle.std.specs.List.{flat_map}
use Rattle.rom_fields.specs.Texts.{escaped}
use Rattle.rom_tree.specs.Names.{Name, names}
use Rattle.rom_tree.specs.Tree.{Node, is_regular, places_of}
use Rattle.image_check.specs.declared.any.AnyImage.{AnyImage}
use Rattle.image_check.specs.Any.{any_view}
use Rattle.image_info.specs.Map.{address_text}
use Rattle.program_report.specs.declared.question.Question.{Question}
use Rattle.program_report.specs.declared.finding.Found.{Found}
use Rattle.program_report.specs.declared.finding.Reason.{Reason}
use Rattle.program_report.specs.declared.finding.Reason.TheVariants.{Unaligned, Scattered}
use Rattle.program_report.specs.declared.finding.Reason.TheVariants.{Unloadable, Table, Romfs}
use Rattle.program_report.specs.declared.finding.Reason.TheVariants.{TextRelocations, Writable}
use Rattle.program_report.specs.declared.finding.Verdict.{Verdict}
use Rattle.program_report.specs.declared.finding.Verdict.TheVariants.{InPlace, Not}
use Rattle.program_report.specs.declared.tally.Tally.{Tally}
use Rattle.program_report.specs.Found.{found_in, page_count}

abbrev pub reason_word : Reason → List ℕ
reason_word Unaligned = codes "unaligned"
reason_word Scattered = codes "scattered"
reason_word Unloadable = codes "unloadable"
reason_word Table = codes "table"
reason_word Romfs = codes "romfs"
reason_word TextRelocations = codes "textrel"
reason_word Writable = codes "writable"

-- a word, a path, an address and numbers, with spaces between them, and a line feed
abbrev pub spaced : List (List ℕ) → List ℕ
spaced [] = 10 ∷ []
spaced (w ∷ ws) = 32 ∷ [] ++ (w ++ spaced ws)

unfoldable pub head_of : List ℕ → List ℕ → ℕ → List ℕ
head_of word path address = word ++ (path ++ (32 ∷ [] ++ address_text address))

abbrev pub line_of : List ℕ → List ℕ → ℕ → List (List ℕ) → List ℕ
line_of word path address ws = head_of word path address ++ spaced ws

-- `xip PATH ADDRESS IN-PLACE COPIED ZERO`, or `not PATH ADDRESS REASON PAGES`
abbrev pub verdict_line : List ℕ → ℕ → Verdict → List ℕ
verdict_line path address (InPlace p) =
    line_of (codes "xip ") path address
    (decimal p.in_place ∷ decimal p.copied ∷ decimal p.zero ∷ [])
verdict_line path address (Not reason pages) =
    line_of (codes "not ") path address (reason_word reason ∷ decimal pages ∷ [])

-- a page that is not written is not in place, though the program is: the file's last page has
-- other data as well
abbrev pub is_shared : Verdict → Bool
is_shared (InPlace p) = nat_lt p.in_place p.fixed
is_shared (Not reason pages) = false

-- `shared PATH ADDRESS N`: the file needs N bytes to have its last page for itself
abbrev pub shared_line : List ℕ → ℕ → Found → List ℕ
shared_line path address f =
    if is_shared f.verdict
    then line_of (codes "shared ") path address (decimal (page_count f.size * 4096) ∷ [])
    else []

-- how many bytes of a program are behind its last segment
abbrev pub unused_in : ℕ → Verdict → ℕ
unused_in size (InPlace p) = size - p.used
unused_in size (Not reason pages) = 0

-- `unused PATH N`: more than a page is behind the last segment
abbrev pub unused_line : List ℕ → Found → List ℕ
unused_line path f =
    if nat_lt 4096 (unused_in f.size f.verdict)
    then codes "unused " ++ (path ++ spaced (decimal (unused_in f.size f.verdict) ∷ []))
    else []

-- the lines of a program with this path
unfoldable pub found_lines : Question → List ℕ → Found → List ℕ
found_lines q path f =
    verdict_line path (q.base + f.start) f.verdict
    ++ (shared_line path (q.base + f.start) f ++ (if q.advice then unused_line path f else []))

-- how many of the n bytes before an offset are zeros, one after the other up to it
abbrev pub zeros_before : List ℕ → ℕ → ℕ → ℕ
zeros_before b p zero = 0
zeros_before b zero (suc n) = 0
zeros_before b (suc p) (suc n) = if slice_index b p == 0 then suc (zeros_before b p n) else 0

-- `object PATH ADDRESS N`: a file that is no program begins with a page of the flash, behind N
-- bytes of zeros, fewer than a page
abbrev pub object_line : AnyImage → Question → List ℕ → ℕ → List ℕ
object_line a q path p =
    if (q.base + p) % 4096 == 0
    then line_of (codes "object ") path (q.base + p)
    (decimal (zeros_before (any_view a).bytes p 4095) ∷ [])
    else []

abbrev pub object_at : AnyImage → Question → List ℕ → List ℕ → List ℕ
object_at a q path [] = []
object_at a q path (p ∷ ps) = object_line a q path p

abbrev pub regular_lines : AnyImage → Question → List ℕ → Node → List ℕ
regular_lines a q path x = if is_regular x then object_at a q path (places_of x) else []

abbrev pub object_lines : AnyImage → Question → List ℕ → Node → List ℕ
object_lines a q path x = if q.advice then regular_lines a q path x else []

-- the lines of a node with this path
abbrev pub node_lines : AnyImage → Question → List ℕ → Node → Option Found → List ℕ
node_lines a q path x None = object_lines a q path x
node_lines a q path x (Some f) = found_lines q path f

-- the lines of a name
abbrev pub name_lines : AnyImage → Question → Name → List ℕ
name_lines a q n = node_lines a q (escaped n.path) n.node (found_in a q n.node)

-- a sum of 64 bits, or the greatest number of 64 bits
abbrev pub sum64 : ℕ → ℕ → ℕ
sum64 a b = min (a + b) (2 ^ 64 - 1)

abbrev pub one_if : Bool → ℕ
one_if b = if b then 1 else 0

-- the totals with a program of this verdict more
abbrev pub noted_as : Tally → Verdict → Tally
noted_as t (InPlace p) = record {
  programs = sum64 t.programs 1;
  in_place = sum64 t.in_place p.in_place;
  copied = sum64 t.copied p.copied;
  not = t.not;
  shared = sum64 t.shared (one_if (is_shared (InPlace p)));
}
noted_as t (Not reason pages) = record {
  programs = sum64 t.programs 1;
  in_place = t.in_place;
  copied = sum64 t.copied pages;
  not = sum64 t.not 1;
  shared = t.shared;
}

abbrev pub noted : Tally → Found → Tally
noted t f = noted_as t f.verdict

abbrev pub noted_if : Tally → Option Found → Tally
noted_if t None = t
noted_if t (Some f) = noted t f

abbrev pub nothing : Tally
nothing = record { programs = 0; in_place = 0; copied = 0; not = 0; shared = 0 }

-- the totals after some names
abbrev pub tally_from : AnyImage → Question → Tally → List Name → Tally
tally_from a q t [] = t
tally_from a q t (n ∷ ns) = tally_from a q (noted_if t (found_in a q n.node)) ns

-- the totals of an image
unfoldable pub tally_of : AnyImage → Question → Tally
tally_of a q = tally_from a q nothing (names (any_view a).tree)

-- `total PROGRAMS IN-PLACE COPIED NOT`
unfoldable pub total_line : Tally → List ℕ
total_line t =
    codes "total" ++ spaced (decimal t.programs ∷ decimal t.in_place ∷ decimal t.copied
    ∷ decimal t.not ∷ [])

unfoldable pub programs_text : AnyImage → Question → List ℕ
programs_text a q =
    flat_map (name_lines a q) (names (any_view a).tree) ++ total_line (tally_of a q)

abbrev pub tally_warns : Tally → Bool
tally_warns t = nat_lt 0 t.not || nat_lt 0 t.shared

-- whether a program is not, or not wholly, executed in place
unfoldable pub warns : AnyImage → Question → Bool
warns a q = tally_warns (tally_of a q)
