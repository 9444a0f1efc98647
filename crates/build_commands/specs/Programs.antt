-- The programs of a planned image: where the contents of each source are, and what Linux does with
-- those that are programs. (This project's own. A verdict is `program_report.specs.Found`, and
-- `program_report.specs.Alike` says what the image makes of it.)
use Rattle.std.specs.Prelude.{ℕ, ◌+◌, ◌-◌, ◌/◌, ◌%◌, ◌==◌, ◌&&◌, not, nat_lt, Bool, false}
use Rattle.std.specs.Prelude.{if◌then◌else◌, List, [], ◌∷◌, ◌++◌, map, Option, Some, None}
use Rattle.std.specs.Prelude.{slice_get, slice_set, unwrap_or}
use Rattle.manifest.specs.Lines.{is_file}
use Rattle.manifest.specs.declared.line.Line.{Line}
use Rattle.manifest_tree.specs.Items.{Body, Section, super, record_of, table_of, text_of}
use Rattle.manifest_tree.specs.Items.{contents_of}
use Rattle.manifest_layout.specs.Plans.{section_at}
use Rattle.program_pages.specs.declared.counting.ProgramPages.{ProgramPages}
use Rattle.program_report.specs.Lines.{one_if, sum64}
use Rattle.program_report.specs.declared.finding.Reason.{Reason}
use Rattle.program_report.specs.declared.finding.Verdict.{Verdict}
use Rattle.program_report.specs.declared.finding.Verdict.TheVariants.{InPlace, Not}
use Rattle.build_commands.specs.declared.programs.Programs as code
use Rattle.build_commands.specs.declared.programs.Spot.{Spot}
use Rattle.build_commands.specs.declared.programs.Unplaced as code_unplaced

-- whether the next section begins in the last page of a section that does not fill it
abbrev pub is_shared : Section → Option Section → Bool
is_shared s None = false
is_shared s (Some next) =
    not ((s.place + s.len) % 4096 == 0) && (next.place / 4096 == (s.place + s.len) / 4096)

abbrev pub spot_of : Section → Option Section → Spot
spot_of s next = record { place = s.place; is_shared = is_shared s next }

-- an empty source has no contents in the image
abbrev pub nowhere : Spot
nowhere = record { place = 0; is_shared = false }

abbrev pub holds : ℕ → Body → Bool
holds file (contents_of k) = k == file
holds file super = false
holds file (record_of k) = false
holds file (table_of k) = false
holds file (text_of k) = false

abbrev pub spots_by : Body → List Spot → Spot → List Spot
spots_by (contents_of file) spots spot = slice_set spots file spot
spots_by super spots spot = spots
spots_by (record_of k) spots spot = spots
spots_by (table_of k) spots spot = spots
spots_by (text_of k) spots spot = spots

-- spots, with that of the source whose contents a section has
abbrev pub with_spot : List Spot → Section → Option Section → List Spot
with_spot spots s next = spots_by s.body spots (spot_of s next)

-- the spot of a source, if it is this one unless sections have its contents
abbrev pub spot_from : ℕ → Spot → List Section → Spot
spot_from file spot [] = spot
spot_from file spot (s ∷ ss) =
    spot_from file (if holds file s.body then spot_of s (section_at ss 0) else spot) ss

abbrev pub spot_in : ℕ → List Section → Spot
spot_in file ss = spot_from file nowhere ss

-- a program that is not executed in place
pub record Unplaced : Type 0 where
  pub line : ℕ
  pub path : List ℕ
  pub reason : Reason

-- how many programs there are, how many of their pages are in place, how many are copied, and how
-- many programs have a last page that is copied since other data are in it
pub record Programs : Type 0 where
  pub count : ℕ
  pub in_place : ℕ
  pub copied : ℕ
  pub shared : ℕ
  pub unplaced : List Unplaced

abbrev pub unplaced : code_unplaced.Unplaced → Unplaced
unplaced u = record { line = u.line; path = u.path.items; reason = u.reason }

abbrev pub programs : code.Programs → Programs
programs p = record {
  count = p.count;
  in_place = p.in_place;
  copied = p.copied;
  shared = p.shared;
  unplaced = map unplaced p.unplaced.items;
}

abbrev pub none : Programs
none = record { count = 0; in_place = 0; copied = 0; shared = 0; unplaced = [] }

-- the pages of a program in place that are in place: all that are not written, except a last one
-- that is shared
abbrev pub placed : Spot → ProgramPages → ℕ
placed s p = if s.is_shared then p.in_place else p.fixed

-- one program more, which is executed in place
abbrev pub with_pages : Programs → Spot → ProgramPages → Programs
with_pages t s p = record {
  count = sum64 t.count 1;
  in_place = sum64 t.in_place (placed s p);
  copied = sum64 t.copied (sum64 p.in_place p.copied - placed s p);
  shared = sum64 t.shared (one_if (s.is_shared && nat_lt p.in_place p.fixed));
  unplaced = t.unplaced;
}

-- or which is not, and of which so many pages are copied
abbrev pub with_unplaced : Programs → Line → Reason → ℕ → Programs
with_unplaced t l reason pages = record {
  count = sum64 t.count 1;
  in_place = t.in_place;
  copied = sum64 t.copied pages;
  shared = t.shared;
  unplaced = t.unplaced ++ record { line = l.number; path = l.path; reason = reason } ∷ [];
}

abbrev pub with_verdict : Programs → Line → Spot → Option Verdict → Programs
with_verdict t l s None = t
with_verdict t l s (Some (InPlace p)) = with_pages t s p
with_verdict t l s (Some (Not reason pages)) = with_unplaced t l reason pages

-- what is at an index of a list, or nothing
abbrev pub verdict_of : Option (Option Verdict) → Option Verdict
verdict_of None = None
verdict_of (Some v) = v

-- the programs of the `file` lines from a source on, whose spots and verdicts are at its index
abbrev pub programs_from : List Spot → List (Option Verdict) → Programs → ℕ → List Line → Programs
programs_from spots verdicts t file [] = t
programs_from spots verdicts t file (l ∷ ls) =
    if is_file l.word
    then programs_from spots verdicts
    (with_verdict t l (unwrap_or (slice_get spots file) nowhere)
    (verdict_of (slice_get verdicts file))) (file + 1) ls
    else programs_from spots verdicts t file ls

abbrev pub programs_in : List Spot → List (Option Verdict) → List Line → Programs
programs_in spots verdicts ls = programs_from spots verdicts none 0 ls
