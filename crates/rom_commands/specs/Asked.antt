-- What is written of a valid image, for each request. (This project's own.)
use Rattle.std.specs.Prelude.{ℕ, ◌+◌, ◌^◌, ◌≤◌, ◌++◌, Bool, true, false, not, List}
use Rattle.rom_tree.specs.Listing.{list_text}
use Rattle.image_check.specs.declared.any.AnyImage.{AnyImage}
use Rattle.formats.specs.Format.{name_of}
use Rattle.image_check.specs.Any.{any_view, image_format, report_of}
use Rattle.image_info.specs.Map.{map_text}
use Rattle.image_info.specs.Info.{info_text}
use Rattle.linux_misreads.specs.Misreads.{is_printed, misreads_text}
use Rattle.program_report.specs.Lines.{programs_text, warns as programs_warn}
use Rattle.program_report.specs.Needs.{needs_text, needs_warn}
use Rattle.rom_commands.specs.Room.{fits, room_text}
use Rattle.rom_commands.specs.Lines.{ok_line}
use Rattle.rom_commands.specs.declared.asked.Asked.{Asked}
use Rattle.rom_commands.specs.declared.asked.Asked.TheVariants.{Report, List as Listed, Map}
use Rattle.rom_commands.specs.declared.asked.Asked.TheVariants.{Misreads, Needs, Programs}
use Rattle.rom_commands.specs.declared.asked.Asked.TheVariants.{Facts, Fit}

-- the text of an image: its format, references and depth; its list; its map; what Linux misreads in
-- it; what its programs need that it does not have; which programs Linux executes in place; its
-- facts; or its facts and whether it fits
abbrev pub sound_text : Asked → AnyImage → List ℕ
sound_text Report a = ok_line (name_of (image_format a)) (report_of a).references
    (report_of a).depth
sound_text Listed a = list_text (any_view a).bytes (any_view a).tree
sound_text (Map base) a = map_text base (any_view a).tree
sound_text Misreads a = misreads_text a
sound_text Needs a = needs_text (any_view a)
sound_text (Programs q) a = programs_text a q
sound_text (Facts file) a = info_text file a
sound_text (Fit file limit) a = info_text file a ++ room_text limit a

-- whether it reports something that Linux misreads, that is needed or not looked at, a program that
-- is not executed in place, or that the image does not fit
abbrev pub warns : Asked → AnyImage → Bool
warns Misreads a = is_printed (misreads_text a)
warns Needs a = needs_warn (any_view a)
warns (Programs q) a = programs_warn a q
warns (Fit file limit) a = not (fits limit a)
warns _ a = false

-- whether the line of a fault is written in place of what was asked. This holds for a report and a
-- list. Otherwise nothing is written, so that no fault is among data; standard error has the line.
abbrev pub takes_fault : Asked → Bool
takes_fault Report = true
takes_fault Listed = true
takes_fault _ = false

-- the last byte of an image of this length has an address below 2^64
abbrev pub Fits : Asked → ℕ → Type 0
Fits (Map base) size = base + size ≤ 2 ^ 64
Fits (Programs q) size = q.base + size ≤ 2 ^ 64
Fits _ size = Unit {0}
