-- `without_bytes`, `size_by`: the kind and the size of a line's file. `exceeds`: an attribute is
-- more than a format can hold. `misfits_of`: the misfits of lines. `misfit_fault`: a misfit of the
-- code as a fault. (This project's own.)
use Rattle.std.specs.Prelude.{ℕ, ◌==◌, ◌||◌, ◌&&◌, Bool, nat_lt, not, length, Option, Some, None}
use Rattle.std.specs.Prelude.{List, [], ◌∷◌, ◌++◌}
use Rattle.formats.specs.Format.{Format}
use Rattle.manifest.specs.Lines.{ManifestLines}
use Rattle.manifest_layout.specs.Tests.{at_line, number_of_line}
use Rattle.formats.specs.declared.capacity.Capacity.{Capacity}
use Rattle.romfs_format.specs.Tree.{mode_named}
use Rattle.romfs_layout.specs.Layout.{number_of, runnable}
use Rattle.rom_fields.specs.declared.fault.Fault.{Fault}
use Rattle.rom_tree.specs.declared.types.Kind.{Kind}
use Rattle.rom_tree.specs.declared.types.Kind.TheVariants as kind
use Rattle.manifest.specs.declared.line.Line.{Line}
use Rattle.manifest.specs.declared.line.Word.{Word}
use Rattle.manifest.specs.declared.line.Word.TheVariants.{Dir, File, Slink, Block, Character, Fifo}
use Rattle.manifest.specs.declared.line.Word.TheVariants.{Socket, Hard, Same}
use Rattle.manifest_tree.specs.Names.{no_bytes, Inode}
use Rattle.manifest_tree.specs.Tree.{plain}
use Rattle.plan_rows.specs.declared.files.SourceUse.{SourceUse}
use Rattle.plan_rows.specs.declared.misfit.Misfit.{Misfit}

-- the kind of file that a word makes; a `hard` line makes none, and counts as a regular file here
abbrev pub kind_by : Word → Kind
kind_by Dir = kind.Directory
kind_by File = kind.Regular
kind_by Slink = kind.Symlink
kind_by Block = kind.Block
kind_by Character = kind.Character
kind_by Fifo = kind.Fifo
kind_by Socket = kind.Socket
kind_by Hard = kind.Regular
kind_by Same = kind.Regular

-- a line's kind and attributes, without its bytes
abbrev pub without_bytes : Line → Inode
without_bytes l = plain l (kind_by l.word) 4 0 no_bytes

-- the mode of a file is not that which the format has for its kind
abbrev pub has_other_mode : Capacity → Inode → Bool
has_other_mode most i =
    not most.has_modes && not (mode_named (number_of i.kind) (i.mode == runnable) == i.mode)

-- an attribute of a file is above what the format can hold, or its mode is another
abbrev pub exceeds : Capacity → Inode → Bool
exceeds most i =
    nat_lt most.owner i.uid || (nat_lt most.group i.gid || (has_other_mode most i
    || (nat_lt most.device i.major || nat_lt most.device i.minor)))

abbrev pub size_or : Option SourceUse → ℕ
size_or None = 0
size_or (Some c) = c.size

-- the size of a line's file in bytes, if its path leads to these contents
abbrev pub size_by : Word → Line → Option SourceUse → ℕ
size_by Slink l o = length l.text
size_by File l o = size_or o
size_by Same l o = size_or o
size_by _ l o = 0

-- the misfit that there may be, as a list
abbrev pub listed : Option Fault → List Fault
listed None = []
listed (Some e) = e ∷ []

-- the least misfit of each line that has one, in the order of the lines
abbrev pub misfits_of : Format → ManifestLines → List ℕ → List Line → List Fault
misfits_of f m sizes [] = []
misfits_of f m sizes (l ∷ ls) =
    listed (at_line l.number (number_of_line f m sizes l)) ++ misfits_of f m sizes ls

-- a misfit as a fault, at the number of its line
abbrev pub misfit_fault : Misfit → Fault
misfit_fault e = record { number = e.number; at = e.line }
