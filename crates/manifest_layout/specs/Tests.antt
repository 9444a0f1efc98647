-- The least misfit of lines and a volume, as it is computed. `number_of_line`: the least misfit of
-- a line. `of_lines`, `volume_by`: the least misfit of lines, and that of a volume's name. The
-- proofs of this crate show that these tests agree with the conditions of Misfit.antt. (This
-- project's own.)
use Rattle.std.specs.Prelude.{ℕ, ◌^◌, ◌==◌, ◌||◌, nat_lt, not, Bool, true, false, List, [], ◌∷◌}
use Rattle.std.specs.Prelude.{Option, Some, None}
use Rattle.rom_fields.specs.declared.fault.Fault.{Fault}
use Rattle.record_forest.specs.Lesser.{lesser_of_both}
use Rattle.manifest.specs.declared.line.Line.{Line}
use Rattle.manifest.specs.Lines.{ManifestLines, is_hard}
use Rattle.manifest.specs.Paths.{names_of}
use Rattle.manifest_tree.specs.Names.{Inode}
use Rattle.manifest_tree.specs.Tree.{inode_of}
use Rattle.romfs_format.specs.Tree.{mode_named}
use Rattle.romfs_layout.specs.Layout.{number_of, runnable}
use Rattle.formats.specs.Format.{Format, romfs, cramfs}
use Rattle.manifest_layout.specs.Misfit.{name_len}

-- whether the format cannot store an attribute of a file: an owner, a group, a mode or a device's
-- number
abbrev pub bad_attribute : Format → Inode → Bool
bad_attribute romfs i =
    not (i.uid == 0) || (not (i.gid == 0)
    || (not (mode_named (number_of i.kind) (i.mode == runnable) == i.mode)
    || (nat_lt 65535 i.major || nat_lt 65535 i.minor)))
bad_attribute (cramfs o) i =
    nat_lt 65535 i.uid || (nat_lt 255 i.gid || (nat_lt 255 i.major || nat_lt 255 i.minor))

-- whether a file of so many bytes is too large
abbrev pub is_large : Format → ℕ → Bool
is_large romfs n = nat_lt (2 ^ 28) n
is_large (cramfs o) n = not (nat_lt n (2 ^ 24))

-- whether a name of so many bytes is too long
abbrev pub is_long : Format → ℕ → Bool
is_long romfs n = false
is_long (cramfs o) n = nat_lt 252 n

-- whether a volume's name of so many bytes is too long
abbrev pub is_long_volume : Format → ℕ → Bool
is_long_volume romfs n = false
is_long_volume (cramfs o) n = nat_lt 16 n

-- whether the format has no further names of a file
abbrev pub has_no_links : Format → Bool
has_no_links romfs = false
has_no_links (cramfs o) = true

-- a misfit by its number, at the number of a line
abbrev pub fault : ℕ → ℕ → Fault
fault number at = record { number = number; at = at }

-- The least number of those that hold, for a `hard` line and for another: a bad attribute, too
-- large, a long name, a link if the format has none.
abbrev pub number_by : Bool → Bool → Bool → Bool → Bool → Option ℕ
number_by false true l n k = Some 1
number_by false false true n k = Some 2
number_by false false false true k = Some 3
number_by false false false false k = None
number_by true b true n k = Some 2
number_by true b false true k = Some 3
number_by true b false false true = Some 4
number_by true b false false false = None

-- the least number of the misfits of a line
abbrev pub number_of_line : Format → ManifestLines → List ℕ → Line → Option ℕ
number_of_line f m sizes l =
    let i = inode_of m.lines sizes l in
    number_by (is_hard l.word) (bad_attribute f i) (is_large f i.size)
    (is_long f (name_len (names_of l.path))) (has_no_links f)

-- a number at a line, if there is one
abbrev pub at_line : ℕ → Option ℕ → Option Fault
at_line n None = None
at_line n (Some k) = Some (fault k n)

-- the least misfit of lines
abbrev pub of_lines : Format → ManifestLines → List ℕ → List Line → Option Fault
of_lines f m sizes [] = None
of_lines f m sizes (l ∷ ls) =
    lesser_of_both (at_line l.number (number_of_line f m sizes l)) (of_lines f m sizes ls)

-- the misfit of a volume's name, by whether it is too long, at the number of its line
abbrev pub volume_by : Bool → ℕ → Option Fault
volume_by true n = Some (fault 3 n)
volume_by false n = None
