-- `told_in`: what a build foresees that Linux would misread in the image of a manifest, by number:
-- of how many lines it is told, and of which first. `IsLeastOf`: the least of them.
-- `AreMisreadAlike`, `AreCramfsMisreadAlike`: the same is misread in an image and in a plan, except
-- where bytes begin, the room of a name and shared tables. `IsFileOf`, `IsKeptAs`: what a node and
-- its table have to be for this. (This project's own.)
use Rattle.std.specs.Prelude.{◌≡◌, ℕ, ◌+◌, ◌<◌, ◌≤◌, ◌==◌, ◌⊎◌, nat_lt, Bool, true, false, List, []}
use Rattle.std.specs.Prelude.{◌∷◌, if◌then◌else◌, filter, length, reverse, Option, Some, None}
use Rattle.std.specs.Prelude.{MatchOption}
use Rattle.std.specs.List.{slice_get}
use Rattle.formats.specs.Format.{Format, romfs, cramfs}
use Rattle.manifest.specs.Lines.{ManifestLines, led}
use Rattle.manifest.specs.declared.line.Line.{Line}
use Rattle.manifest_tree.specs.Names.{Inode}
use Rattle.manifest_tree.specs.Shape.{file_value, node_value}
use Rattle.rom_tree.specs.Tree.{Node, places_of}
use Rattle.linux_misreads.specs.Differences.{is_root_missed}
use Rattle.linux_misreads.specs.declared.judged.CramfsMisreads.{CramfsMisreads}
use Rattle.linux_misreads.specs.declared.judged.RomfsMisreads.{RomfsMisreads}
use Rattle.linux_misreads.specs.declared.seen.Known.{Known}
use Rattle.build_commands.specs.Planned.{cramfs_by, romfs_by}
use Rattle.build_commands.specs.declared.warnings.Warning.{Warning}
use Rattle.build_commands.specs.declared.limits.Misread.{Misread}

-- a warning: the number of lines of which it is told, and the number and the path of the first
pub record Told : Type 0 where
  pub count : ℕ
  pub line : ℕ
  pub path : List ℕ

-- a warning of the code
abbrev pub told : Warning → Told
told w = record { count = w.count; line = w.line; path = w.path.now }

abbrev pub nothing_told : Told
nothing_told = record { count = 0; line = 0; path = 47 ∷ [] }

-- these lines are told of
abbrev pub told_of : List Line → Told
told_of [] = nothing_told
told_of (l ∷ ls) = record { count = length (l ∷ ls); line = l.number; path = l.path }

-- the whole image is told of, or its volume, by this line
abbrev pub of_image : Bool → ℕ → Told
of_image false line = nothing_told
of_image true line = record { count = 1; line = line; path = 47 ∷ [] }

-- one line more is told of, if `applies`
abbrev pub counted : Told → Bool → Line → Told
counted t false l = t
counted t true l =
    if t.count == 0 then record { count = 1; line = l.number; path = l.path }
    else record { count = t.count + 1; line = t.line; path = t.path }

-- something is misread in the path of a line in romfs
abbrev pub romfs_is : (RomfsMisreads → Bool) → List Line → List ℕ → Line → Bool
romfs_is is lines sizes l = is (romfs_by lines sizes l.path (led (reverse lines) l.path))

-- the same in cramfs
abbrev pub cramfs_is : (CramfsMisreads → Bool) → List Line → List ℕ → Line → Bool
cramfs_is is lines sizes l = is (cramfs_by lines sizes l.path (led (reverse lines) l.path))

-- the lines of a manifest of which it is told
abbrev pub in_romfs : (RomfsMisreads → Bool) → ManifestLines → List ℕ → Told
in_romfs is m sizes = told_of (filter (romfs_is is m.lines sizes) m.lines)

abbrev pub in_cramfs : (CramfsMisreads → Bool) → ManifestLines → List ℕ → Told
in_cramfs is m sizes = told_of (filter (cramfs_is is m.lines sizes) m.lines)

-- 0 is a manifest without a line that makes a file; the others are the numbers of `romtool linux`
abbrev pub romfs_told : ManifestLines → List ℕ → List Told
romfs_told m sizes =
    of_image (length m.lines == 0) 0 ∷ nothing_told ∷ nothing_told
    ∷ in_romfs (λ x. x.name_cut) m sizes
    ∷ in_romfs (λ x. x.name_too_long) m sizes
    ∷ of_image (is_root_missed m.volume) m.volume_line
    ∷ in_romfs (λ x. x.device) m sizes ∷ nothing_told
    ∷ in_romfs (λ x. x.link_cut) m sizes ∷ nothing_told
    ∷ in_romfs (λ x. x.other_place) m sizes
    ∷ []

abbrev pub cramfs_told : ManifestLines → List ℕ → List Told
cramfs_told m sizes =
    of_image (length m.lines == 0) 0
    ∷ in_cramfs (λ x. x.last_block) m sizes
    ∷ in_cramfs (λ x. x.shared_table) m sizes ∷ nothing_told ∷ nothing_told ∷ nothing_told
    ∷ in_cramfs (λ x. x.device) m sizes
    ∷ in_cramfs (λ x. x.name_padded) m sizes
    ∷ in_cramfs (λ x. x.link_cut) m sizes
    ∷ in_cramfs (λ x. x.root_mode) m sizes ∷ nothing_told
    ∷ []

-- the lines of a manifest whose files end with a whole block in cramfs
abbrev pub last_blocks : ManifestLines → List ℕ → List Line
last_blocks m sizes = filter (cramfs_is (λ x. x.last_block) m.lines sizes) m.lines

abbrev pub told_in : Format → ManifestLines → List ℕ → List Told
told_in romfs m sizes = romfs_told m sizes
told_in (cramfs o) m sizes = cramfs_told m sizes

-- a node of an image has the attributes, the contents and the size of a planned file
pub record IsFileOf (image : List ℕ) (contents : List (List ℕ)) (x : Node)
    (i : Inode) : Type 0 where
  pub value : node_value image x ≡ file_value contents i
  pub size : length (places_of x) ≡ i.size

-- the same names, devices and links are misread
pub record AreMisreadAlike (a b : RomfsMisreads) : Type 0 where
  pub cut : a.name_cut ≡ b.name_cut
  pub long : a.name_too_long ≡ b.name_too_long
  pub device : a.device ≡ b.device
  pub link : a.link_cut ≡ b.link_cut

-- the same last blocks, devices, links and modes of the root are misread
pub record AreCramfsMisreadAlike (a b : CramfsMisreads) : Type 0 where
  pub last_block : a.last_block ≡ b.last_block
  pub device : a.device ≡ b.device
  pub link : a.link_cut ≡ b.link_cut
  pub root : a.root_mode ≡ b.root_mode

-- under the number of a file Linux keeps the facts that are foreseen, or, if none are, its own
abbrev pub IsKeptAs : Known → Option Known → Option Known → Type 0
IsKeptAs own kept foreseen = (kept ≡ foreseen) ⊎ ((foreseen ≡ None) × (kept ≡ Some own))

-- the lesser of what was found and a warning with a greater number, if it occurs
abbrev pub lesser_by : Option Misread → ℕ → ℕ → Misread
lesser_by None line number = record { line = line; number = number }
lesser_by (Some e) line number =
    if nat_lt line e.line then record { line = line; number = number } else e

abbrev pub lesser : Option Misread → Told → ℕ → Option Misread
lesser o t number = if t.count == 0 then o else Some (lesser_by o t.line number)

-- the warning of this number occurs, and each other that does has a greater line, or the same line
-- and a greater number
pub record IsLeast (ts : List Told) (e : Misread) : Type 0 where
  pub warning : Told
  pub at : slice_get ts e.number ≡ Some warning
  pub some : 0 < warning.count
  pub line : warning.line ≡ e.line
  pub least : (k : ℕ) (t : Told) → slice_get ts k ≡ Some t → 0 < t.count
      → (e.line < t.line) ⊎ ((e.line ≡ t.line) × (e.number ≤ k))

-- the least of some warnings, by line and then by number, or that none occurs
abbrev pub IsLeastOf : List Told → Option Misread → Type 0
IsLeastOf ts o =
    MatchOption o ((k : ℕ) (t : Told) → slice_get ts k ≡ Some t → t.count ≡ 0) (IsLeast ts)
