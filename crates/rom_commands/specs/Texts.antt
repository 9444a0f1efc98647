-- What the commands that inspect an image have to print, with which status, and why they may stop.
-- (This project's own.)
use Rattle.std.specs.Prelude.{◌≡◌, ℕ, ◌⊎◌, Bool, true, false, List, [], length, Option, Some, None}
use Rattle.std.specs.Prelude.{◌∷◌, ◌&&◌, if◌then◌else◌, Result, Ok, Err}
use Rattle.std.specs.List.{flat_map}
use Rattle.rom_tree.specs.Image.{Image}
use Rattle.rom_tree.specs.Names.{Name}
use Rattle.image_check.specs.declared.any.AnyImage.{AnyImage}
use Rattle.image_compare.specs.Digests.{digest_text, input_line}
use Rattle.image_compare.specs.Digests.{HasLongPath as DigestHasLongPath}
use Rattle.image_compare.specs.Differences.{verdict_text}
use Rattle.image_compare.specs.Diff.{is_printed, names_lines}
use Rattle.image_compare.specs.Rows.{AreSorted}
use Rattle.image_compare.specs.Rows.{HasLongPath as DiffHasLongPath}
use Rattle.image_extents.specs.declared.extent.Extents.{Extents}
use Rattle.image_extents.specs.Sorted.{AreOf}
use Rattle.image_extents.specs.Lines.{extents_text}
use Rattle.image_extents.specs.Which.{is_inside, which_text}
use Rattle.map_forms.specs.Header.{map_text}
use Rattle.map_forms.specs.Header.{HasLongPath as HeaderHasLongPath}
use Rattle.map_forms.specs.declared.error.HeaderError.{HeaderError}
use Rattle.map_forms.specs.declared.error.HeaderError.TheVariants as error
use Rattle.map_forms.specs.declared.form.Form.{Form}
use Rattle.rom_commands.specs.declared.ending.Ending.{Ending}
use Rattle.rom_commands.specs.declared.ending.Ending.TheVariants.{Done, Warned, Memory, LongPath}
use Rattle.image_info.specs.Description.{array_text, description}
use Rattle.image_info.specs.declared.numbers.Numbers.{Numbers}
use Rattle.rom_commands.specs.declared.ending.Ending.TheVariants.{WriteFault}
use Rattle.rom_commands.specs.Ends.{HasText, MayStop}

-- no reason
abbrev pub NeverStops : MayStop
NeverStops why text = ⊥

-- memory was refused, and nothing was printed
abbrev pub StopsOfMemory : MayStop
StopsOfMemory why text = (why ≡ Memory) × (text ≡ [])

-- the digests of the files of an image
abbrev pub IsDigests : Image → HasText
IsDigests m text s = (text ≡ digest_text m.bytes m.tree) × (s ≡ Done)

abbrev pub StopsDigests : Image → MayStop
StopsDigests m why text =
    (why ≡ LongPath) × DigestHasLongPath m.tree × (text ≡ digest_text m.bytes m.tree)

-- the digest of the image itself
abbrev pub IsDigest : List ℕ → HasText
IsDigest bytes text s = (text ≡ input_line bytes) × (s ≡ Done)

-- whether a dump has an image of so many bytes: if it differs, the ending is `Warned`
abbrev pub verdict_ending : Option ℕ → Ending
verdict_ending None = Done
verdict_ending (Some at) = Warned

abbrev pub IsVerdict : ℕ → Option ℕ → HasText
IsVerdict size found text s = (text ≡ verdict_text size found) × (s ≡ verdict_ending found)

-- in what two images differ: if there is a line, the ending is `Warned`
abbrev pub printed_ending : Bool → Ending
printed_ending true = Warned
printed_ending false = Done

pub record IsDiff (places : Bool) (a b : Image) (text : List ℕ) (s : Ending) : Type 0 where
  pub old_names : List Name
  pub new_names : List Name
  pub old_sorted : AreSorted a.tree old_names
  pub new_sorted : AreSorted b.tree new_names
  pub same : text ≡ names_lines places a.bytes b.bytes old_names new_names
  pub ends : s ≡ printed_ending (is_printed text)

-- memory was refused or a path is too long, and nothing was printed
abbrev pub StopsDiff : Image → Image → MayStop
StopsDiff a b why text =
    (text ≡ []) × ((why ≡ Memory)
    ⊎ ((why ≡ LongPath) × (DiffHasLongPath a.tree ⊎ DiffHasLongPath b.tree)))

-- the lines of the extents of an image that is in a file of so many bytes
pub record IsExtents (a : AnyImage) (base file : ℕ) (text : List ℕ) (s : Ending) : Type 0 where
  pub found : Extents
  pub are : AreOf a found
  pub same : text ≡ extents_text base file found
  pub ends : s ≡ Done

-- the map of the chosen files of an image
abbrev pub IsMap : Form → (List ℕ → Bool) → List ℕ → ℕ → Image → HasText
IsMap f chosen prefix base m text s =
    (text ≡ map_text f chosen prefix base (length m.bytes) m.tree) × (s ≡ Done)

-- a path is too long, or the choice was refused memory
abbrev pub StopsMap : Form → (List ℕ → Bool) → Type 0 → List ℕ → ℕ → Image → MayStop
StopsMap f chosen Refuses prefix base m why text =
    (((why ≡ LongPath) × HeaderHasLongPath m.tree) ⊎ ((why ≡ Memory) × Refuses))
    × (text ≡ map_text f chosen prefix base (length m.bytes) m.tree)

-- how the writing of a map ends
abbrev pub map_ending : Result (Unit {0}) HeaderError → Ending
map_ending (Ok v) = Done
map_ending (Err error.LongPath) = LongPath
map_ending (Err error.WriteFault) = WriteFault
map_ending (Err error.OutOfMemory) = Memory

-- what is at each of some addresses
unfoldable pub places_text : ℕ → ℕ → Extents → List ℕ → List ℕ
places_text base file e addresses = flat_map (λ a. which_text base file e a) addresses

-- whether the file has a byte at each of them
abbrev pub are_inside : ℕ → ℕ → Extents → List ℕ → Bool
are_inside base file e [] = true
are_inside base file e (a ∷ rest) = is_inside base file e a && are_inside base file e rest

-- if it has none at one of them, the ending is `Warned`
abbrev pub places_ending : Bool → Ending
places_ending true = Done
places_ending false = Warned

pub record IsPlaces (image : AnyImage) (base file : ℕ) (addresses text : List ℕ)
    (s : Ending) : Type 0 where
  pub found : Extents
  pub are : AreOf image found
  pub same : text ≡ places_text base file found addresses
  pub ends : s ≡ places_ending (are_inside base file found addresses)

-- the description of an image with these numbers, as an array of C or as bytes
abbrev pub IsNumbers : Bool → Numbers → HasText
IsNumbers array n text s = (text ≡ (if array then array_text n else description n)) × (s ≡ Done)
