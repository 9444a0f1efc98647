-- `IsPlanOfText`: a text is a manifest, and a plan is the plan of this manifest. `form_in`,
-- `stored_in`: the image of a plan before its contents are known, and the checksum, by the format.
-- `image_with`: this image with the given bytes behind the superblock. `HasNoCopies`: no source
-- occurs twice in the image. `IsBuiltOfSome`: bytes are the answer of a build to some contents of
-- the planned sizes. (This project's own.)
use Rattle.std.specs.Prelude.{◌≡◌, ℕ, false, List, map, length, Ok}
use Rattle.std.specs.List.{AllByRecursion as Every}
use Rattle.crc.specs.Crc.{crc_of}
use Rattle.cramfs_write.specs.Form as in_cramfs
use Rattle.image_stream.specs.Segments.{Form, checked}
use Rattle.image_stream.specs.WordSums.{balance_of}
use Rattle.manifest_layout.specs.Plans.{Planned, IsPlanOf}
use Rattle.manifest.specs.Grammar.{manifest_of}
use Rattle.manifest.specs.Lines.{ManifestLines, sources_of, is_same}
use Rattle.formats.specs.Format.{Format, romfs, cramfs}
use Rattle.romfs_write.specs.Form as in_romfs
use Rattle.image_build.specs.Builds.{Builds}

-- the text is a manifest, and this is its plan, with a size for each source
pub record IsPlanOfText (text : List ℕ) (p : Planned) : Type 0 where
  pub lines : ManifestLines
  pub manifest : manifest_of text ≡ Ok lines
  pub count : length p.sizes ≡ length (sources_of lines.lines)
  pub planned : IsPlanOf p.format lines p.sizes p

-- the image of a plan, before the contents of its files are known
abbrev pub form_in : Format → Planned → Form
form_in romfs p = in_romfs.form_of p
form_in (cramfs o) p = in_cramfs.form_of o p

-- the checksum that the superblock stores: in romfs the balance of its words, in cramfs the
-- CRC-32
abbrev pub stored_in : Format → List ℕ → ℕ
stored_in romfs = balance_of
stored_in (cramfs o) = crc_of

-- the image of a plan, if `rest` is what is behind the superblock
abbrev pub image_with : Planned → List ℕ → List ℕ
image_with p rest = checked (form_in p.format p).head (stored_in p.format) rest

-- Each source is in the image once. In romfs there is no `same` line, which would have a copy of
-- its own and read the source again.
abbrev pub HasNoCopies : Format → ManifestLines → Type 0
HasNoCopies romfs m = Every (λ l. is_same l.word ≡ false) m.lines
HasNoCopies (cramfs o) m = Unit {0}

-- the bytes are the answer of a build to the text and some contents of the planned sizes
pub record IsBuiltOfSome (text : List ℕ) (p : Planned) (bytes : List ℕ) : Type 0 where
  pub contents : List (List ℕ)
  pub sized : map length contents ≡ p.sizes
  pub built : Builds p.format text contents (Ok bytes)
