-- That the collected extents leave out no byte of a file: `HasAllBytes`. What is at an address, as
-- the lines of all extents that have the byte: `AreLinesAt`. (This project's own.)
use Rattle.std.specs.Prelude.{◌≡◌, ℕ, ◌+◌, ◌-◌, ◌<◌, Bool, false, List, [], ◌∷◌, ◌++◌, length}
use Rattle.std.specs.Prelude.{slice_index}
use Rattle.std.specs.Prelude.{nat_le, nat_lt, if◌then◌else◌, Option, Some}
use Rattle.std.specs.List.{Contains, flat_map}
use Rattle.rom_tree.specs.Names.{Name, names}
use Rattle.rom_tree.specs.Tree.{Node, ino_of, places_of}
use Rattle.image_extents.specs.Apart.{Covers}
use Rattle.image_extents.specs.Lines.{line_of, owners, run_text}
use Rattle.image_extents.specs.Listed.{path_of}
use Rattle.image_extents.specs.Which.{offset_of, which_text}
use Rattle.image_extents.specs.declared.extent.Extent.{Extent}
use Rattle.image_extents.specs.declared.extent.Extents.{Extents}
use Rattle.image_extents.specs.declared.extent.Kind.TheVariants.{Data}

-- One of the extents is data, has the byte at p of the image, and has it as byte k of the contents.
-- One of the records that have the bytes of this extent has this path.
pub record HasByte (e : Extents) (path : List ℕ) (k p : ℕ) : Type 0 where
  pub extent : Extent
  pub among : Contains e.extents.items extent
  pub kind : extent.kind ≡ Data
  pub covers : Covers extent p
  pub byte : extent.offset + (p - extent.start) ≡ k
  pub number : ℕ
  pub owner : Contains (owners e extent) number
  pub named : path_of e.bytes.now e.records.items number ≡ path

-- each byte of each file and each link of the tree, by each of its names
abbrev pub HasAllBytes : Node → Extents → Type 0
HasAllBytes t e = (n : Name) → Contains (names t) n → (k : ℕ) → k < length (places_of n.node)
    → HasByte e n.path k (slice_index (places_of n.node) k)

-- The same where hard links have records without bytes: by one of the names of the same node.
pub record HasByteOf (t : Node) (e : Extents) (n : Name) (k : ℕ) : Type 0 where
  pub other : Name
  pub among : Contains (names t) other
  pub same : ino_of other.node ≡ ino_of n.node
  pub byte : HasByte e other.path k (slice_index (places_of n.node) k)

abbrev pub HasAllBytesOfNodes : Node → Extents → Type 0
HasAllBytesOfNodes t e = (n : Name) → Contains (names t) n → (k : ℕ)
    → k < length (places_of n.node) → HasByteOf t e n k

-- with its line feed
pub record IsLine (l : List ℕ) : Type 0 where
  pub front : List ℕ
  pub is : l ≡ front ++ 10 ∷ []

-- a text of whole lines, of which this is one
pub record HasLine (text line : List ℕ) : Type 0 where
  pub lines : List (List ℕ)
  pub is : text ≡ flat_map (λ l. l) lines
  pub each : (l : List ℕ) → Contains lines l → IsLine l
  pub among : Contains lines line

-- whether an extent has the byte at an offset
abbrev pub has_byte : ℕ → Extent → Bool
has_byte at x = if nat_le x.start at then nat_lt at (x.start + x.len) else false

-- all extents that have the byte at an offset, in their order
abbrev pub having : ℕ → List Extent → List Extent
having at [] = []
having at (x ∷ xs) = if has_byte at x then x ∷ having at xs else having at xs

-- an extent and the number of a record
pub record Owning : Type 0 where
  pub extent : Extent
  pub number : ℕ

-- the line of these bytes of this record
abbrev pub owning_line : ℕ → Extents → Option ℕ → Owning → List ℕ
owning_line base e at l = line_of base e at l.extent l.number

-- The text is lines of extents that have the byte at an offset, each as bytes of a record. There is
-- a line for each extent that has the byte, with each record that has the bytes of this extent, and
-- no other line.
pub record AreLinesAt (base : ℕ) (e : Extents) (at : ℕ) (text : List ℕ) : Type 0 where
  pub lines : List Owning
  pub is : text ≡ flat_map (owning_line base e (Some at)) lines
  pub sound : (l : Owning) → Contains lines l → Contains e.extents.items l.extent
      × Covers l.extent at × Contains (owners e l.extent) l.number
  pub whole : (l : Owning) → Contains e.extents.items l.extent → Covers l.extent at
      → Contains (owners e l.extent) l.number → Contains lines l

-- What `which` writes of each address at which an extent has a byte: the lines of all extents that
-- have it.
abbrev pub IsPlain : ℕ → ℕ → Extents → Type 0
IsPlain base file e = (address : ℕ) (x : Extent) → Contains e.extents.items x
    → Covers x (offset_of base address)
    → which_text base file e address ≡ run_text base e (Some (offset_of base address))
    (having (offset_of base address) e.extents.items)

-- the same, line by line
abbrev pub Finds : ℕ → ℕ → Extents → Type 0
Finds base file e = (address : ℕ) (x : Extent) → Contains e.extents.items x
    → Covers x (offset_of base address)
    → AreLinesAt base e (offset_of base address) (which_text base file e address)
