-- An outcome of the machine of open files as it is reported to C: `error_reported`,
-- `place_reported`, `mapped_reported`, `file_stat_reported`, `IsCopied`, `IsListed`, `HasKindIn`.
-- (This project's own.)
use Rattle.std.specs.Prelude.{◌≡◌, ℕ, List, [], ◌++◌, length, drop, Option, Some, None, Ok, Err}
use Rattle.std.specs.Prelude.{IsSomeAnd, Bool, ◌&&◌, ◌==◌, if◌then◌else◌}
use Rattle.rom_tree.specs.declared.types.Stat.{Stat}
use Rattle.rom_tree.specs.Tree.{Node, node_at, kind_of, is_regular, places_of}
use Rattle.open_files.specs.declared.slot.OpenNode.{OpenNode}
use Rattle.open_files.specs.Calls.{Of, Lent, Named}
use Rattle.open_files.specs.Machine.{Open, Outcome, map_on}
use Rattle.open_files.specs.Slots.{View, stands, moved}
use Rattle.open_files.specs.Errors.{error_number}
use Rattle.rom_c.specs.declared.answers.RomtoolPlace.{RomtoolPlace}
use Rattle.rom_c.specs.declared.answers.RomtoolStat.{RomtoolStat}
use Rattle.rom_c.specs.declared.file.RomtoolEntry.{RomtoolEntry}
use Rattle.rom_c.specs.Reported.{kind_number, no_place, no_stat, stat_reported}

abbrev pub error_reported : {R : Type 0} → Outcome R → ℕ
error_reported (Ok a) = 0
error_reported (Err e) = error_number e

-- the offset and the length of the bytes that are lent, or the error
abbrev pub place_reported : Outcome (Of Lent) → RomtoolPlace
place_reported (Ok a) = record { error = 0; at = a.0.1.place; len = length a.0.1.bytes }
place_reported (Err e) = no_place (error_number e)

-- the bytes that are asked for are none, and the node is a file without bytes
abbrev pub asks_nothing : Node → ℕ → ℕ → Bool
asks_nothing x off len =
    is_regular x && (length (places_of x) == 0 && (off == 0 && len == 0))

-- where exactly `len` bytes from byte `off` on are; no bytes of an empty file are at 0
abbrev pub mapped_reported : List ℕ → ℕ → ℕ → Node → ℕ → RomtoolPlace
mapped_reported b off len x p =
    if asks_nothing x off len then no_place 0 else place_reported (map_on None b off len x p)

-- a kind and numbers, or the error
abbrev pub file_stat_reported : Outcome (Of Stat) → RomtoolStat
file_stat_reported (Ok a) = stat_reported a.0.1
file_stat_reported (Err e) = no_stat (error_number e)

-- The n bytes are in the front of the buffer, and the rest is as it was. After an error, the whole
-- buffer is as it was.
abbrev pub IsCopied : Outcome (List ℕ) → ℕ → ℕ → List ℕ → List ℕ → Type 0
IsCopied (Ok a) error n new old = (error ≡ 0) × (n ≡ length a.0) × (new ≡ a.0 ++ drop n old)
IsCopied (Err e) error n new old = (error ≡ error_number e) × (n ≡ 0) × (new ≡ old)

abbrev pub IsNoEntry : RomtoolEntry → Type 0
IsNoEntry r = (r.name.now ≡ []) × (r.node ≡ 0) × (r.some ≡ 0) × (r.kind ≡ 0)

abbrev pub IsEntryOf : Option (Of Named) → RomtoolEntry → Type 0
IsEntryOf None r = IsNoEntry r
IsEntryOf (Some a) r = (r.name.now ≡ a.1.name) × (r.node ≡ a.1.node) × (r.some ≡ 1)

-- the next entry, or none at the end; or the error
abbrev pub IsListed : Outcome (Option (Of Named)) → ℕ → RomtoolEntry → Type 0
IsListed (Ok a) error r = (error ≡ 0) × IsEntryOf a.0 r
IsListed (Err e) error r = (error ≡ error_number e) × IsNoEntry r

-- The number of an entry is that of a node of the tree, and the entry has the kind of that node.
abbrev pub HasKindIn : Node → RomtoolEntry → Type 0
HasKindIn t r =
    r.some ≡ 1 → IsSomeAnd (node_at t r.node) (λ x. r.kind ≡ kind_number (kind_of x))

-- the open file o moved to the outcome's position; after an error it did not move
abbrev pub Follows : {R : Type 0} → View Node → Open Node → OpenNode → OpenNode → Outcome R → Type 0
Follows v o old new (Ok a) = stands v new ≡ Some (moved o a.1)
Follows v o old new (Err e) = new.position ≡ old.position
