-- `IsOpen`: something is open. `file_in`: the meaning of a file that C holds. `IsOpenedBy`: the
-- file or directory to which a path leads is open at its start. `MovesTo`: the position after a
-- call. (This project's own.)
use Rattle.std.specs.Prelude.{◌≡◌, ℕ, Bool, true, false, ◌||◌, Option, IsSomeAnd, Result, Ok, Err}
use Rattle.rom_tree.specs.Tree.{Node, ino_of, is_directory, is_regular}
use Rattle.path_walk.specs.declared.error.WalkError.{WalkError}
use Rattle.path_walk.specs.Errors.{error_number as walk_number}
use Rattle.open_files.specs.Machine.{Open, Outcome}
use Rattle.image_check.specs.declared.any.Parts.{Parts}
use Rattle.rom_c.specs.declared.image.RomtoolImage.{RomtoolImage}
use Rattle.rom_c.specs.declared.file.RomtoolFile.{RomtoolFile}
use Rattle.rom_c.specs.Held.{parts_of}
use Rattle.rom_c.specs.Opened.{stands_in}

abbrev pub parts_in : RomtoolImage → Parts
parts_in i = parts_of i.format i.accessible i.root i.references i.depth

-- something is open
abbrev pub IsOpen : RomtoolFile → Type 0
IsOpen f = (f.image.status ≡ 1) × (f.error ≡ 0)

-- the meaning in the tree t of a file that C holds, at a position: the node of its number, at a
-- byte or at the index of an entry
abbrev pub file_at : Node → RomtoolFile → ℕ → Option (Open Node)
file_at t f position = stands_in t f.image.bytes.now (parts_in f.image) f.node position

abbrev pub file_in : Node → RomtoolFile → Option (Open Node)
file_in t f = file_at t f f.position

-- nothing is open, for an error
abbrev pub IsNoFile : ℕ → RomtoolFile → Type 0
IsNoFile e f = (f.error ≡ e) × (f.node ≡ 0) × (f.position ≡ 0)

-- the directory or regular file x is open at its start; for any other file the error is 8 ENXIO
abbrev pub IsOpenAt : Node → Node → RomtoolFile → Bool → Type 0
IsOpenAt t x f true =
    (f.error ≡ 0) × (f.node ≡ ino_of x) × (f.position ≡ 0)
    × IsSomeAnd (file_in t f) (λ o. o.position ≡ 0)
IsOpenAt t x f false = IsNoFile 8 f

-- the file or directory to which a path leads is open, or the error
abbrev pub IsOpenedBy : Node → Result Node WalkError → RomtoolFile → Type 0
IsOpenedBy t (Ok x) f = IsOpenAt t x f (is_directory x || is_regular x)
IsOpenedBy t (Err e) f = IsNoFile (walk_number e) f

-- After a call, p is the file's position: the one of the outcome, or the old one after an error.
abbrev pub MovesTo : {R : Type 0} → Node → RomtoolFile → ℕ → Outcome R → Type 0
MovesTo t f p (Ok a) = IsSomeAnd (file_at t f p) (λ o. o.position ≡ a.1)
MovesTo t f p (Err e) = p ≡ f.position
