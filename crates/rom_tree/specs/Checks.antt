-- `Refuses`: the check of an image answers a fault only if there is no tree. (This project's own.)
use Rattle.rom_tree.specs.Tree.{Node}
use Rattle.rom_fields.specs.declared.check_error.CheckError.{CheckError}
use Rattle.rom_fields.specs.declared.check_error.CheckError.TheVariants.{OutOfMemory, Fault}

-- a fault is answered only if there is no tree
abbrev pub Refuses : (Node → Type 0) → CheckError → Type 0
Refuses Tree OutOfMemory = Unit {0}
Refuses Tree (Fault number at) = (t : Node) → Tree t → ⊥
