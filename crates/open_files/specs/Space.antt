-- `space_state`: the state that mounts and the slots of sessions mean. (This project's own.)
use Rattle.std.specs.Prelude.{ℕ, zero, suc, Bool, true, ◌&&◌, List, [], ◌∷◌, Option, None}
use Rattle.std.specs.Prelude.{replicate}
use Rattle.rom_tree.specs.Image.{Image}
use Rattle.path_walk.specs.declared.mount.Mount.{Mount}
use Rattle.path_walk.specs.Graft.{MountedNode}
use Rattle.open_files.specs.declared.slot.OpenNode.{OpenNode}
use Rattle.open_files.specs.Machine.{Table}
use Rattle.open_files.specs.Slots.{graft_view, are_sound, table_of}
use Rattle.open_files.specs.Sessions.{Sessions}

-- the n slots of a session; if there is no such session, nothing is open
abbrev pub slots_at : ℕ → List (List (Option OpenNode)) → ℕ → List (Option OpenNode)
slots_at n [] k = replicate n None
slots_at n (t ∷ ts) zero = t
slots_at n (t ∷ ts) (suc k) = slots_at n ts k

unfoldable pub all_sound : List Image → List Mount → List (List (Option OpenNode)) → Bool
all_sound ms us [] = true
all_sound ms us (t ∷ ts) = are_sound (graft_view ms us) t && all_sound ms us ts

-- the mounts, and the table of each session
abbrev pub space_state : ℕ → List Image → List Mount → List (List (Option OpenNode))
    → Sessions (List Mount) (Table MountedNode)
space_state n ms us ts =
    record { shared = us; own = λ k. table_of (graft_view ms us) (slots_at n ts k) }
