-- `space_lines`: the machine of lines of the sessions over several images, and which parts of its
-- state are shared and which are each session's own. `NeverMounts`: no line of an input mounts an
-- image. (This project's own.)
use Rattle.std.specs.Prelude.{◌≡◌, ℕ, ◌==◌, Bool, true, false, List, drop, Option, Some, None}
use Rattle.rom_tree.specs.Image.{Image}
use Rattle.path_walk.specs.declared.mount.Mount.{Mount}
use Rattle.path_walk.specs.Graft.{MountedNode}
use Rattle.open_files.specs.Machine.{Table}
use Rattle.open_files.specs.Sessions.{Sessions, Parts, session_calls, graft_parts}
use Rattle.serve_lines.specs.Commands.{Call, mount, umount, Line, asks, is_bad, line_of}
use Rattle.serve_lines.specs.Served.{lines_of}
use Rattle.serve_lines.specs.Views.{SessionMachine, AllFine}
use Rattle.rom_serve.specs.Machines.{lines_among, session_of}

-- `mount` and `umount` may change the shared part
abbrev pub is_mount_call : Call → Bool
is_mount_call (mount i path) = true
is_mount_call (umount i) = true
is_mount_call _ = false

abbrev pub is_mount : Line → Bool
is_mount (asks c) = is_mount_call c
is_mount (is_bad b) = false

abbrev pub is_mount_of : List ℕ → Option ℕ → Bool
is_mount_of line None = false
is_mount_of line (Some k) = is_mount (line_of true (drop 2 line))

-- sessions that share something
abbrev pub session_lines : {Shared Own : Type 0} → Parts Shared Own
    → SessionMachine (Sessions Shared Own) Shared Own
session_lines p = record {
  machine = lines_among (session_calls p);
  session = session_of;
  is_shared = λ line. is_mount_of line (session_of line);
  shared_of = λ s. s.shared;
  own_of = λ s k. s.own k;
}

-- those over several images, which share the mounts
abbrev pub space_lines : List Image
    → SessionMachine (Sessions (List Mount) (Table MountedNode)) (List Mount) (Table MountedNode)
space_lines ms = session_lines (graft_parts 64 ms)

-- `mount` of image i
abbrev pub mounts_call : ℕ → Call → Bool
mounts_call i (mount j path) = j == i
mounts_call i _ = false

abbrev pub mounts : ℕ → Line → Bool
mounts i (asks c) = mounts_call i c
mounts i (is_bad b) = false

abbrev pub mounts_of : ℕ → List ℕ → Option ℕ → Bool
mounts_of i line None = false
mounts_of i line (Some k) = mounts i (line_of true (drop 2 line))

-- no line of the input x is a `mount` of image i
abbrev pub NeverMounts : ℕ → List ℕ → Type 0
NeverMounts i x = AllFine (λ line. mounts_of i line (session_of line) ≡ false) (lines_of x)
