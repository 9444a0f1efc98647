-- `mounting`, `unmounting`: the mounts after a change. `session_calls`: the calls of one session,
-- over its own state and the state that all sessions share. `space_calls`: the calls on several
-- images. `no_sessions`: nothing is mounted or open. (This project's own, after Linux's mount(2)
-- and umount(2).)
use Rattle.std.specs.Prelude.{ℕ, ◌==◌, nat_lt, Bool, true, false, ◌||◌, not, List, [], ◌∷◌, ◌++◌}
use Rattle.std.specs.Prelude.{length, Some, Result, Ok, Err, if◌then◌else◌}
use Rattle.rom_tree.specs.Tree.{ino_of, is_directory}
use Rattle.rom_tree.specs.Image.{Image}
use Rattle.path_walk.specs.declared.error.WalkError.{WalkError}
use Rattle.path_walk.specs.declared.mount.Mount.{Mount}
use Rattle.path_walk.specs.Resolution.{resolution}
use Rattle.path_walk.specs.Graft.{MountedNode, graft, tree_in}
use Rattle.open_files.specs.declared.error.CallError.TheVariants.{Enotdir, Einval, Enodev, Ebusy}
use Rattle.open_files.specs.Errors.{error_of}
use Rattle.open_files.specs.Calls.{Answer, answer, refuse, give, Calls}
use Rattle.open_files.specs.Machine.{Table, calls_over, no_files}

-- Mounting. The mounts are in the order in which they were made.

abbrev pub is_mounted : ℕ → List Mount → Bool
is_mounted i [] = false
is_mounted i (u ∷ us) = (u.image == i) || is_mounted i us

-- another image is mounted in it
abbrev pub has_mount : ℕ → List Mount → Bool
has_mount i [] = false
has_mount i (u ∷ us) = (u.on == i) || has_mount i us

abbrev pub without : ℕ → List Mount → List Mount
without i [] = []
without i (u ∷ us) = if u.image == i then us else u ∷ without i us

abbrev pub mount_over : List Mount → ℕ → MountedNode → Bool → Bool → Answer (List Mount) (Unit {0})
mount_over us i s is_directory is_root =
    if not is_directory then refuse Enotdir us
    else if is_root then refuse Ebusy us
    else give tt (us ++ (record { image = i; on = s.image; dir = record { 0 = ino_of s.node } })
    ∷ [])

abbrev pub mount_at_place : List Image → List Mount → ℕ → Result MountedNode WalkError
    → Answer (List Mount) (Unit {0})
mount_at_place ms us i (Err e) = refuse (error_of e) us
mount_at_place ms us i (Ok s) =
    mount_over us i s (is_directory s.node) (ino_of s.node == ino_of (tree_in ms s.image))

-- the mount of an image on the directory to which a path leads, which is not the root of an image
abbrev pub mounting : List Image → List Mount → ℕ → List ℕ → Answer (List Mount) (Unit {0})
mounting ms us i path =
    if not (nat_lt i (length ms)) then refuse Enodev us
    else if (i == 0) || is_mounted i us then refuse Ebusy us
    else mount_at_place ms us i (resolution (graft ms us) path true)

-- an image is unmounted, unless another image is mounted in it
abbrev pub unmounting : List Image → List Mount → ℕ → Answer (List Mount) (Unit {0})
unmounting ms us i =
    if not (nat_lt i (length ms)) then refuse Enodev us
    else if not (is_mounted i us) then refuse Einval us
    else if has_mount i us then refuse Ebusy us
    else give tt (without i us)

-- Sessions.

-- the state that all sessions share, and the state of each session
pub record Sessions (Shared Own : Type 0) : Type 0 where
  pub shared : Shared
  pub own : ℕ → Own

-- the calls of a session on its own state while the shared state does not change, and those that
-- change the shared state
pub record Parts (Shared Own : Type 0) : Type 0 where
  pub over : Shared → Calls Own
  pub mounted : Shared → ℕ → List ℕ → Answer Shared (Unit {0})
  pub unmounted : Shared → ℕ → Answer Shared (Unit {0})

module _ {Shared Own : Type 0} where
  abbrev pub with_own : Sessions Shared Own → ℕ → Own → Sessions Shared Own
  with_own s k o = record { shared = s.shared; own = λ j. if j == k then o else s.own j }

  abbrev pub with_shared : Sessions Shared Own → Shared → Sessions Shared Own
  with_shared s u = record { shared = u; own = s.own }

  abbrev pub own_answer : {R : Type 0} → Sessions Shared Own → ℕ → Answer Own R
      → Answer (Sessions Shared Own) R
  own_answer s k a = answer a.reply (with_own s k a.state)

  abbrev pub shared_answer : {R : Type 0} → Sessions Shared Own → Answer Shared R
      → Answer (Sessions Shared Own) R
  shared_answer s a = answer a.reply (with_shared s a.state)

  -- the calls of session k
  abbrev pub session_calls : Parts Shared Own → ℕ → Calls (Sessions Shared Own)
  session_calls p k = record {
    lookup = λ s path. own_answer s k ((p.over s.shared).lookup (s.own k) path);
    stat = λ s path. own_answer s k ((p.over s.shared).stat (s.own k) path);
    lstat = λ s path. own_answer s k ((p.over s.shared).lstat (s.own k) path);
    readlink = λ s path. own_answer s k ((p.over s.shared).readlink (s.own k) path);
    open_path = λ s path. own_answer s k ((p.over s.shared).open_path (s.own k) path);
    fstat = λ s fd. own_answer s k ((p.over s.shared).fstat (s.own k) fd);
    read_bytes = λ s fd n. own_answer s k ((p.over s.shared).read_bytes (s.own k) fd n);
    lend_piece = λ s fd n. own_answer s k ((p.over s.shared).lend_piece (s.own k) fd n);
    map_piece = λ s fd off len. own_answer s k ((p.over s.shared).map_piece (s.own k) fd off len);
    seek_to = λ s fd q. own_answer s k ((p.over s.shared).seek_to (s.own k) fd q);
    readdir = λ s fd. own_answer s k ((p.over s.shared).readdir (s.own k) fd);
    rewind = λ s fd. own_answer s k ((p.over s.shared).rewind (s.own k) fd);
    close = λ s fd. own_answer s k ((p.over s.shared).close (s.own k) fd);
    close_all = λ s. own_answer s k ((p.over s.shared).close_all (s.own k));
    mount_at = λ s i path. shared_answer s (p.mounted s.shared i path);
    unmount = λ s i. shared_answer s (p.unmounted s.shared i);
  }

-- several images: the mounts are shared, and each session has a table of n numbers
abbrev pub graft_parts : ℕ → List Image → Parts (List Mount) (Table MountedNode)
graft_parts n ms = record {
  over = λ us. calls_over n (graft ms us) (λ s. Some s.image);
  mounted = λ us i path. mounting ms us i path;
  unmounted = λ us i. unmounting ms us i;
}

abbrev pub space_calls : ℕ → List Image → ℕ → Calls (Sessions (List Mount) (Table MountedNode))
space_calls n ms k = session_calls (graft_parts n ms) k

-- nothing is mounted, and no session has anything open
abbrev pub no_sessions : ℕ → Sessions (List Mount) (Table MountedNode)
no_sessions n = record { shared = []; own = λ k. no_files n }
