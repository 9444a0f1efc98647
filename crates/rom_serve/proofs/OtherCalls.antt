-- Calls on files of other images than one that is not mounted.
use Rattle.std.proofs.Common.{◌≡◌, ℕ, zero, suc, ◌<◌, Bool, true, false, List, [], ◌∷◌, Option, Some, None, Result, Ok}
use Rattle.std.proofs.Common.{Err, refl, ap, ◌∙◌, replicate}
use Rattle.std.specs.Prelude.{slice_set, slice_get, option_and_then, ◌||◌}
use Rattle.rom_tree.specs.Tree.{Node, ino_of, is_directory, is_regular, is_link}
use Rattle.rom_tree.specs.Image.{Image, stat_of}
use Rattle.path_walk.specs.declared.error.WalkError.{WalkError}
use Rattle.path_walk.specs.declared.mount.Mount.{Mount}
use Rattle.path_walk.specs.Resolution.{resolution}
use Rattle.path_walk.specs.Graft.{MountedNode, bytes_in, graft}
use Rattle.open_files.specs.Calls.{Answer, give, Calls}
use Rattle.open_files.specs.Machine.{Outcome, Open, Table, open_at, put, walked, after, opened, closed, open_free}
use Rattle.open_files.specs.Machine.{open_place, lowest_free, read_link, calls_over, fstat_on, read_on, lend_on, map_on}
use Rattle.open_files.specs.Machine.{seek_on, readdir_on, rewind_on}
use Rattle.open_files.specs.Sessions.{is_mounted}
use Rattle.serve_lines.specs.Texts.{descriptor_text, bytes_text}
use Rattle.serve_lines.specs.declared.word.PathCall.TheVariants as path_call
use Rattle.serve_lines.specs.declared.word.FdCall.TheVariants as fd_call
use Rattle.serve_lines.specs.Commands.{Call, on_path, on_fd, read, lend, seek, map_part, quit, mount, umount}
use Rattle.rom_serve.specs.Obeyed.{said, obeyed, of_node, of_stat, of_piece}
use Rattle.rom_serve.proofs.OtherImage.{Fine, bytes_other, leads_same, leads_fine}

-- what is open is of other images than i
abbrev pub IsOther : ℕ → Option (Open MountedNode) → Type 0
IsOther i None = Unit {0}
IsOther i (Some o) = Fine i o.place

abbrev pub AreOther : ℕ → Table MountedNode → Type 0
AreOther i [] = Unit {0}
AreOther i (o ∷ t) = IsOther i o × AreOther i t

pub none_other : (i n : ℕ) → AreOther i (replicate n None)
none_other i zero = tt
none_other i (suc n) = (tt, none_other i n)

set_other : (i : ℕ) (t : Table MountedNode) (fd : ℕ) (o : Option (Open MountedNode)) → AreOther i t → IsOther i o
    → AreOther i (slice_set t fd o)
set_other i [] fd o h k = tt
set_other i (p ∷ t) zero o h k = (k, h.1)
set_other i (p ∷ t) (suc fd) o h k = (h.0, set_other i t fd o h.1 k)

put_other : (i : ℕ) (t : Table MountedNode) (fd : ℕ) (o : Option (Open MountedNode)) → AreOther i t → IsOther i o
    → AreOther i (put t fd o)
unfolding put
put_other i t fd o h k = set_other i t fd o h k

get_other : (i : ℕ) (t : Table MountedNode) (fd : ℕ) → AreOther i t
    → IsOther i (option_and_then (λ o. o) (slice_get t fd))
get_other i [] fd h = tt
get_other i (p ∷ t) zero h = h.0
get_other i (p ∷ t) (suc fd) h = get_other i t fd h.1

at_other : (i : ℕ) (t : Table MountedNode) (fd : ℕ) → AreOther i t → IsOther i (open_at t fd)
unfolding open_at
at_other i t fd h = get_other i t fd h

module _ (i : ℕ) {R : Type 0} where
  -- calls that do the same at places of other images do the same
  walked_same : (t : Table MountedNode) (f g : MountedNode → Answer (Table MountedNode) R)
      → ((s : MountedNode) → Fine i s → f s ≡ g s)
      → (r : Result MountedNode WalkError) → ((s : MountedNode) → r ≡ Ok s → Fine i s) → walked t f r ≡ walked t g r
  walked_same t f g same (Err e) h = refl
  walked_same t f g same (Ok s) h = same s (h s refl)

  opened_same : (t : Table MountedNode) (fd : ℕ) (f g : MountedNode → ℕ → Outcome R)
      → ((s : MountedNode) (p : ℕ) → Fine i s → f s p ≡ g s p)
      → (o : Option (Open MountedNode)) → IsOther i o → opened t fd f o ≡ opened t fd g o
  opened_same t fd f g same None h = refl
  opened_same t fd f g same (Some o) h = ap (after t fd o.place) (same o.place o.position h)

  -- and leave only files of other images open
  walked_other : (t : Table MountedNode) (f : MountedNode → Answer (Table MountedNode) R) → AreOther i t
      → ((s : MountedNode) → Fine i s → AreOther i (f s).state)
      → (r : Result MountedNode WalkError) → ((s : MountedNode) → r ≡ Ok s → Fine i s) → AreOther i (walked t f r).state
  walked_other t f h k (Err e) fine = h
  walked_other t f h k (Ok s) fine = k s (fine s refl)

  after_other : (t : Table MountedNode) (fd : ℕ) (s : MountedNode) (a : Outcome R) → AreOther i t → Fine i s
      → AreOther i (after t fd s a).state
  after_other t fd s (Err e) h k = h
  after_other t fd s (Ok a) h k = put_other i t fd (Some (record { place = s; position = a.1 })) h k

  opened_other : (t : Table MountedNode) (fd : ℕ) (f : MountedNode → ℕ → Outcome R) (o : Option (Open MountedNode))
      → AreOther i t → IsOther i o
      → AreOther i (opened t fd f o).state
  opened_other t fd f None h k = h
  opened_other t fd f (Some o) h k = after_other t fd o.place (f o.place o.position) h k

closed_other : (i : ℕ) (t : Table MountedNode) (fd : ℕ) (o : Option (Open MountedNode)) → AreOther i t
    → AreOther i (closed t fd o).state
closed_other i t fd None h = h
closed_other i t fd (Some o) h = put_other i t fd None h tt

free_other : (i : ℕ) (t : Table MountedNode) (s : MountedNode) (o : Option ℕ) → AreOther i t → Fine i s
    → AreOther i (open_free t s o).state
free_other i t s None h k = h
free_other i t s (Some fd) h k = put_other i t fd (Some (record { place = s; position = 0 })) h k

place_other : (i : ℕ) (t : Table MountedNode) (s : MountedNode) (b : Bool) → AreOther i t → Fine i s
    → AreOther i (open_place t s b).state
place_other i t s true h k = free_other i t s (lowest_free t) h k
place_other i t s false h k = h

link_other : (i : ℕ) (n : Option ℕ) (b : List ℕ) (t : Table MountedNode) (x : Node) (l : Bool) → AreOther i t
    → AreOther i (read_link n b t x l).state
link_other i n b t x true h = h
link_other i n b t x false h = h

-- the calls on a table over several images
abbrev pub graft_calls : List Image → List Mount → Calls (Table MountedNode)
graft_calls ms us = calls_over 64 (graft ms us) (λ s. Some s.image)

module _ (i : ℕ) (m : Image) (ms : List Image) (us : List Mount) (some : 0 < i) (free : is_mounted i us ≡ false) where
  -- a path leads to the same place, and what is done there does not need the images
  at_path : {R : Type 0} (text : R → List ℕ) (t : Table MountedNode) (path : List ℕ) (follow : Bool)
      (f : MountedNode → Answer (Table MountedNode) R)
      → said text (walked t f (resolution (graft (slice_set ms i m) us) path follow))
      ≡ said text (walked t f (resolution (graft ms us) path follow))
  at_path text t path follow f = ap (λ r. said text (walked t f r)) (leads_same i m ms us some free path follow)

  pub obeyed_same : (t : Table MountedNode) (c : Call) → AreOther i t
      → obeyed (graft_calls (slice_set ms i m) us) t c ≡ obeyed (graft_calls ms us) t c
  obeyed_same t (on_path path_call.Lookup x) h = at_path of_node t x true (λ s. give (Some s.image, ino_of s.node) t)
  obeyed_same t (on_path path_call.Stat x) h = at_path of_stat t x true (λ s. give (Some s.image, stat_of s.node) t)
  obeyed_same t (on_path path_call.Lstat x) h = at_path of_stat t x false (λ s. give (Some s.image, stat_of s.node) t)
  obeyed_same t (on_path path_call.Readlink x) h =
      at_path of_piece t x false (λ s. read_link (Some s.image) (bytes_in (slice_set ms i m) s.image) t s.node
      (is_link s.node))
      ∙ ap (said of_piece) (walked_same i t
      (λ s. read_link (Some s.image) (bytes_in (slice_set ms i m) s.image) t s.node (is_link s.node))
      (λ s. read_link (Some s.image) (bytes_in ms s.image) t s.node (is_link s.node))
      (λ s k. ap (λ (b : List ℕ). read_link (Some s.image) b t s.node (is_link s.node)) (bytes_other ms i s.image m k))
      (resolution (graft ms us) x false) (leads_fine i m ms us some free x false))
  obeyed_same t (on_path path_call.Open x) h =
      at_path descriptor_text t x true (λ s. open_place t s (is_directory s.node || is_regular s.node))
  obeyed_same t (on_fd fd_call.Fstat fd) h = refl
  obeyed_same t (on_fd fd_call.Readdir fd) h = refl
  obeyed_same t (on_fd fd_call.Rewind fd) h = refl
  obeyed_same t (on_fd fd_call.Close fd) h = refl
  obeyed_same t (read fd n) h =
      ap (said bytes_text) (opened_same i t fd (λ s p. read_on (bytes_in (slice_set ms i m) s.image) n s.node p)
      (λ s p. read_on (bytes_in ms s.image) n s.node p)
      (λ s p k. ap (λ (b : List ℕ). read_on b n s.node p) (bytes_other ms i s.image m k)) (open_at t fd)
      (at_other i t fd h))
  obeyed_same t (lend fd n) h =
      ap (said of_piece) (opened_same i t fd
      (λ s p. lend_on (Some s.image) (bytes_in (slice_set ms i m) s.image) n s.node p)
      (λ s p. lend_on (Some s.image) (bytes_in ms s.image) n s.node p)
      (λ s p k. ap (λ (b : List ℕ). lend_on (Some s.image) b n s.node p) (bytes_other ms i s.image m k)) (open_at t fd)
      (at_other i t fd h))
  obeyed_same t (seek fd n) h = refl
  obeyed_same t (map_part fd off n) h =
      ap (said of_piece) (opened_same i t fd
      (λ s p. map_on (Some s.image) (bytes_in (slice_set ms i m) s.image) off n s.node p)
      (λ s p. map_on (Some s.image) (bytes_in ms s.image) off n s.node p)
      (λ s p k. ap (λ (b : List ℕ). map_on (Some s.image) b off n s.node p) (bytes_other ms i s.image m k))
      (open_at t fd) (at_other i t fd h))
  obeyed_same t quit h = refl
  obeyed_same t (mount j x) h = refl
  obeyed_same t (umount j) h = refl

  pub obeyed_other : (t : Table MountedNode) (c : Call) → AreOther i t
      → AreOther i (obeyed (graft_calls ms us) t c).state
  obeyed_other t (on_path path_call.Lookup x) h =
      walked_other i t (λ s. give (Some s.image, ino_of s.node) t) h (λ s k. h) (resolution (graft ms us) x true)
      (leads_fine i m ms us some free x true)
  obeyed_other t (on_path path_call.Stat x) h =
      walked_other i t (λ s. give (Some s.image, stat_of s.node) t) h (λ s k. h) (resolution (graft ms us) x true)
      (leads_fine i m ms us some free x true)
  obeyed_other t (on_path path_call.Lstat x) h =
      walked_other i t (λ s. give (Some s.image, stat_of s.node) t) h (λ s k. h) (resolution (graft ms us) x false)
      (leads_fine i m ms us some free x false)
  obeyed_other t (on_path path_call.Readlink x) h =
      walked_other i t (λ s. read_link (Some s.image) (bytes_in ms s.image) t s.node (is_link s.node)) h
      (λ s k. link_other i (Some s.image) (bytes_in ms s.image) t s.node (is_link s.node) h)
      (resolution (graft ms us) x false) (leads_fine i m ms us some free x false)
  obeyed_other t (on_path path_call.Open x) h =
      walked_other i t (λ s. open_place t s (is_directory s.node || is_regular s.node)) h
      (λ s k. place_other i t s (is_directory s.node || is_regular s.node) h k) (resolution (graft ms us) x true)
      (leads_fine i m ms us some free x true)
  obeyed_other t (on_fd fd_call.Fstat fd) h =
      opened_other i t fd (λ s p. fstat_on (Some s.image) s.node p) (open_at t fd) h (at_other i t fd h)
  obeyed_other t (on_fd fd_call.Readdir fd) h =
      opened_other i t fd (λ s p. readdir_on (Some s.image) s.node p) (open_at t fd) h (at_other i t fd h)
  obeyed_other t (on_fd fd_call.Rewind fd) h =
      opened_other i t fd (λ s p. rewind_on s.node p) (open_at t fd) h (at_other i t fd h)
  obeyed_other t (on_fd fd_call.Close fd) h = closed_other i t fd (open_at t fd) h
  obeyed_other t (read fd n) h =
      opened_other i t fd (λ s p. read_on (bytes_in ms s.image) n s.node p) (open_at t fd) h (at_other i t fd h)
  obeyed_other t (lend fd n) h = opened_other i t fd (λ s p. lend_on (Some s.image) (bytes_in ms s.image) n s.node p)
      (open_at t fd) h (at_other i t fd h)
  obeyed_other t (seek fd n) h = opened_other i t fd (λ s p. seek_on n s.node p) (open_at t fd) h (at_other i t fd h)
  obeyed_other t (map_part fd off n) h =
      opened_other i t fd (λ s p. map_on (Some s.image) (bytes_in ms s.image) off n s.node p) (open_at t fd) h
      (at_other i t fd h)
  obeyed_other t quit h = none_other i 64
  obeyed_other t (mount j x) h = h
  obeyed_other t (umount j) h = h
