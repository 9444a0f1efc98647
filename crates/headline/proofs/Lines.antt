-- What is open after some lines is of the image's tree.
use Rattle.std.proofs.Common.{ℕ, Bool, true, false, List, [], ◌∷◌, None, ◌||◌, refl}
use Rattle.rom_tree.specs.Image.{Image, stat_of}
use Rattle.rom_tree.specs.Tree.{Node, ino_of, is_directory, is_regular, is_link}
use Rattle.path_walk.specs.Resolution.{tree_namespace, resolution}
use Rattle.open_files.specs.Calls.{give}
use Rattle.open_files.specs.Machine.{Table, Outcome, opened, open_place, image_calls, fstat_on, read_on, lend_on}
use Rattle.open_files.specs.Machine.{map_on, seek_on, readdir_on, rewind_on, open_at, no_files, lowest_free, read_link}
use Rattle.serve_lines.specs.declared.word.PathCall.TheVariants as path_call
use Rattle.serve_lines.specs.declared.word.FdCall.TheVariants as fd_call
use Rattle.serve_lines.specs.Commands.{Call, on_path, on_fd, read, lend, seek, map_part, quit, mount, umount, Line}
use Rattle.serve_lines.specs.Commands.{asks, is_bad, line_of}
use Rattle.rom_serve.specs.Obeyed.{obeyed, answered}
use Rattle.headline.specs.Lent.{open_from, open_after}
use Rattle.headline.proofs.Opened.{AreOf, none_open, opened_of, closed_of, place_of, walked_of, leads_inside}

module _ (m : Image) where
  link_of : (t : Table Node) (x : Node) (v : Bool) → AreOf m t → AreOf m (read_link None m.bytes t x v).state
  link_of t x true h = h
  link_of t x false h = h

  fd_of : {R : Type 0} (t : Table Node) (fd : ℕ) (f : Node → ℕ → Outcome R) → AreOf m t
      → AreOf m (opened t fd f (open_at t fd)).state
  fd_of t fd f h = opened_of m t fd f (open_at t fd) refl h

  call_of : (t : Table Node) (c : Call) → AreOf m t → AreOf m (obeyed (image_calls 64 m) t c).state
  call_of t (on_path path_call.Lookup p) h =
      walked_of m t (λ x. give (None, ino_of x) t) (resolution (tree_namespace m.bytes m.tree) p true) h (λ x e. h)
  call_of t (on_path path_call.Stat p) h =
      walked_of m t (λ x. give (None, stat_of x) t) (resolution (tree_namespace m.bytes m.tree) p true) h (λ x e. h)
  call_of t (on_path path_call.Lstat p) h =
      walked_of m t (λ x. give (None, stat_of x) t) (resolution (tree_namespace m.bytes m.tree) p false) h (λ x e. h)
  call_of t (on_path path_call.Readlink p) h =
      walked_of m t (λ x. read_link None m.bytes t x (is_link x)) (resolution (tree_namespace m.bytes m.tree) p false) h
      (λ x e. link_of t x (is_link x) h)
  call_of t (on_path path_call.Open p) h =
      walked_of m t (λ x. open_place t x (is_directory x || is_regular x))
      (resolution (tree_namespace m.bytes m.tree) p true) h
      (λ x e. place_of m t x (lowest_free t) (is_directory x || is_regular x) h (leads_inside m p true x e))
  call_of t (on_fd fd_call.Fstat fd) h = fd_of t fd (λ x p. fstat_on None x p) h
  call_of t (on_fd fd_call.Readdir fd) h = fd_of t fd (λ x p. readdir_on None x p) h
  call_of t (on_fd fd_call.Rewind fd) h = fd_of t fd (λ x p. rewind_on x p) h
  call_of t (on_fd fd_call.Close fd) h = closed_of m t fd (open_at t fd) h
  call_of t (read fd len) h = fd_of t fd (λ x p. read_on m.bytes len x p) h
  call_of t (lend fd len) h = fd_of t fd (λ x p. lend_on None m.bytes len x p) h
  call_of t (seek fd q) h = fd_of t fd (λ x p. seek_on q x p) h
  call_of t (map_part fd off len) h = fd_of t fd (λ x p. map_on None m.bytes off len x p) h
  call_of t quit h = none_open m 64
  call_of t (mount i p) h = h
  call_of t (umount i) h = h

  line_is_of : (t : Table Node) (l : Line) → AreOf m t → AreOf m (answered (image_calls 64 m) t l).state
  line_is_of t (asks c) h = call_of t c h
  line_is_of t (is_bad b) h = h

  lines_of : (t : Table Node) (lines : List (List ℕ)) → AreOf m t → AreOf m (open_from m t lines)
  lines_of t [] h = h
  lines_of t (line ∷ lines) h =
      lines_of (answered (image_calls 64 m) t (line_of false line)).state lines (line_is_of t (line_of false line) h)

  pub after_lines : (lines : List (List ℕ)) → AreOf m (open_after m lines)
  after_lines lines = lines_of (no_files 64) lines (none_open m 64)
