-- The machine of open files: each call on one open node, on a table of what is open, and by a path,
-- with its refusals in their order. `image_calls`: the calls on one image. `no_files`: nothing is
-- open. (After POSIX.1-2017, open(), read(), lseek(), fstat(), stat(), readlink(), readdir(),
-- rewinddir() and close(). `lend` and `map` are this project's own.)
use Rattle.std.specs.Prelude.{ℕ, ◌+◌, ◌==◌, nat_lt, Bool, true, false, ◌||◌, List, length}
use Rattle.std.specs.Prelude.{slice_get, slice_set, take, drop, Option, Some, None, is_none}
use Rattle.std.specs.Prelude.{position, replicate, option_and_then, Result, Ok, Err, if◌then◌else◌}
use Rattle.rom_tree.specs.declared.types.Stat.{Stat}
use Rattle.rom_tree.specs.Tree.{Node, ino_of, places_of, entries_of, entry_at, is_directory}
use Rattle.rom_tree.specs.Tree.{is_regular, is_link}
use Rattle.rom_tree.specs.Image.{Image, stat_of}
use Rattle.path_walk.specs.declared.error.WalkError.{WalkError}
use Rattle.path_walk.specs.Resolution.{Namespace, resolution, tree_namespace}
use Rattle.open_files.specs.declared.error.CallError.{CallError}
use Rattle.open_files.specs.declared.error.CallError.TheVariants.{Enotdir, Einval, Ebadf, Eisdir}
use Rattle.open_files.specs.declared.error.CallError.TheVariants.{Enxio, Emfile, Erange, Enodev}
use Rattle.open_files.specs.Errors.{error_of}
use Rattle.open_files.specs.Calls.{Answer, refuse, give, Of, Lent, Named, Calls}
use Rattle.open_files.specs.Lending.{consecutive, bytes_of, lent, next_places}

-- Calls on one open node. A position is the number of a byte of a file, or an index in a
-- directory's list.

-- a refusal, or a reply and the position after it
abbrev pub Outcome : Type 0 → Type 0
Outcome R = Result (R × ℕ) CallError

abbrev pub file_only : {R : Type 0} → Bool → Outcome R → Outcome R
file_only is_directory a = if is_directory then Err Eisdir else a

abbrev pub directory_only : {R : Type 0} → Bool → Outcome R → Outcome R
directory_only is_directory a = if is_directory then a else Err Enotdir

-- i is the number of the node's image if several are served, b its bytes, x the node, and p the
-- position
abbrev pub fstat_on : Option ℕ → Node → ℕ → Outcome (Of Stat)
fstat_on i x p = Ok ((i, stat_of x), p)

abbrev pub seek_on : ℕ → Node → ℕ → Outcome (Unit {0})
seek_on q x p = file_only (is_directory x) (Ok (tt, q))

abbrev pub rewind_on : Node → ℕ → Outcome (Unit {0})
rewind_on x p = directory_only (is_directory x) (Ok (tt, 0))

-- the next n bytes, or those that are left
abbrev pub read_on : List ℕ → ℕ → Node → ℕ → Outcome (List ℕ)
read_on b n x p =
    file_only (is_directory x) (Ok (bytes_of b (next_places x p n), p + length (next_places x p n)))

-- as many of these as follow one another in the image
abbrev pub lend_on : Option ℕ → List ℕ → ℕ → Node → ℕ → Outcome (Of Lent)
lend_on i b n x p =
    file_only (is_directory x)
    (Ok (
      (i, lent b (consecutive (next_places x p n))),
      p + length (consecutive (next_places x p n)),
    ))

-- exactly `len` bytes from byte `off` on
abbrev pub map_places : Option ℕ → List ℕ → ℕ → List ℕ → ℕ → Outcome (Of Lent)
map_places i b p ps len =
    if length (consecutive ps) == len then Ok ((i, lent b ps), p) else Err Erange

abbrev pub map_within : Option ℕ → List ℕ → ℕ → List ℕ → ℕ → ℕ → Outcome (Of Lent)
map_within i b p ps off len =
    if len == 0 then Err Einval
    else if nat_lt (length ps) (off + len) then Err Einval
    else map_places i b p (take len (drop off ps)) len

abbrev pub map_on : Option ℕ → List ℕ → ℕ → ℕ → Node → ℕ → Outcome (Of Lent)
map_on i b off len x p = file_only (is_directory x) (map_within i b p (places_of x) off len)

abbrev pub named : List ℕ → ℕ → Named
named name n = record { name = name; node = n }

abbrev pub next_entry : Option ℕ → ℕ → Option (List ℕ × Node) → Outcome (Option (Of Named))
next_entry i p None = Ok (None, p)
next_entry i p (Some e) = Ok (Some (i, named e.0 (ino_of e.1)), p + 1)

abbrev pub readdir_on : Option ℕ → Node → ℕ → Outcome (Option (Of Named))
readdir_on i x p = directory_only (is_directory x) (next_entry i p (entry_at (entries_of x) p))

-- Tables. F are the places to which names lead.

pub record Open (F : Type 0) : Type 0 where
  pub place : F
  pub position : ℕ

abbrev pub Table : Type 0 → Type 0
Table F = List (Option (Open F))

module _ {F : Type 0} where
  -- what is open at a number
  unfoldable pub open_at : Table F → ℕ → Option (Open F)
  open_at t i = option_and_then (λ o. o) (slice_get t i)

  -- the lowest number at which nothing is open
  unfoldable pub lowest_free : Table F → Option ℕ
  lowest_free t = position is_none t

  -- the table with o at number i
  unfoldable pub put : Table F → ℕ → Option (Open F) → Table F
  put t i o = slice_set t i o

  -- a call by a path: the refusal of the walk, or the answer for the place to which the path leads
  abbrev pub walked : {R : Type 0} → Table F → (F → Answer (Table F) R) → Result F WalkError
      → Answer (Table F) R
  walked t f (Err e) = refuse (error_of e) t
  walked t f (Ok x) = f x

  -- a call on a descriptor: what is open there gets the position of the outcome
  abbrev pub after : {R : Type 0} → Table F → ℕ → F → Outcome R → Answer (Table F) R
  after t fd x (Err e) = refuse e t
  after t fd x (Ok a) = give a.0 (put t fd (Some (record { place = x; position = a.1 })))

  abbrev pub opened : {R : Type 0} → Table F → ℕ → (F → ℕ → Outcome R) → Option (Open F)
      → Answer (Table F) R
  opened t fd f None = refuse Ebadf t
  opened t fd f (Some o) = after t fd o.place (f o.place o.position)

  abbrev pub on_open : {R : Type 0} → (F → ℕ → Outcome R) → Table F → ℕ → Answer (Table F) R
  on_open f t fd = opened t fd f (open_at t fd)

  abbrev pub closed : Table F → ℕ → Option (Open F) → Answer (Table F) (Unit {0})
  closed t fd None = refuse Ebadf t
  closed t fd (Some o) = give tt (put t fd None)

  abbrev pub open_free : Table F → F → Option ℕ → Answer (Table F) ℕ
  open_free t x None = refuse Emfile t
  open_free t x (Some i) = give i (put t i (Some (record { place = x; position = 0 })))

  abbrev pub open_place : Table F → F → Bool → Answer (Table F) ℕ
  open_place t x is_openable = if is_openable then open_free t x (lowest_free t) else refuse Enxio t

  abbrev pub read_link : Option ℕ → List ℕ → Table F → Node → Bool → Answer (Table F) (Of Lent)
  read_link i b t x is_link = if is_link then give (i, lent b (places_of x)) t else refuse Einval t

  -- n descriptors, none of them open
  abbrev pub no_files : ℕ → Table F
  no_files n = replicate n None

  -- The calls on a table of n numbers, over the names of g. `number` is that of a place's image if
  -- several are served. A table has no mounts.
  abbrev pub calls_over : ℕ → Namespace F → (F → Option ℕ) → Calls (Table F)
  calls_over n g number = record {
    lookup =
        λ t path. walked t (λ x. give (number x, ino_of (g.node x)) t) (resolution g path true);
    stat = λ t path. walked t (λ x. give (number x, stat_of (g.node x)) t) (resolution g path true);
    lstat = λ t path. walked t (λ x. give (number x, stat_of (g.node x)) t)
        (resolution g path false);
    readlink = λ t path.
        walked t (λ x. read_link (number x) (g.bytes x) t (g.node x) (is_link (g.node x)))
        (resolution g path false);
    open_path = λ t path.
        walked t (λ x. open_place t x (is_directory (g.node x) || is_regular (g.node x)))
        (resolution g path true);
    fstat = λ t fd. on_open (λ x p. fstat_on (number x) (g.node x) p) t fd;
    read_bytes = λ t fd len. on_open (λ x p. read_on (g.bytes x) len (g.node x) p) t fd;
    lend_piece = λ t fd max. on_open (λ x p. lend_on (number x) (g.bytes x) max (g.node x) p) t fd;
    map_piece =
        λ t fd off len. on_open (λ x p. map_on (number x) (g.bytes x) off len (g.node x) p) t fd;
    seek_to = λ t fd q. on_open (λ x p. seek_on q (g.node x) p) t fd;
    readdir = λ t fd. on_open (λ x p. readdir_on (number x) (g.node x) p) t fd;
    rewind = λ t fd. on_open (λ x p. rewind_on (g.node x) p) t fd;
    close = λ t fd. closed t fd (open_at t fd);
    close_all = λ t. give tt (no_files n);
    mount_at = λ t i path. refuse Enodev t;
    unmount = λ t i. refuse Enodev t;
  }

-- the calls on one image
abbrev pub image_calls : ℕ → Image → Calls (Table Node)
image_calls n m = calls_over n (tree_namespace m.bytes m.tree) (λ x. None)
