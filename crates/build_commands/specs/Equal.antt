-- Regular files with equal contents, which share them in an image: each later one becomes a further
-- name of the first. `compared`: of which files the digest decides it. `shared_all`: what becomes
-- of the files. `further`: which of them become further names. (This project's own.)
use Rattle.std.specs.Prelude.{ℕ, ◌+◌, ◌==◌, ◌&&◌, nat_lt, Bool, false, true, if◌then◌else◌}
use Rattle.std.specs.Prelude.{List, [], ◌∷◌, filter, length, map, slice_get}
use Rattle.std.specs.Prelude.{Option, Some, None}
use Rattle.std.specs.Str.{bytes_eq}
use Rattle.build_commands.specs.declared.equal.Shape.{Shape}
use Rattle.build_commands.specs.declared.inventory.FileKind.{FileKind}
use Rattle.build_commands.specs.declared.inventory.FileKind.TheVariants as kind
use Rattle.build_commands.specs.declared.inventory.NamedFile.{NamedFile}

-- what g makes of each element of a list and of the one at its index in another list, or of y if
-- there is none
abbrev pub zipped : {X Y Z : Type 0} → (X → Y → Z) → Y → List X → List Y → List Z
zipped g y [] ys = []
zipped g y (x ∷ xs) [] = g x y ∷ zipped g y xs []
zipped g y (x ∷ xs) (z ∷ ys) = g x z ∷ zipped g y xs ys

-- ---- what files have to agree in

abbrev pub is_regular : FileKind → Bool
is_regular kind.Regular = true
is_regular _ = false

-- The shape of a file with this number of bytes, if it can share its contents: it is regular, and
-- it has bytes, but not more than a file in a cramfs image can have (fewer than 2^24).
abbrev pub shape_of : NamedFile → ℕ → Option Shape
shape_of f len =
    if is_regular f.kind && (nat_lt 0 len && nat_lt len 16777216)
    then Some (record { len = len; mode = f.mode; uid = f.uid; gid = f.gid })
    else None

-- a shape with a digest, if both are there
abbrev pub with_digest : Option Shape → Option (List ℕ) → Option (Shape × List ℕ)
with_digest None digest = None
with_digest (Some shape) None = None
with_digest (Some shape) (Some digest) = Some (shape, digest)

-- the shapes of files, and these with their digests, by the indices of the files
abbrev pub shapes : List NamedFile → List ℕ → List (Option Shape)
shapes fs lens = zipped shape_of 0 fs lens

abbrev pub contents : List (Option Shape) → List (Option (List ℕ)) → List (Option (Shape × List ℕ))
contents all digests = zipped with_digest None all digests

abbrev pub same_shape : Shape → Shape → Bool
same_shape s t =
    (s.len == t.len) && ((s.mode == t.mode) && ((s.uid == t.uid) && (s.gid == t.gid)))

abbrev pub same_contents : Shape × List ℕ → Shape × List ℕ → Bool
same_contents x y = same_shape x.0 y.0 && bytes_eq x.1 y.1

-- ---- equal keys: shapes, or these with digests

-- whether a key is there, and is the same as k
abbrev pub is_key : {K : Type 0} → (K → K → Bool) → K → Option K → Bool
is_key same k None = false
is_key same k (Some l) = same k l

-- how many keys are the same as k
abbrev pub count : {K : Type 0} → (K → K → Bool) → K → List (Option K) → ℕ
count same k keys = length (filter (is_key same k) keys)

-- the index of the first of them
abbrev pub first_index : {K : Type 0} → (K → K → Bool) → K → List (Option K) → ℕ
first_index same k [] = 0
first_index same k (key ∷ keys) = if is_key same k key then 0 else 1 + first_index same k keys

-- whether the key of an index is there, and another index has the same
abbrev pub is_shared : {K : Type 0} → (K → K → Bool) → List (Option K) → Option K → Bool
is_shared same keys None = false
is_shared same keys (Some k) = nat_lt 1 (count same k keys)

-- the first index that has this key, if another one has it, too
abbrev pub first_of : {K : Type 0} → (K → K → Bool) → List (Option K) → Option K → Option ℕ
first_of same keys None = None
first_of same keys (Some k) =
    if nat_lt 1 (count same k keys) then Some (first_index same k keys) else None

-- ---- the files

-- for each file, whether another one has its shape
abbrev pub compared : List NamedFile → List ℕ → List Bool
compared fs lens = map (is_shared same_shape (shapes fs lens)) (shapes fs lens)

-- for each file, the index of the first one with its shape and digest, if others have them, too
abbrev pub firsts : List NamedFile → List ℕ → List (Option (List ℕ)) → List (Option ℕ)
firsts fs lens digests =
    map (first_of same_contents (contents (shapes fs lens) digests))
    (contents (shapes fs lens) digests)

-- the file at an index, if there are both
abbrev pub at_index : List NamedFile → Option ℕ → Option NamedFile
at_index fs None = None
at_index fs (Some index) = slice_get fs index

-- a file as a name of another one, if there is one; all else of it stays
abbrev pub joined : NamedFile → Option NamedFile → NamedFile
joined f None = f
joined f (Some g) = record f { inode = g.inode; has_links = true }

-- each file as a name of the first one with its shape and digest, if others have them, too
abbrev pub shared_all : List NamedFile → List ℕ → List (Option (List ℕ)) → List NamedFile
shared_all fs lens digests =
    zipped (λ f first. joined f (at_index fs first)) None fs (firsts fs lens digests)

abbrev pub is_before : Option ℕ → ℕ → Bool
is_before None index = false
is_before (Some first) index = nat_lt first index

abbrev pub further_from : ℕ → List (Option ℕ) → List Bool
further_from index [] = []
further_from index (first ∷ firsts) = is_before first index ∷ further_from (index + 1) firsts

-- for each file, whether the first one with its shape and digest is before it
abbrev pub further : List NamedFile → List ℕ → List (Option (List ℕ)) → List Bool
further fs lens digests = further_from 0 (firsts fs lens digests)
