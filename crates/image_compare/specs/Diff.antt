-- The differences of two images, line by line. (This project's own.)
use Rattle.std.specs.Prelude.{ℕ, ◌==◌, ◌&&◌, Bool, true, false, List, [], ◌∷◌, ◌++◌, length}
use Rattle.std.specs.Prelude.{decimal}
use Rattle.std.specs.Prelude.{Option, Some, None, if◌then◌else◌}
use Rattle.std.specs.Cmp.Lexicographic.{slice_cmp}
use Rattle.std.specs.Ordering.{nat_cmp, is_lt}
use Rattle.std.specs.Str.{bytes_eq}
use Rattle.rom_fields.specs.Texts.{octal, escaped}
use Rattle.rom_tree.specs.declared.types.Stat.{Stat}
use Rattle.rom_tree.specs.Listing.{kind_letter}
use Rattle.rom_tree.specs.Tree.{Node, Body, body_of, regular, kind_of}
use Rattle.rom_tree.specs.Image.{stat_of, contents_of}
use Rattle.rom_tree.specs.Names.{Name}
use Rattle.image_info.specs.Map.{eight_digits}

-- `- PATH`, and `+ PATH`
unfoldable pub removed_line : List ℕ → List ℕ
removed_line path = 45 ∷ 32 ∷ [] ++ (escaped path ++ 10 ∷ [])

unfoldable pub added_line : List ℕ → List ℕ
added_line path = 43 ∷ 32 ∷ [] ++ (escaped path ++ 10 ∷ [])

-- KIND/MODE/UID/GID/MAJOR/MINOR, each as in a list
unfoldable pub attributes_text : Stat → List ℕ
attributes_text s =
    kind_letter s.kind ∷ 47 ∷ [] ++ (octal s.mode ++ (47 ∷ [] ++ (decimal s.uid
    ++ (47 ∷ [] ++ (decimal s.gid ++ (47 ∷ [] ++ (decimal s.major ++ (47 ∷ []
    ++ decimal s.minor))))))))

-- whether two nodes of one kind have the same attributes
abbrev pub same_attributes : Stat → Stat → Bool
same_attributes s t =
    s.mode == t.mode && (s.uid == t.uid && (s.gid == t.gid && (s.major == t.major
    && s.minor == t.minor)))

-- `m PATH OLD NEW`, if the attributes differ
unfoldable pub attributes_line : List ℕ → Stat → Stat → List ℕ
attributes_line path s t =
    if same_attributes s t then [] else 109 ∷ 32 ∷ [] ++ (escaped path ++ (32 ∷ []
    ++ (attributes_text s ++ (32 ∷ [] ++ (attributes_text t ++ 10 ∷ [])))))

-- `c PATH OLDLEN NEWLEN`, if the contents of a file or the texts of a link differ
unfoldable pub contents_line : List ℕ → List ℕ → List ℕ → List ℕ
contents_line path old new =
    if bytes_eq old new then [] else 99 ∷ 32 ∷ [] ++ (escaped path ++ (32 ∷ []
    ++ (decimal (length old) ++ (32 ∷ [] ++ (decimal (length new) ++ 10 ∷ [])))))

-- the offset of the first byte of a regular file
abbrev pub body_start : Body → Option ℕ
body_start (regular (p ∷ ps)) = Some p
body_start _ = None

abbrev pub start_of : Node → Option ℕ
start_of x = body_start (body_of x)

-- `@ PATH OLD NEW`, for the offsets of a file that has bytes in both images, if they differ
unfoldable pub moved_line : List ℕ → ℕ → ℕ → List ℕ
moved_line path p q =
    if p == q then [] else 64 ∷ 32 ∷ [] ++ (escaped path ++ (32 ∷ 48 ∷ 120 ∷ []
    ++ (eight_digits p ++ (32 ∷ 48 ∷ 120 ∷ [] ++ (eight_digits q ++ 10 ∷ [])))))

abbrev pub start_line : List ℕ → Option ℕ → Option ℕ → List ℕ
start_line path (Some p) (Some q) = moved_line path p q
start_line path _ _ = []

-- the lines of a path at which both images have a node of one kind
unfoldable pub alike_lines : Bool → List ℕ → List ℕ → List ℕ → Node → Node → List ℕ
alike_lines places a b path x y =
    attributes_line path (stat_of x) (stat_of y)
    ++ (contents_line path (contents_of a x) (contents_of b y)
    ++ (if places then start_line path (start_of x) (start_of y) else []))

-- the lines of a path at which both images have a node; if the kinds differ, the old node was
-- removed and the new one added
unfoldable pub node_lines : Bool → List ℕ → List ℕ → List ℕ → Node → Node → List ℕ
node_lines places a b path x y =
    if kind_letter (kind_of x) == kind_letter (kind_of y) then alike_lines places a b path x y
    else removed_line path ++ added_line path

-- The lines of two lists of names, of the image a and of the image b. Both are sorted by path,
-- compared as bytes.
unfoldable pub names_lines : Bool → List ℕ → List ℕ → List Name → List Name → List ℕ
names_lines places a b [] [] = []
names_lines places a b (x ∷ xs) [] = removed_line x.path ++ names_lines places a b xs []
names_lines places a b [] (y ∷ ys) = added_line y.path ++ names_lines places a b [] ys
names_lines places a b (x ∷ xs) (y ∷ ys) =
    if is_lt (slice_cmp nat_cmp x.path y.path)
    then removed_line x.path ++ names_lines places a b xs (y ∷ ys)
    else if is_lt (slice_cmp nat_cmp y.path x.path)
    then added_line y.path ++ names_lines places a b (x ∷ xs) ys
    else node_lines places a b x.path x.node y.node ++ names_lines places a b xs ys

-- whether a text is not empty
abbrev pub is_printed : List ℕ → Bool
is_printed [] = false
is_printed (c ∷ cs) = true
