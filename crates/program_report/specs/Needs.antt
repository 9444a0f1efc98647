-- `missing`: the interpreter and the libraries that a file needs and an image does not have.
-- `needs_text`: a line for each of them, file by file. (This project's own. The directories are
-- those of ld.so(8), and of Debian's multiarch. What a file needs is `FileNeeded.antt`, and how
-- much may be looked at `Effort.antt`.)
use Rattle.std.specs.Prelude.{ℕ, ◌-◌, ◌/◌, ◌%◌, nat_lt, ◌==◌, ◌&&◌, ◌||◌, Bool, false, not}
use Rattle.std.specs.Prelude.{if◌then◌else◌, List, [], ◌∷◌, ◌++◌, codes, length, map, Option}
use Rattle.std.specs.Prelude.{None, Some, Result, Ok, Err, true}
use Rattle.std.specs.List.{flat_map, list_any, slice_split}
use Rattle.rom_fields.specs.Texts.{escaped}
use Rattle.rom_tree.specs.Image.{Image}
use Rattle.rom_tree.specs.Names.{Name, names}
use Rattle.rom_tree.specs.Runs.{front_of}
use Rattle.rom_tree.specs.Tree.{Node, attributes_of, is_regular, places_of}
use Rattle.path_walk.specs.Components.{begins_with_slash, is_empty}
use Rattle.path_walk.specs.Resolution.{resolution, tree_namespace}
use Rattle.path_walk.specs.declared.error.WalkError.{WalkError}
use Rattle.program_report.specs.FileNeeded.{file_needs, nothing_needed}
use Rattle.program_report.specs.Effort.{budget, effort, longest_link}
pub use Rattle.program_report.specs.FileNeeded.{FileNeeded, entry_count}

abbrev pub is_file : Result Node WalkError → Bool
is_file (Ok x) = is_regular x
is_file (Err e) = false

-- a path leads to a regular file, at the end of links, too
unfoldable pub is_file_at : Image → List ℕ → Bool
is_file_at m path = is_file (resolution (tree_namespace m.bytes m.tree) path true)

-- a directory has such a file of this name
abbrev pub has_file : Image → List ℕ → List ℕ → Bool
has_file m name directory = is_file_at m (directory ++ 47 ∷ name)

-- the parts of a run path between colons
abbrev pub parts : List ℕ → List (List ℕ)
parts path = slice_split (λ c. c == 58) path

-- a part that begins with a slash has it
abbrev pub in_part : Image → List ℕ → List ℕ → Bool
in_part m name part = begins_with_slash part && has_file m name part

abbrev pub in_parts : Image → List ℕ → List ℕ → Bool
in_parts m name path = list_any (in_part m name) (parts path)

-- a run path with a `$` depends on where the program is; and one that is longer than a path may be
-- is not followed
abbrev pub is_not_told : List ℕ → Bool
is_not_told path = nat_lt 4095 (length path) || list_any (λ c. c == 36) path

abbrev pub on_run_path : Image → List ℕ → Option (List ℕ) → Bool
on_run_path m name None = false
on_run_path m name (Some path) = is_not_told path || in_parts m name path

-- the directories of ld.so, and those of Debian for each architecture, with a colon between two
unfoldable pub usual_directories : List ℕ
usual_directories =
    codes "/lib:/usr/lib:/lib64:/usr/lib64:/lib32:/usr/lib32:/usr/local/lib:"
    ++ (codes "/lib/aarch64-linux-gnu:/usr/lib/aarch64-linux-gnu:"
    ++ (codes "/lib/arm-linux-gnueabi:/usr/lib/arm-linux-gnueabi:"
    ++ (codes "/lib/arm-linux-gnueabihf:/usr/lib/arm-linux-gnueabihf:"
    ++ (codes "/lib/i386-linux-gnu:/usr/lib/i386-linux-gnu:"
    ++ (codes "/lib/mips64el-linux-gnuabi64:/usr/lib/mips64el-linux-gnuabi64:"
    ++ (codes "/lib/mipsel-linux-gnu:/usr/lib/mipsel-linux-gnu:"
    ++ (codes "/lib/powerpc64le-linux-gnu:/usr/lib/powerpc64le-linux-gnu:"
    ++ (codes "/lib/riscv64-linux-gnu:/usr/lib/riscv64-linux-gnu:"
    ++ (codes "/lib/s390x-linux-gnu:/usr/lib/s390x-linux-gnu:"
    ++ (codes "/lib/x86_64-linux-gnu:/usr/lib/x86_64-linux-gnu"))))))))))

-- a library is there, or where it is looked for is not told: that depends on the working directory
-- if its name has a slash, but not at its front
unfoldable pub has_library : Image → Option (List ℕ) → List ℕ → Bool
has_library m path name =
    if begins_with_slash name then is_file_at m name
    else list_any (λ c. c == 47) name
    || (on_run_path m name path || in_parts m name usual_directories)

-- an interpreter is there, or its path depends on the working directory
abbrev pub has_interpreter : Image → List ℕ → Bool
has_interpreter m path = if begins_with_slash path then is_file_at m path else true

-- a name that is needed and not there
abbrev pub unless : (List ℕ → Bool) → Option (List ℕ) → Option (List ℕ)
unless has None = None
unless has (Some name) = if has name then None else Some name

-- What a file needs and the image does not have, by index: 0 is the interpreter, and 1 + i is
-- entry i of the dynamic segment.
unfoldable pub missing : Image → FileNeeded → List (Option (List ℕ))
missing m n =
    unless (has_interpreter m) n.interpreter
    ∷ map (unless (has_library m n.libraries.run_path)) n.libraries.needed

-- the owner, the group or others may execute a file of this mode
abbrev pub may_execute : ℕ → Bool
may_execute mode = (mode / 64 % 2 == 1) || ((mode / 8 % 2 == 1) || (mode % 2 == 1))

-- what a node needs: something only if it is a regular file whose bytes are in one run
unfoldable pub needs_in : Image → Node → FileNeeded
needs_in m x =
    if is_regular x && (length (front_of m.bytes (places_of x)) == length (places_of x))
    then file_needs (may_execute (attributes_of x).mode) (front_of m.bytes (places_of x))
    else nothing_needed

-- `needs PATH NAME`
abbrev pub need_line : List ℕ → Option (List ℕ) → List ℕ
need_line path None = []
need_line path (Some name) =
    codes "needs " ++ (path ++ (32 ∷ [] ++ (escaped name ++ 10 ∷ [])))

abbrev pub need_lines : List ℕ → List (Option (List ℕ)) → List ℕ
need_lines path ns = flat_map (need_line path) ns

-- what it costs to look at the needs of a node
abbrev pub node_effort : Image → ℕ → Node → ℕ
node_effort m longest x = effort longest (length (places_of x)) (needs_in m x)

-- `unread PATH`: to look at the file's needs costs more than is left
abbrev pub unread_line : List ℕ → List ℕ
unread_line path = codes "unread " ++ (path ++ 10 ∷ [])

-- the lines of some names, if so much is left
abbrev pub needs_from : Image → ℕ → ℕ → List Name → List ℕ
needs_from m longest left [] = []
needs_from m longest left (x ∷ xs) =
    if nat_lt left (node_effort m longest x.node) then unread_line (escaped x.path)
    else need_lines (escaped x.path) (missing m (needs_in m x.node))
    ++ needs_from m longest (left - node_effort m longest x.node) xs

-- the lines of an image
unfoldable pub needs_text : Image → List ℕ
needs_text m = needs_from m (longest_link (names m.tree)) (budget m) (names m.tree)

-- whether there is a line
unfoldable pub needs_warn : Image → Bool
needs_warn m = not (is_empty (needs_text m))
