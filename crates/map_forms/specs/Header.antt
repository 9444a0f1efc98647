-- A map of the chosen regular files of an image: a header for C and C++, or a script for GNU ld.
-- (This project's own.)
use Rattle.std.specs.Prelude.{◌≡◌, ℕ, ◌+◌, ◌<◌, ◌%◌, ◌^◌, ◌&&◌, Bool, true, List, [], ◌∷◌, ◌++◌}
use Rattle.std.specs.Prelude.{length, nat_lt, if◌then◌else◌, Option, Some, None, codes, decimal}
use Rattle.std.specs.List.{flat_map}
use Rattle.rom_tree.specs.Tree.{Node, is_regular, places_of}
use Rattle.rom_tree.specs.Names.{Name, names}
use Rattle.image_info.specs.Map.{address_text}
use Rattle.image_info.specs.Runs.{Piece, runs}
use Rattle.map_forms.specs.Names.{Macro, Guard, Base, Size, Address, Length, Path, macro_name}
use Rattle.map_forms.specs.Names.{text_of}
use Rattle.map_forms.specs.Forms.{front, between, behind, suffix, long_suffix, last_lines}
use Rattle.map_forms.specs.declared.form.Form.{Form}
use Rattle.map_forms.specs.declared.form.Form.TheVariants.{Header, Script}

-- In a header an address has its type in C: `u` below 2^32, and otherwise `ull`.
unfoldable pub address_number : Form → ℕ → List ℕ
address_number f a =
    address_text a ++ (if nat_lt a 4294967296 then suffix f else long_suffix f)

unfoldable pub length_number : Form → ℕ → List ℕ
length_number f n = decimal n ++ suffix f

-- the front of a name's definition, and its whole line
unfoldable pub macro_front : Form → List ℕ → Macro → List ℕ
macro_front f prefix m = front f ++ (macro_name prefix m ++ between f)

unfoldable pub definition : Form → List ℕ → Macro → List ℕ → List ℕ
definition f prefix m value = macro_front f prefix m ++ (value ++ behind f)

-- what comes before all definitions: a comment, and in a header the guard
unfoldable pub first_lines : Form → List ℕ → List ℕ
first_lines Header prefix =
    codes "/* The files of an image, made by romtool map --c. */\n#ifndef "
    ++ (macro_name prefix Guard ++ (codes "\n#define " ++ (macro_name prefix Guard
    ++ codes "\n\n")))
first_lines Script prefix = codes "/* The files of an image, made by romtool map --ld. */\n"

-- then the address of the image's first byte, and how many bytes the image has
unfoldable pub head_text : Form → List ℕ → ℕ → ℕ → List ℕ
head_text f prefix base size =
    first_lines f prefix ++ (definition f prefix Base (address_number f base)
    ++ definition f prefix Size (length_number f size))

-- the address that a file may have
unfoldable pub address_macro : Form → List ℕ → List ℕ → Option ℕ → List ℕ
address_macro f prefix path None = []
address_macro f prefix path (Some a) = definition f prefix (Address path) (address_number f a)

-- the path of a file, which a script cannot have
unfoldable pub path_macro : Form → List ℕ → List ℕ → List ℕ
path_macro Header prefix path = definition Header prefix (Path path) (text_of path)
path_macro Script prefix path = []

-- what is defined of a file: its address, its length and its path
unfoldable pub macros : Form → List ℕ → List ℕ → Option ℕ → ℕ → List ℕ
macros f prefix path address size =
    address_macro f prefix path address
    ++ (definition f prefix (Length path) (length_number f size) ++ path_macro f prefix path)

-- the address of a file whose bytes follow one another in the image
abbrev pub only_address : ℕ → List Piece → Option ℕ
only_address base (r ∷ []) = Some ((base + r.place) % 2 ^ 64)
only_address base _ = None

-- the lines of a node with this path: only a chosen regular file has some
abbrev pub node_macros : Form → (List ℕ → Bool) → List ℕ → ℕ → List ℕ → Node → List ℕ
node_macros f chosen prefix base path x =
    if is_regular x && chosen path then codes "\n"
    ++ macros f prefix path (only_address base (runs (places_of x))) (length (places_of x)) else []

abbrev pub name_macros : Form → (List ℕ → Bool) → List ℕ → ℕ → Name → List ℕ
name_macros f chosen prefix base n = node_macros f chosen prefix base n.path n.node

-- the lines of all names, in preorder, and what ends the map
unfoldable pub map_text : Form → (List ℕ → Bool) → List ℕ → ℕ → ℕ → Node → List ℕ
map_text f chosen prefix base size t =
    head_text f prefix base size
    ++ (flat_map (λ n. name_macros f chosen prefix base n) (names t) ++ last_lines f)

abbrev pub header_text : (List ℕ → Bool) → List ℕ → ℕ → ℕ → Node → List ℕ
header_text chosen prefix base size t = map_text Header chosen prefix base size t

abbrev pub script_text : (List ℕ → Bool) → List ℕ → ℕ → ℕ → Node → List ℕ
script_text chosen prefix base size t = map_text Script chosen prefix base size t

-- a regular file of the tree has a path of more than 16,640 bytes
pub record HasLongPath (t : Node) : Type 0 where
  pub before : List Name
  pub name : Name
  pub after : List Name
  pub is : names t ≡ before ++ name ∷ after
  pub regular : is_regular name.node ≡ true
  pub long : 16640 < length name.path
