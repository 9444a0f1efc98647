-- The digests of an image's files, in the format of sha256sum (GNU coreutils). (This project's
-- own.)
use Rattle.std.specs.Prelude.{◌≡◌, ℕ, ◌<◌, ◌==◌, ◌||◌, Bool, true, List, [], ◌∷◌, ◌++◌, length}
use Rattle.std.specs.Prelude.{drop, codes}
use Rattle.std.specs.Prelude.{if◌then◌else◌}
use Rattle.std.specs.List.{flat_map, list_any}
use Rattle.std.specs.Str.{bytes_eq}
use Rattle.hex.specs.Hex.{encode_lower}
use Rattle.sha2.specs.Sha256.{sha256}
use Rattle.rom_tree.specs.Tree.{Node, is_regular}
use Rattle.rom_tree.specs.Image.{contents_of}
use Rattle.rom_tree.specs.Names.{Name, names}

-- a line feed, a carriage return and a backslash are escaped
abbrev pub is_special : ℕ → Bool
is_special b = b == 10 || (b == 13 || b == 92)

-- a byte of a name, as the line has it
abbrev pub shown_byte : ℕ → List ℕ
shown_byte b =
    if b == 10 then 92 ∷ 110 ∷ []
    else if b == 13 then 92 ∷ 114 ∷ []
    else if b == 92 then 92 ∷ 92 ∷ []
    else b ∷ []

unfoldable pub shown_bytes : List ℕ → List ℕ
shown_bytes name = flat_map shown_byte name

-- a line begins with a backslash if a byte of its name is escaped
abbrev pub mark : List ℕ → List ℕ
mark name = if list_any is_special name then 92 ∷ [] else []

-- the file `-` is written as `./-`, since `-` means the standard input
abbrev pub beside : List ℕ → List ℕ
beside name = if bytes_eq name (45 ∷ []) then 46 ∷ 47 ∷ [] else []

-- HEX, two spaces, NAME: the line of a file with these bytes
unfoldable pub sum_line : List ℕ → List ℕ → List ℕ
sum_line bytes name =
    mark name ++ (encode_lower (sha256 bytes) ++ (32 ∷ 32 ∷ [] ++ (beside name
    ++ (shown_bytes name ++ 10 ∷ []))))

-- HEX, two spaces, a minus sign: the line of the standard input
unfoldable pub input_line : List ℕ → List ℕ
input_line bytes = encode_lower (sha256 bytes) ++ codes "  -\n"

-- a path from the image's root on, without its first slash
abbrev pub relative : List ℕ → List ℕ
relative path = drop 1 path

-- the line of a node with this path; only a regular file has one
abbrev pub node_line : List ℕ → List ℕ → Node → List ℕ
node_line b path x = if is_regular x then sum_line (contents_of b x) (relative path) else []

abbrev pub digest_line : List ℕ → Name → List ℕ
digest_line b n = node_line b n.path n.node

-- the lines of all names, in preorder
unfoldable pub digest_text : List ℕ → Node → List ℕ
digest_text b t = flat_map (λ n. digest_line b n) (names t)

-- a regular file of the tree has a path of more than 16,384 bytes
pub record HasLongPath (t : Node) : Type 0 where
  pub before : List Name
  pub name : Name
  pub after : List Name
  pub is : names t ≡ before ++ name ∷ after
  pub regular : is_regular name.node ≡ true
  pub long : 16384 < length name.path
