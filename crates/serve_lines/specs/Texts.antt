-- The text of each reply, which is a line: `done_text`, `descriptor_text`, `node_text`,
-- `attributes_text`, `piece_text`, `bytes_text`, `entry_text`, `end_text`, `refused_text`,
-- `bad_text`. (This project's own.)
use Rattle.std.specs.Prelude.{ℕ, List, [], ◌∷◌, ◌++◌, length, decimal, codes, Option, Some, None}
use Rattle.hex.specs.Hex.{encode_lower}
use Rattle.rom_fields.specs.Texts.{escaped}
use Rattle.rom_tree.specs.Listing.{stat_text}
use Rattle.rom_tree.specs.declared.types.Stat.{Stat}
use Rattle.open_files.specs.declared.error.CallError.{CallError}
use Rattle.open_files.specs.Errors.{error_name}
use Rattle.serve_lines.specs.declared.bad.Bad.{Bad}
use Rattle.serve_lines.specs.declared.bad.Bad.TheVariants as bad

-- the number of an image and a colon, if several images are served
abbrev pub image_text : Option ℕ → List ℕ
image_text None = []
image_text (Some i) = decimal i ++ codes ":"

-- two lower-case hexadecimal digits for each byte, or `-` for no byte
abbrev pub hex_text : List ℕ → List ℕ
hex_text [] = codes "-"
hex_text (b ∷ bs) = encode_lower (b ∷ bs)

abbrev pub done_text : List ℕ
done_text = codes "ok\n"

abbrev pub end_text : List ℕ
end_text = codes "ok end\n"

-- `ok F`
abbrev pub descriptor_text : ℕ → List ℕ
descriptor_text fd = codes "ok " ++ (decimal fd ++ codes "\n")

-- `ok INO`
abbrev pub node_text : Option ℕ → ℕ → List ℕ
node_text image ino = codes "ok " ++ (image_text image ++ (decimal ino ++ codes "\n"))

-- `ok INO KIND MODE UID GID SIZE MAJOR MINOR`
abbrev pub attributes_text : Option ℕ → Stat → List ℕ
attributes_text image s = codes "ok " ++ (image_text image ++ (stat_text s ++ codes "\n"))

-- `ok PLACE LEN HEX`
abbrev pub piece_text : Option ℕ → ℕ → List ℕ → List ℕ
piece_text image place bytes =
    codes "ok " ++ (image_text image ++ (decimal place ++ (codes " " ++ (decimal (length bytes)
    ++ (codes " " ++ (hex_text bytes ++ codes "\n"))))))

-- `ok LEN HEX`
abbrev pub bytes_text : List ℕ → List ℕ
bytes_text bytes =
    codes "ok " ++ (decimal (length bytes) ++ (codes " " ++ (hex_text bytes ++ codes "\n")))

-- `ok NAME INO`
abbrev pub entry_text : Option ℕ → List ℕ → ℕ → List ℕ
entry_text image name ino =
    codes "ok " ++ (escaped name
    ++ (codes " " ++ (image_text image ++ (decimal ino ++ codes "\n"))))

-- `err NAME`
abbrev pub refused_text : CallError → List ℕ
refused_text e = codes "err " ++ (error_name e ++ codes "\n")

abbrev pub bad_text : Bad → List ℕ
bad_text bad.Command = codes "bad command\n"
bad_text bad.Line = codes "bad line\n"
bad_text bad.Number = codes "bad number\n"
bad_text bad.Session = codes "bad session\n"
