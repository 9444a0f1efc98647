-- `Files` as a value: its image (`held`, `image_in`), what is open (`table`), and its calls
-- (`calls`).
-- `EntryLeadsOn`: an entry's cursor is the position that the descriptor now has. (This project's
-- own.)
use Rattle.std.specs.Prelude.{ℕ, List}
use Rattle.rom_tree.specs.declared.image.Viewed.{Ghosts}
use Rattle.rom_tree.specs.Tree.{Node}
use Rattle.rom_tree.specs.Image.{Image}
use Rattle.open_files.specs.declared.files.Files.{Files}
use Rattle.open_files.specs.Calls.{Calls}
use Rattle.open_files.specs.Machine.{Table, image_calls}
use Rattle.open_files.specs.Slots.{table_in, LeadsIn, IsPartIn}

module _ {T : Type 0} {n : ℕ} {viewed : Ghosts T} where
  -- the image that it was made of
  abbrev pub held : Files T n viewed → T
  held s = s.image

  abbrev pub image_in : Files T n viewed → Image
  image_in s = viewed.image s.image

  abbrev pub table : Files T n viewed → Table Node
  table s = table_in (image_in s) s.slots

  abbrev pub calls : Files T n viewed → Calls (Table Node)
  calls s = image_calls n (image_in s)

  -- a cursor is that of the position that this number now has
  abbrev pub EntryLeadsOn : Files T n viewed → ℕ → ℕ → Type 0
  EntryLeadsOn s fd cursor = LeadsIn (image_in s) s.slots fd cursor

  -- a name is a part of the image, if this number is now open
  abbrev pub IsNamePart : Files T n viewed → ℕ → List ℕ → Type 0
  IsNamePart s fd name = IsPartIn (image_in s) s.slots fd name
