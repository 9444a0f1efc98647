-- A cache as a value: the image in it (`inner`), the answers that it keeps (`entries`), and for how
-- many it has room (`room`). (This project's own.)
use Rattle.std.specs.Prelude.{ℕ, List, Option}
use Rattle.rom_tree.specs.declared.image.Viewed.{Ghosts}
use Rattle.rom_tree.specs.declared.types.NodeId.{NodeId}
use Rattle.lookups.specs.declared.short.Key.{Key}
use Rattle.lookups.specs.declared.cache.Cached.{Cached}

module _ {T : Type 0} {viewed : Ghosts T} where
  abbrev pub inner : Cached T viewed → T
  inner s = s.image

  -- the latest first
  abbrev pub entries : Cached T viewed → List (Key × Option NodeId)
  entries s = s.kept.entries

  abbrev pub room : Cached T viewed → ℕ
  room s = s.kept.cap
