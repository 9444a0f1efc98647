-- `Space` as a value: its images (`held`, `images_in`), what is mounted and open (`state`), and its
-- calls (`calls`). `EntryLeadsOn`: an entry's cursor is the position that the descriptor now has.
-- (This project's own.)
use Rattle.std.specs.Prelude.{ℕ, List, Vec, map}
use Rattle.std.specs.declared.alloc.Global.{Global}
use Rattle.rom_tree.specs.declared.image.Viewed.{Ghosts}
use Rattle.rom_tree.specs.Image.{Image}
use Rattle.path_walk.specs.declared.mount.Mount.{Mount}
use Rattle.path_walk.specs.Graft.{MountedNode}
use Rattle.open_files.specs.declared.space.Space.{Space}
use Rattle.open_files.specs.Calls.{Calls}
use Rattle.open_files.specs.Machine.{Table}
use Rattle.open_files.specs.Sessions.{Sessions, space_calls}
use Rattle.open_files.specs.Slots.{graft_view, LeadsOn, IsPartThere}
use Rattle.open_files.specs.Space.{space_state}

module _ {T : Type 0} {n : ℕ} {viewed : Ghosts T} where
  -- the images that it was made of
  abbrev pub held : Space T n viewed → Vec T Global
  held s = s.images

  abbrev pub images_in : Space T n viewed → List Image
  images_in s = map viewed.image s.images.items

  abbrev pub state : Space T n viewed → Sessions (List Mount) (Table MountedNode)
  state s = space_state n (images_in s) s.mounts.items (map (λ t. t.slots) s.tables)

  abbrev pub calls : Space T n viewed → ℕ → Calls (Sessions (List Mount) (Table MountedNode))
  calls s k = space_calls n (images_in s) k

  -- a cursor of an image is that of the position that this number of a session now has
  abbrev pub EntryLeadsOn : Space T n viewed → ℕ → ℕ → ℕ → ℕ → Type 0
  EntryLeadsOn s k fd i cursor =
      LeadsOn (graft_view (images_in s) s.mounts.items) ((state s).own k) fd i cursor

  -- a name is a part of the image of what this number of a session now has open
  abbrev pub IsNamePart : Space T n viewed → ℕ → ℕ → List ℕ → Type 0
  IsNamePart s k fd name =
      IsPartThere (graft_view (images_in s) s.mounts.items) ((state s).own k) fd name
