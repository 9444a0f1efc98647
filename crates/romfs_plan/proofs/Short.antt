-- The names of planned items are short.
use Rattle.std.proofs.Common.{◌+◌, ◌<◌, ℕ, List, [], ◌∷◌, length, map, arith}
use Rattle.std.specs.List.{AllByRecursion as Every}
use Rattle.record_forest.proofs.Lists.{every_join}
use Rattle.romfs_format.specs.Record.{pad16}
use Rattle.manifest_tree.specs.Names.{Inode, Names, nothing, leaf, link, subdirectory}
use Rattle.manifest_tree.specs.Items.{Item}
use Rattle.romfs_layout.specs.Items.{item_of, items_of}
use Rattle.romfs_layout.specs.Layout.{Header, headers, leaf_end, header_end, ends, root_at, all_headers, placed}
use Rattle.romfs_layout.specs.Layout.{place_with}
use Rattle.romfs_layout.specs.Planned.{IsPlanned}
use Rattle.romfs_layout.specs.Wells.{AreWell}

abbrev IsShort : Header → Type 0
IsShort h = length h.name < 256

short_headers : (at : ℕ → ℕ) (cs : List (List ℕ)) (dir from : ℕ) (n : Names) → AreWell cs n
    → Every IsShort (headers at dir from n)
short_headers at cs dir from nothing w = tt
short_headers at cs dir from (leaf name i after) w =
    (w.0.written.short, short_headers at cs dir (leaf_end from name i) after w.2)
short_headers at cs dir from (link name i after) w =
    (w.0.written.short, short_headers at cs dir (header_end from name) after w.2)
short_headers at cs dir from (subdirectory name i own after) w =
    let h = header_end from name + 64 in (
      w.0.written.short,
      (
        omega arith,
        (
          omega arith,
          every_join IsShort (headers at (pad16 from) h own) (headers at dir (ends h own) after)
              (short_headers at cs (pad16 from) h own w.2) (short_headers at cs dir (ends h own) after w.3),
        ),
      ),
    )

to_items : (hs : List Header) → Every IsShort hs → Every (λ (i : Item). length i.name < 256) (map item_of hs)
to_items [] s = tt
to_items (h ∷ hs) s = (s.0, to_items hs s.1)

pub short_names : (volume : List ℕ) (root : Inode) (n : Names) (cs : List (List ℕ)) → IsPlanned volume root n cs
    → Every (λ (i : Item). length i.name < 256) (items_of volume root n)
short_names volume root n cs p =
    let r = root_at volume in
    let f = place_with (placed (r + 64) n) in
    to_items (all_headers r root n) (omega arith, (omega arith, short_headers f cs r (r + 64) n p.well))
