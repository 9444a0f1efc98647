-- The two passes over rows that compute offsets. `places`: forwards, the offset of each header.
-- `places_of`: backwards, what each header leads on to. `named_places`: the same in the layout's
-- words. (This project's own.)
use Rattle.std.specs.Prelude.{ℕ, ◌+◌, List, [], ◌∷◌, ◌++◌, slice_index, slice_set}
use Rattle.manifest_tree.specs.Names.{Names, nothing, leaf, link, subdirectory}
use Rattle.manifest_tree.specs.Tree.{What, a_leaf, a_link, a_directory}
use Rattle.romfs_format.specs.Record.{pad16}
use Rattle.romfs_layout.specs.Layout.{place_of, leaf_end, header_end, ends, first_place}
use Rattle.plan_rows.specs.Rows.{Row}
use Rattle.romfs_plan.specs.declared.places.Place.{Place}

-- the offset of a row's header, if what was placed before ends at `from`
abbrev pub place_by : ℕ → List ℕ → What → ℕ
place_by from name (a_leaf i) = place_of from name i
place_by from name (a_link i) = pad16 from
place_by from name (a_directory i) = pad16 from

abbrev pub row_place : ℕ → Row → ℕ
row_place from r = place_by from r.name r.what

-- the end of what the row places; a directory's list begins with two headers of 32 bytes
abbrev pub end_by : ℕ → List ℕ → What → ℕ
end_by from name (a_leaf i) = leaf_end from name i
end_by from name (a_link i) = header_end from name
end_by from name (a_directory i) = header_end from name + 64

abbrev pub row_end : ℕ → Row → ℕ
row_end from r = end_by from r.name r.what

-- forwards: the offset of each header
abbrev pub places : ℕ → List Row → List ℕ
places from [] = []
places from (r ∷ rs) = row_place from r ∷ places (row_end from r) rs

abbrev pub places_end : ℕ → List Row → ℕ
places_end from [] = from
places_end from (r ∷ rs) = places_end (row_end from r) rs

-- the offset of a header, of the next one in its list, and of the first in its own list; 0 if there
-- is none
abbrev pub place : ℕ → ℕ → ℕ → Place
place at next first = record { at = at; next = next; first = first }

-- the first header that was met at each depth, after one more header
abbrev pub heads_with : List ℕ → Row → ℕ → List ℕ
heads_with heads r p = slice_set (slice_set heads (r.depth + 1) 0) r.depth p

abbrev pub placed : List ℕ → Row → ℕ → Place
placed heads r p = place p (slice_index heads r.depth) (slice_index heads (r.depth + 1))

-- backwards: the first headers at each depth, and what the rows lead on to
abbrev pub heads_of : List ℕ → List Row → List ℕ → List ℕ
heads_of heads [] ps = heads
heads_of heads (r ∷ rs) [] = heads
heads_of heads (r ∷ rs) (p ∷ ps) = heads_with (heads_of heads rs ps) r p

abbrev pub places_of : List ℕ → List Row → List ℕ → List Place
places_of heads [] ps = []
places_of heads (r ∷ rs) [] = []
places_of heads (r ∷ rs) (p ∷ ps) = placed (heads_of heads rs ps) r p ∷ places_of heads rs ps

-- the same for names that are placed from `from` on, in the layout's words
abbrev pub named_places : ℕ → Names → List Place
named_places from nothing = []
named_places from (leaf name i after) =
    place (place_of from name i) (first_place (leaf_end from name i) after) 0
    ∷ named_places (leaf_end from name i) after
named_places from (link name i after) =
    place (pad16 from) (first_place (header_end from name) after) 0
    ∷ named_places (header_end from name) after
named_places from (subdirectory name i own after) =
    let h = header_end from name + 64 in
    place (pad16 from) (first_place (ends h own) after) (first_place h own)
    ∷ (named_places h own ++ named_places (ends h own) after)
