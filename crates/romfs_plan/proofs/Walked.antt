-- The pass over the rows of names returns the headers of the layout.
use Rattle.std.proofs.Common.{◌≡◌, ◌≢◌, ◌+◌, ◌<◌, ◌≤◌, ℕ, suc, List, [], ◌∷◌, ◌++◌, length, get_or, map, replicate}
use Rattle.std.proofs.Common.{refl, sym, ap, ◌∙◌, arith, append_assoc}
use Rattle.std.specs.List.{AllByRecursion as Every}
use Rattle.std.proofs.Math.ListN.{set}
use Rattle.std.proofs.Math.Path.{fun_ext}
use Rattle.std.proofs.lemmas.List.{get_or-set_same, get_or-set_other, length-set, length-append}
use Rattle.record_forest.proofs.Lists.{every_join}
use Rattle.romfs_format.specs.Record.{pad16}
use Rattle.manifest_tree.specs.Names.{Inode, Names, nothing, leaf, link, subdirectory}
use Rattle.manifest_tree.specs.Tree.{a_leaf, a_link, a_directory}
use Rattle.manifest_tree.specs.Files.{Placed, at_place, height}
use Rattle.romfs_layout.specs.Layout.{Header, headers, place_of, leaf_end, header_end, ends, first_place, placed}
use Rattle.romfs_layout.specs.Layout.{place_with, root_at}
use Rattle.romfs_layout.specs.Items.{item_of, items_of}
use Rattle.plan_rows.specs.Rows.{Row, rows}
use Rattle.romfs_plan.specs.declared.places.Place.{Place}
use Rattle.romfs_plan.specs.Passes.{place, named_places}
use Rattle.romfs_plan.specs.Headers.{headers_by, headers_of, root_headers, placed_by, placed_of, first_of}

-- the directories of the lists met last after rows
abbrev after_rows : List ℕ → List Row → List Place → List ℕ
after_rows dirs [] ps = dirs
after_rows dirs (r ∷ rs) [] = dirs
after_rows dirs (r ∷ rs) (p ∷ ps) = after_rows (set dirs (r.depth + 1) p.at) rs ps

length-after_rows : (dirs : List ℕ) (rs : List Row) (ps : List Place) → length (after_rows dirs rs ps) ≡ length dirs
length-after_rows dirs [] ps = refl
length-after_rows dirs (r ∷ rs) [] = refl
length-after_rows dirs (r ∷ rs) (p ∷ ps) =
    length-after_rows (set dirs (r.depth + 1) p.at) rs ps ∙ length-set dirs (r.depth + 1) p.at

-- rows at a depth or below it leave the directory at that depth
stays : (d : ℕ) (dirs : List ℕ) (rs : List Row) (ps : List Place) → Every (λ r. d ≤ r.depth) rs
    → get_or (after_rows dirs rs ps) d 0 ≡ get_or dirs d 0
stays d dirs [] ps h = refl
stays d dirs (r ∷ rs) [] h = refl
stays d dirs (r ∷ rs) (p ∷ ps) h =
    let k = h.0 in
    let ne : d ≢ r.depth + 1 = omega (arith, k) in
    stays d (set dirs (r.depth + 1) p.at) rs ps h.1 ∙ get_or-set_other dirs (r.depth + 1) d p.at 0 ne

below : (d k : ℕ) (n : Names) → d ≤ k → Every (λ r. d ≤ r.depth) (rows k n)
below d k nothing h = tt
below d k (leaf name i after) h = (h, below d k after h)
below d k (link name i after) h = (h, below d k after h)
below d k (subdirectory name i own after) h = (
  h,
  every_join (λ (r : Row). d ≤ r.depth) (rows (k + 1) own) (rows k after) (below d (k + 1) own (omega (arith, h)))
      (below d k after h),
)

pub length-named : (d from : ℕ) (n : Names) → length (named_places from n) ≡ length (rows d n)
length-named d from nothing = refl
length-named d from (leaf name i after) = ap suc (length-named d (leaf_end from name i) after)
length-named d from (link name i after) = ap suc (length-named d (header_end from name) after)
length-named d from (subdirectory name i own after) =
    let h = header_end from name + 64 in
    let a = length-named (d + 1) h own in
    let b = length-named d (ends h own) after in
    let e = length-append (named_places h own) (named_places (ends h own) after) in
    let f = length-append (rows (d + 1) own) (rows d after) in
    omega (arith, a, b, e, f)

headers_of-append : (at : ℕ → ℕ) (dirs : List ℕ) (rs qs : List Row) (ps os : List Place) → length ps ≡ length rs
    → headers_of at dirs (rs ++ qs) (ps ++ os) ≡ headers_of at dirs rs ps ++ headers_of at (after_rows dirs rs ps) qs os
headers_of-append at dirs [] qs [] os h = refl
headers_of-append at dirs [] qs (p ∷ ps) os h = absurd (omega (arith, h))
headers_of-append at dirs (r ∷ rs) qs [] os h = absurd (omega (arith, h))
headers_of-append at dirs (r ∷ rs) qs (p ∷ ps) os h =
    let here = headers_by at (get_or dirs r.depth 0) r.name r.what p in
    let dirs1 = set dirs (r.depth + 1) p.at in
    ap (λ (hs : List Header). here ++ hs) (headers_of-append at dirs1 rs qs ps os (omega (arith, h)))
    ∙ sym (append_assoc here (headers_of at dirs1 rs ps) (headers_of at (after_rows dirs1 rs ps) qs os))

-- the headers of names in a directory
pub walked : (at : ℕ → ℕ) (d from : ℕ) (dirs : List ℕ) (n : Names) → d + height n < length dirs
    → headers_of at dirs (rows d n) (named_places from n) ≡ headers at (get_or dirs d 0) from n
walked at d from dirs nothing room = refl
walked at d from dirs (leaf name i after) room =
    let q = leaf_end from name i in
    let p = place (place_of from name i) (first_place q after) 0 in
    let dirs1 = set dirs (d + 1) p.at in
    let same = length-set dirs (d + 1) p.at in
    let ne : d ≢ d + 1 = omega arith in
    ap (λ (hs : List Header). headers_by at (get_or dirs d 0) name (a_leaf i) p ++ hs)
    (walked at d q dirs1 after (omega (arith, room, same))
    ∙ ap (λ (x : ℕ). headers at x q after) (get_or-set_other dirs (d + 1) d p.at 0 ne))
walked at d from dirs (link name i after) room =
    let q = header_end from name in
    let p = place (pad16 from) (first_place q after) 0 in
    let dirs1 = set dirs (d + 1) p.at in
    let same = length-set dirs (d + 1) p.at in
    let ne : d ≢ d + 1 = omega arith in
    ap (λ (hs : List Header). headers_by at (get_or dirs d 0) name (a_link i) p ++ hs)
    (walked at d q dirs1 after (omega (arith, room, same))
    ∙ ap (λ (x : ℕ). headers at x q after) (get_or-set_other dirs (d + 1) d p.at 0 ne))
walked at d from dirs (subdirectory name i own after) room =
    let h = header_end from name + 64 in
    let q = ends h own in
    let p = place (pad16 from) (first_place q after) (first_place h own) in
    let dir = get_or dirs d 0 in
    let dirs1 = set dirs (d + 1) p.at in
    let same = length-set dirs (d + 1) p.at in
    let ne : d ≢ d + 1 = omega arith in
    let dirs2 = after_rows dirs1 (rows (d + 1) own) (named_places h own) in
    let same2 = length-after_rows dirs1 (rows (d + 1) own) (named_places h own) in
    let inner = walked at (d + 1) h dirs1 own (omega (arith, room, same))
    ∙ ap (λ (x : ℕ). headers at x h own) (get_or-set_same dirs (d + 1) p.at 0 (omega (arith, room))) in
    let kept = stays d dirs1 (rows (d + 1) own) (named_places h own) (below d (d + 1) own (omega arith))
    ∙ get_or-set_other dirs (d + 1) d p.at 0 ne in
    let outer =
    walked at d q dirs2 after (omega (arith, room, same, same2)) ∙ ap (λ (x : ℕ). headers at x q after) kept in
    ap (λ (hs : List Header). headers_by at dir name (a_directory i) p ++ hs)
    (headers_of-append at dirs1 (rows (d + 1) own) (rows d after) (named_places h own) (named_places q after)
    (length-named (d + 1) h own)
    ∙ ap (λ (hs : List Header). hs ++ headers_of at dirs2 (rows d after) (named_places q after)) inner
    ∙ ap (λ (hs : List Header). headers at (pad16 from) h own ++ hs) outer)

placed_of-append : (rs qs : List Row) (ps os : List Place) → length ps ≡ length rs
    → placed_of (rs ++ qs) (ps ++ os) ≡ placed_of rs ps ++ placed_of qs os
placed_of-append [] qs [] os h = refl
placed_of-append [] qs (p ∷ ps) os h = absurd (omega (arith, h))
placed_of-append (r ∷ rs) qs [] os h = absurd (omega (arith, h))
placed_of-append (r ∷ rs) qs (p ∷ ps) os h =
    let here = placed_by r.what p.at in
    ap (λ (xs : List Placed). here ++ xs) (placed_of-append rs qs ps os (omega (arith, h)))
    ∙ sym (append_assoc here (placed_of rs ps) (placed_of qs os))

-- the files of names with their offsets
pub placed_is : (d from : ℕ) (n : Names) → placed_of (rows d n) (named_places from n) ≡ placed from n
placed_is d from nothing = refl
placed_is d from (leaf name i after) =
    ap (λ (xs : List Placed). at_place i (place_of from name i) ∷ xs) (placed_is d (leaf_end from name i) after)
placed_is d from (link name i after) = placed_is d (header_end from name) after
placed_is d from (subdirectory name i own after) =
    let h = header_end from name + 64 in
    let q = ends h own in
    ap (λ (xs : List Placed). at_place i (pad16 from) ∷ xs)
    (placed_of-append (rows (d + 1) own) (rows d after) (named_places h own) (named_places q after)
    (length-named (d + 1) h own)
    ∙ ap (λ (xs : List Placed). xs ++ placed_of (rows d after) (named_places q after)) (placed_is (d + 1) h own)
    ∙ ap (λ (xs : List Placed). placed h own ++ xs) (placed_is d q after))

pub first_is : (from : ℕ) (n : Names) → first_of (named_places from n) ≡ first_place from n
first_is from nothing = refl
first_is from (leaf name i after) = refl
first_is from (link name i after) = refl
first_is from (subdirectory name i own after) = refl

-- the root's headers and those of the rows are all
pub whole : (volume : List ℕ) (root : Inode) (n : Names) (rs : List Row) (ps qs : List Place) (at : ℕ → ℕ) (r first : ℕ)
    → height n ≤ 64 → rs ≡ rows 1 n → r ≡ root_at volume → ps ≡ named_places (root_at volume + 64) n
    → qs ≡ named_places (root_at volume + 64) n → ((line : ℕ) → at line ≡ place_with (placed_of rs qs) line)
    → first ≡ first_place (root_at volume + 64) n
    → map item_of (root_headers r first root) ++ map item_of (headers_of at (replicate 66 r) rs ps)
    ≡ items_of volume root n
whole volume root n rs ps qs at r first low rs_are r_is ps_are qs_are at_is first_is =
    let s = root_at volume in
    let q = s + 64 in
    let files : placed_of rs qs ≡ placed q n =
    ap (λ (xs : List Row). placed_of xs qs) rs_are ∙ ap (placed_of (rows 1 n)) qs_are ∙ placed_is 1 q n in
    let to : at ≡ place_with (placed q n) =
    fun_ext (λ line. at_is line ∙ ap (λ (xs : List Placed). place_with xs line) files) in
    let f = place_with (placed q n) in
    let inner = ap (λ (g : ℕ → ℕ). headers_of g (replicate 66 r) rs ps) to
    ∙ ap (λ (k : ℕ). headers_of f (replicate 66 k) rs ps) r_is
    ∙ ap (λ (xs : List Row). headers_of f (replicate 66 s) xs ps) rs_are
    ∙ ap (headers_of f (replicate 66 s) (rows 1 n)) ps_are
    ∙ walked f 1 q (replicate 66 s) n (omega (arith, low)) in
    ap (λ (k : ℕ). map item_of (root_headers k first root) ++ map item_of (headers_of at (replicate 66 r) rs ps)) r_is
    ∙ ap (λ (k : ℕ). map item_of (root_headers s k root) ++ map item_of (headers_of at (replicate 66 r) rs ps)) first_is
    ∙ ap (λ (hs : List Header). map item_of (root_headers s (first_place q n) root) ++ map item_of hs) inner
