-- The rows of names determine the length of the image, and whether it is too large.
use Rattle.std.proofs.Common.{◌≡◌, ◌+◌, ◌<◌, ◌≤◌, ◌^◌, ◌||◌, ℕ, Bool, true, false, nat_lt, List, [], ◌∷◌, ◌++◌, length}
use Rattle.std.proofs.Common.{refl, ap, ◌∙◌, arith}
use Rattle.std.proofs.lemmas.Bool.{lt-ltb, le-ltb}
use Rattle.std.proofs.lemmas.List.{length-append, length-map}
use Rattle.rom_fields.specs.Padding.{pad}
use Rattle.romfs_format.specs.Record.{pad16}
use Rattle.manifest_tree.specs.Names.{Inode, Names, nothing, leaf, link, subdirectory}
use Rattle.manifest_tree.specs.Tree.{What, a_leaf, a_link, a_directory}
use Rattle.manifest_tree.specs.Files.{height}
use Rattle.romfs_layout.specs.Layout.{root_at, full_size_of, headers, all_headers, leaf_end, header_end, ends, placed}
use Rattle.romfs_layout.specs.Layout.{place_with}
use Rattle.romfs_layout.specs.Items.{item_of, items_of}
use Rattle.plan_rows.proofs.Depths.{deepest_is}
use Rattle.plan_rows.specs.Rows.{Row, rows, deepest}
use Rattle.romfs_plan.specs.Rows.{count_of, header_count, too_large}

header_count-append : (rs qs : List Row) → header_count (rs ++ qs) ≡ header_count rs + header_count qs
header_count-append [] qs = omega arith
header_count-append (r ∷ rs) qs = let e = header_count-append rs qs in omega (arith, e)

-- each name has so many headers
pub counted : (at : ℕ → ℕ) (d dir from : ℕ) (n : Names) → length (headers at dir from n) ≡ header_count (rows d n)
counted at d dir from nothing = refl
counted at d dir from (leaf name i after) = let e = counted at d dir (leaf_end from name i) after in omega (arith, e)
counted at d dir from (link name i after) = let e = counted at d dir (header_end from name) after in omega (arith, e)
counted at d dir from (subdirectory name i own after) =
    let h = header_end from name + 64 in
    let e = counted at (d + 1) (pad16 from) h own in
    let f = counted at d dir (ends h own) after in
    let g = length-append (headers at (pad16 from) h own) (headers at dir (ends h own) after) in
    let k = header_count-append (rows (d + 1) own) (rows d after) in
    omega (arith, e, f, g, k)

items_counted : (volume : List ℕ) (root : Inode) (n : Names)
    → length (items_of volume root n) ≡ 2 + header_count (rows 1 n)
items_counted volume root n =
    let r = root_at volume in
    let e = counted (place_with (placed (r + 64) n)) 1 r (r + 64) n in
    let l = length-map (all_headers r root n) item_of in
    omega (arith, e, l)

pub fewer : (rs : List Row) → length rs ≤ header_count rs
fewer [] = omega arith
fewer (r ∷ rs) = let e = fewer rs in let f = some r.what in omega (arith, e, f)
  where
    some : (w : What) → 1 ≤ count_of w
    some (a_leaf i) = omega arith
    some (a_link i) = omega arith
    some (a_directory i) = omega arith

or_true : (b : Bool) → b || true ≡ true
or_true true = refl
or_true false = refl

-- too many headers
pub too_many : (volume : List ℕ) (root : Inode) (n : Names) → 2 ^ 20 < 2 + header_count (rows 1 n)
    → too_large volume root n ≡ true
too_many volume root n h =
    let k = items_counted volume root n in
    let e : nat_lt (2 ^ 20) (length (items_of volume root n)) ≡ true =
    lt-ltb (2 ^ 20) (length (items_of volume root n)) (omega (arith, h, k)) in
    let a = nat_lt (2 ^ 28) (pad (full_size_of (root_at volume) n) 1024) in
    let b = nat_lt 64 (height n) in
    ap (λ (t : Bool). a || (false || (b || t))) e ∙ ap (λ (t : Bool). a || t) (or_true b) ∙ or_true a

-- too many names lead to a file
pub too_deep : (volume : List ℕ) (root : Inode) (n : Names) → 64 < deepest (rows 1 n) → too_large volume root n ≡ true
too_deep volume root n h =
    let k = deepest_is n in
    let e : nat_lt 64 (height n) ≡ true = lt-ltb 64 (height n) (omega (arith, h, k)) in
    let a = nat_lt (2 ^ 28) (pad (full_size_of (root_at volume) n) 1024) in
    let c = nat_lt (2 ^ 20) (length (items_of volume root n)) in
    ap (λ (t : Bool). a || (false || (t || c))) e ∙ or_true a

pub too_long : (volume : List ℕ) (root : Inode) (n : Names) → 2 ^ 28 < pad (full_size_of (root_at volume) n) 1024
    → too_large volume root n ≡ true
too_long volume root n h =
    let b = nat_lt 64 (height n) in
    let c = nat_lt (2 ^ 20) (length (items_of volume root n)) in
    ap (λ (t : Bool). t || (false || (b || c))) (lt-ltb (2 ^ 28) (pad (full_size_of (root_at volume) n) 1024) h)

pub not_large : (volume : List ℕ) (root : Inode) (n : Names) → 2 + header_count (rows 1 n) ≤ 2 ^ 20
    → deepest (rows 1 n) ≤ 64 → pad (full_size_of (root_at volume) n) 1024 ≤ 2 ^ 28 → too_large volume root n ≡ false
not_large volume root n few shallow short =
    let k = items_counted volume root n in
    let l = deepest_is n in
    let a = le-ltb (2 ^ 28) (pad (full_size_of (root_at volume) n) 1024) short in
    let b : nat_lt 64 (height n) ≡ false = le-ltb 64 (height n) (omega (arith, shallow, l)) in
    let c : nat_lt (2 ^ 20) (length (items_of volume root n)) ≡ false =
    le-ltb (2 ^ 20) (length (items_of volume root n)) (omega (arith, few, k)) in
    rw (a, b, c) refl
