-- What is planned has offsets and words within their limits.
use Rattle.std.proofs.Common.{◌≡◌, ◌+◌, ◌<◌, ◌≤◌, ◌^◌, ℕ, List, length, map, get_or, sym, ap, subst, ◌∙◌, arith}
use Rattle.std.proofs.lemmas.List.{length-map}
use Rattle.std.proofs.lemmas.List.Elements.{All-from_recursion}
use Rattle.std.specs.List.{All, AllByRecursion as Every}
use Rattle.record_forest.proofs.Lists.{every_join}
use Rattle.rom_tree.specs.declared.types.Kind.{Kind}
use Rattle.rom_tree.specs.declared.types.Kind.TheVariants.{Directory, Regular, Symlink, Block, Character, Socket, Fifo}
use Rattle.manifest_tree.specs.Names.{Inode, Names, nothing, leaf, link, subdirectory}
use Rattle.manifest_tree.specs.Tree.{What, a_leaf, a_link, a_directory}
use Rattle.manifest_tree.specs.Files.{height}
use Rattle.romfs_layout.specs.Layout.{leaf_end, header_end, ends, root_at, placed, place_with}
use Rattle.romfs_layout.specs.Planned.{IsPlanned}
use Rattle.romfs_layout.specs.Wells.{FitsKind, AreWell}
use Rattle.romfs_layout.proofs.Places.{ends_after, first_within}
use Rattle.plan_rows.specs.Rows.{rows, row_view}
use Rattle.plan_rows.specs.declared.row.Row.{Row as CodeRow}
use Rattle.romfs_plan.specs.declared.places.Place.{Place}
use Rattle.romfs_plan.specs.Passes.{named_places}
use Rattle.romfs_plan.specs.Headers.{IsNear, IsFineWhat, IsFineRow}
use Rattle.romfs_plan.specs.Rows.{IsFitWhat, IsFitRow}
use Rattle.romfs_plan.proofs.Sizes.{counted, fewer}

numbers : (k : Kind) (i : Inode) → FitsKind k i → (i.major < 65536) × (i.minor < 65536)
numbers Directory i h = absurd h
numbers Regular i h = (let a = h.0 in omega (arith, a), let b = h.1 in omega (arith, b))
numbers Symlink i h = (let a = h.0 in omega (arith, a), let b = h.1 in omega (arith, b))
numbers Block i h = (h.0, h.1)
numbers Character i h = (h.0, h.1)
numbers Socket i h = (let a = h.0 in omega (arith, a), let b = h.1 in omega (arith, b))
numbers Fifo i h = (let a = h.0 in omega (arith, a), let b = h.1 in omega (arith, b))

-- offsets within the image
near : (cs : List (List ℕ)) (from : ℕ) (n : Names) → AreWell cs n → ends from n ≤ 2 ^ 28
    → Every IsNear (named_places from n)
near cs from nothing w room = tt
near cs from (leaf name i after) w room =
    let q = leaf_end from name i in
    let a = ends_after cs q after w.2 in
    let b = first_within cs q after w.2 in
    ((omega (arith, room, a), omega (arith, room, b), omega arith), near cs q after w.2 room)
near cs from (link name i after) w room =
    let q = header_end from name in
    let a = ends_after cs q after w.2 in
    let b = first_within cs q after w.2 in
    ((omega (arith, room, a), omega (arith, room, b), omega arith), near cs q after w.2 room)
near cs from (subdirectory name i own after) w room =
    let h = header_end from name + 64 in
    let q = ends h own in
    let a = ends_after cs q after w.3 in
    let b = first_within cs q after w.3 in
    let c = ends_after cs h own w.2 in
    let e = first_within cs h own w.2 in
    let within : q ≤ 2 ^ 28 = omega (arith, room, a) in (
      (omega (arith, room, a, c), omega (arith, room, b), omega (arith, room, a, e)),
      every_join IsNear (named_places h own) (named_places q after) (near cs h own w.2 within)
          (near cs q after w.3 room),
    )

-- rows whose words fit
fine : (cs : List (List ℕ)) (d from : ℕ) (n : Names) → AreWell cs n → d + height n ≤ 65 → ends from n ≤ 2 ^ 28
    → Every IsFineRow (rows d n)
fine cs d from nothing w low room = tt
fine cs d from (leaf name i after) w low room =
    let q = leaf_end from name i in
    let a = ends_after cs q after w.2 in
    let k = numbers i.kind i w.1.kind in (
      (w.0.written.short, omega (arith, low), (omega (arith, room, a), k.0, k.1)),
      fine cs d q after w.2 (omega (arith, low)) room,
    )
fine cs d from (link name i after) w low room =
    let q = header_end from name in
    ((w.0.written.short, omega (arith, low), tt), fine cs d q after w.2 (omega (arith, low)) room)
fine cs d from (subdirectory name i own after) w low room =
    let h = header_end from name + 64 in
    let q = ends h own in
    let a = ends_after cs q after w.3 in
    let within : q ≤ 2 ^ 28 = omega (arith, room, a) in (
      (w.0.written.short, omega (arith, low), tt),
      every_join IsFineRow (rows (d + 1) own) (rows d after) (fine cs (d + 1) h own w.2 (omega (arith, low)) within)
          (fine cs d q after w.3 (omega (arith, low)) room),
    )

-- of planned names
pub fine_rows : (volume : List ℕ) (root : Inode) (n : Names) (cs : List (List ℕ)) (rs : List CodeRow)
    → map row_view rs ≡ rows 1 n → IsPlanned volume root n cs → Every IsFineRow (map row_view rs)
fine_rows volume root n cs rs e p =
    let s = p.shallow in
    subst (Every IsFineRow) (sym e) (fine cs 1 (root_at volume + 64) n p.well (omega (arith, s)) p.room)

pub near_places : (volume : List ℕ) (root : Inode) (n : Names) (cs : List (List ℕ)) (ps : List Place)
    → IsPlanned volume root n cs → ps ≡ named_places (root_at volume + 64) n → All IsNear ps
near_places volume root n cs ps p e =
    subst (All IsNear) (sym e) (All-from_recursion IsNear (named_places (root_at volume + 64) n)
    (near cs (root_at volume + 64) n p.well p.room))

pub few_rows : (volume : List ℕ) (root : Inode) (n : Names) (cs : List (List ℕ)) (rs : List CodeRow)
    → map row_view rs ≡ rows 1 n → IsPlanned volume root n cs → length rs ≤ 2 ^ 20
few_rows volume root n cs rs e p =
    let r = root_at volume in
    let a = counted (place_with (placed (r + 64) n)) 1 r (r + 64) n in
    let b = fewer (rows 1 n) in
    let c = sym (length-map rs row_view) ∙ ap length e in
    let f = p.few in
    omega (arith, a, b, c, f)

-- fine rows are fit
pub each_fit : (rs : List CodeRow) → All (λ r. IsFineRow (row_view r)) rs → All (λ r. IsFitRow (row_view r)) rs
each_fit rs h k d l = let f = h k d l in (f.0, fit (row_view (get_or rs k d)).what f.2)
  where
    fit : (w : What) → IsFineWhat w → IsFitWhat w
    fit (a_leaf i) h = h.0
    fit (a_link i) h = tt
    fit (a_directory i) h = tt
