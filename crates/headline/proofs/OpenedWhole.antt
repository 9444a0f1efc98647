-- A file of a manifest is opened by its path, and then lent whole.
use Rattle.std.proofs.Common.{◌≡◌, ℕ, zero, suc, ◌<◌, ◌||◌, nat_lt, Bool, true, false, cond, List, [], ◌∷◌, length}
use Rattle.std.proofs.Common.{Some, None, Result, Ok, refl, sym, subst, arith}
use Rattle.std.specs.Prelude.{slice_get, slice_set, option_and_then, is_none}
use Rattle.std.specs.List.{position_or_len}
use Rattle.std.proofs.lemmas.Bool.Decides.{nat_tests}
use Rattle.rom_tree.specs.Image.{Image}
use Rattle.rom_tree.specs.Tree.{Node, node, directory, regular, symlink, block, character, socket, fifo, places_of}
use Rattle.rom_tree.specs.Tree.{is_directory, is_regular, is_link}
use Rattle.manifest_tree.specs.Placement.{IsRun}
use Rattle.manifest.specs.Lines.{ManifestLines}
use Rattle.manifest.specs.Paths.{names_of}
use Rattle.manifest_layout.specs.Placement.{IsPlaced}
use Rattle.manifest_tree.specs.Shape.{node_under}
use Rattle.open_files.specs.Calls.{Answer}
use Rattle.open_files.specs.Machine.{Open, Table, lowest_free, open_at, open_place, put, walked}
use Rattle.path_walk.specs.declared.error.WalkError.{WalkError}
use Rattle.path_walk.specs.Resolution.{resolution, tree_namespace}
use Rattle.headline.specs.Lent.{AreOpenedWhole, IsMappedWhole, IsOpenedWhole, open_after}
use Rattle.headline.proofs.Paths.{path_leads}
use Rattle.headline.proofs.Whole.{whole_gives}

less : (i n : ℕ) → nat_lt i n ≡ true → i < n
less i n h = grind (arith, nat_tests)

free_by : (v : Bool) (i n fd : ℕ) → nat_lt i n ≡ v → cond v (Some i) None ≡ Some fd → fd < n
free_by false i n fd h e = absurd (cc)
free_by true i n fd h e = let same : i ≡ fd = cc in subst (λ k. k < n) same (less i n h)

-- a free number is one of the table
within : (t : Table Node) (fd : ℕ) → lowest_free t ≡ Some fd → fd < length t
unfolding lowest_free
within t fd e = free_by (nat_lt (position_or_len is_none t) (length t)) (position_or_len is_none t) (length t) fd refl e

set_get : (t : Table Node) (i : ℕ) (o : Open Node) → i < length t
    → option_and_then (λ o. o) (slice_get (slice_set t i (Some o)) i) ≡ Some o
set_get [] i o h = absurd (omega (arith, h))
set_get (s ∷ t) zero o h = refl
set_get (s ∷ t) (suc i) o h = set_get t i o (omega (arith, h))

-- what is put at a number is open there
put_open : (t : Table Node) (i : ℕ) (o : Open Node) → i < length t → open_at (put t i (Some o)) i ≡ Some o
unfolding open_at put
put_open t i o h = set_get t i o h

regular_opens : (x : Node) → is_regular x ≡ true → (is_directory x || is_regular x ≡ true) × (is_link x ≡ false)
regular_opens (node a (directory es)) h = absurd (cc)
regular_opens (node a (regular ps)) h = (refl, refl)
regular_opens (node a (symlink ps)) h = absurd (cc)
regular_opens (node a block) h = absurd (cc)
regular_opens (node a character) h = absurd (cc)
regular_opens (node a socket) h = absurd (cc)
regular_opens (node a fifo) h = absurd (cc)

abbrev fresh : Node → Open Node
fresh x = record { place = x; position = 0 }

pub opened_whole : (m : Image) (lines : List (List ℕ)) (path n : List ℕ) (ns : List (List ℕ)) (x : Node) (fd align : ℕ)
    → IsRun align (places_of x) → names_of path ≡ Some (n ∷ ns) → node_under (n ∷ ns) m.tree ≡ Some x
    → is_regular x ≡ true
    → 0 < length (places_of x) → lowest_free (open_after m lines) ≡ Some fd → IsOpenedWhole m lines path fd x align
opened_whole m lines path n ns x fd align run names under is some free =
    let t = open_after m lines in
    let kind = regular_opens x is in
    let leads = path_leads m.bytes m.tree x path n ns names under kind.1 in
    let call : Result Node WalkError → Answer (Table Node) ℕ =
    λ r. walked t (λ y. open_place t y (is_directory y || is_regular y)) r in
    let reply : (call (resolution (tree_namespace m.bytes m.tree) path true)).reply ≡ Ok fd =
    rw (leads, kind.0, free) refl in
    let state : (call (resolution (tree_namespace m.bytes m.tree) path true)).state ≡ put t fd (Some (fresh x)) =
    rw (leads, kind.0, free) refl in
    let at : open_at (put t fd (Some (fresh x))) fd ≡ Some (fresh x) = put_open t fd (fresh x) (within t fd free) in
    let mapped : IsMappedWhole m (put t fd (Some (fresh x))) fd x align =
    whole_gives m (put t fd (Some (fresh x))) fd align (fresh x) at run some in
    record { opened = reply; mapped = subst (λ (s : Table Node). IsMappedWhole m s fd x align) (sym state) mapped }

pub placed_opened : (m : Image) (lines : ManifestLines) → IsPlaced m.tree lines → AreOpenedWhole m lines
placed_opened m all placed lines l o n ns x fd has leads names under is some free =
    opened_whole m lines l.path n ns x fd o.align (placed l o n ns x has leads names under) names under is some free
