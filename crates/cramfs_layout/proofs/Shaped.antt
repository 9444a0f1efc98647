-- The tree of a planned volume has the shape of its names.
use Rattle.std.proofs.Common.{◌↔◌, ◌≡◌, ◌≢◌, ℕ, ◌+◌, ◌^◌, ◌≤◌, List, ◌∷◌, length, refl, sym, ap, subst, ◌∙◌, arith, inl}
use Rattle.std.proofs.Common.{inr}
use Rattle.std.specs.List.{AllByRecursion as Every}
use Rattle.rom_tree.specs.Tree.{Node, Entries, ino_of, places_of}
use Rattle.record_forest.specs.declared.reference.Row.{Row}
use Rattle.record_forest.specs.Forest.{rows}
use Rattle.record_forest.specs.Members.{Has, Pairs}
use Rattle.record_forest.proofs.Lists.{every_weaker, every_both, every_all, every_of, every_map, pairs_map}
use Rattle.record_forest.proofs.Lists.{pairs_weaker}
use Rattle.cramfs_format.specs.declared.order.Order.{Order}
use Rattle.cramfs_format.specs.Refers.{references}
use Rattle.cramfs_format.specs.Tree.{node_of, attributes_at, tree_of, entries_at}
use Rattle.manifest_tree.specs.Names.{Inode, Names}
use Rattle.manifest_tree.specs.Files.{Placed, at_place}
use Rattle.manifest_tree.specs.Placement.{IsRun, AreInRuns}
use Rattle.manifest_tree.specs.Shape.{Named, node_value, file_value, node_under, file_under, with_names, HasShape}
use Rattle.manifest_tree.proofs.Alike.{every_unmap, pairs_unmap}
use Rattle.manifest_tree.proofs.Alike.{Alike, alike_map, alike_some, same_both}
use Rattle.cramfs_layout.specs.Layout.{list_len, first_state, after_names, layout}
use Rattle.cramfs_layout.specs.Planned.{IsPlanned}
use Rattle.cramfs_layout.specs.Forest.{spots}
use Rattle.cramfs_layout.proofs.Named.{Located, located, Apart, all_apart}
use Rattle.cramfs_layout.proofs.Whole.{all_spots}
use Rattle.cramfs_layout.proofs.Image.{is_image}
use Rattle.cramfs_layout.specs.Items.{AreAlignedBy}
use Rattle.cramfs_layout.proofs.Filled.{are_filled}
use Rattle.cramfs_layout.proofs.InRuns.{IsAligned, files_aligned, node_run}
use Rattle.cramfs_layout.proofs.Values.{IsAt, file_is, directory_is}
use Rattle.cramfs_layout.proofs.Paths.{placed, placed_files, placed_rows, IsGood, a_file, a_directory, IsShown, IsEnd}
use Rattle.cramfs_layout.proofs.Paths.{path_alike, entries_one}

ino_at : (o : Order) (b : List ℕ) (p : ℕ) (es : Entries) → ino_of (node_of o b p es) ≡ p
unfolding node_of attributes_at
ino_at o b p es = refl

-- two nodes have one number exactly if they have one offset
same_nodes : (o : Order) (b : List ℕ) (x y : Node) (p q : ℕ) (es fs : Entries) (A : Type 0) → x ≡ node_of o b p es
    → y ≡ node_of o b q fs → (p ≡ q) ↔ A → (ino_of x ≡ ino_of y) ↔ A
same_nodes o b x y p q es fs A e f both =
    let n1 : ino_of x ≡ p = ap ino_of e ∙ ino_at o b p es in
    let n2 : ino_of y ≡ q = ap ino_of f ∙ ino_at o b q fs in
    (λ z. both.0 (sym n1 ∙ z ∙ n2), λ a. n1 ∙ both.1 a ∙ sym n2)

good_value : (o : Order) (b : List ℕ) (cs : List (List ℕ)) (high : ℕ) (i : Inode) (p : ℕ) (es : Entries)
    → high ≤ 2 ^ 28 → IsGood cs i → IsAt o b cs high i p → node_value b (node_of o b p es) ≡ file_value cs i
good_value o b cs high i p es top (a_file f) a = file_is o b cs high i p es top f a
good_value o b cs high i p es top (a_directory f) a = directory_is o b cs high i p es f.kind f.numbers f.bytes a

-- all files, the root first
abbrev pub all_placed : Inode → Names → List Placed
all_placed root n = at_place root 64 ∷ placed 76 (first_state n) n

-- the known facts of a placed file: it is among all of them, and P
abbrev pub IsOne : (Placed → Type 0) → Inode → Names → Placed → Type 0
IsOne P root n x = Has (λ u. u ≡ x) (all_placed root n) × P x

-- what is at each path of the tree is the file there, and P holds of it
pub ends_alike : (o : Order) (volume : List ℕ) (root : Inode) (n : Names) (cs : List (List ℕ))
    → IsPlanned volume root n cs → (P : Placed → Type 0) → P (at_place root 64) → Every P (placed 76 (first_state n) n)
    → (q : List (List ℕ))
    → Alike (IsEnd o (layout o volume root n cs) cs (after_names (first_state n) n).at (IsOne P root n))
    (node_under q (tree_of o (layout o volume root n cs) (all_spots n))) (file_under q (with_names root n))
unfolding tree_of
ends_alike o volume root n cs h P first every q =
    let b = layout o volume root n cs in
    let i = is_image o volume root n cs h in
    let held = i.holds in
    let s = first_state n in
    let high = (after_names s n).at in
    let xs = placed 76 s n in
    let all = all_placed root n in
    let Q : Placed → Type 0 = IsOne P root n in
    let es = entries_at o b (spots 76 s n) in
    let t = node_of o b 64 es in
    let m = with_names root n in
    let top : IsShown o b cs high Q t m = record {
      place = 64;
      l = 76;
      s = s;
      entries = es;
      is = refl;
      list = entries_one o b 64 es held.kind;
      good = a_directory h.directory;
      here = record {
        type = i.read.type;
        mode = i.read.mode;
        uid = i.read.uid;
        gid = i.read.gid;
        size_is = λ z. absurd (z h.directory.kind);
        content = λ z. absurd (z h.directory.kind);
      };
      known = (inl refl, first);
      reads = held.reads;
      inner = every_both (λ (x : Placed). Has (λ u. u ≡ x) all) P xs
          (every_of (λ (x : Placed). Has (λ u. u ≡ x) all) xs (λ x k. inr k)) every;
      well = h.well;
    } in
    path_alike o b cs high Q q t m top

pub has_shape : (o : Order) (volume : List ℕ) (root : Inode) (n : Names) (cs : List (List ℕ))
    → IsPlanned volume root n cs
    → HasShape (layout o volume root n cs) (tree_of o (layout o volume root n cs) (all_spots n)) cs root n
has_shape o volume root n cs h =
    let b = layout o volume root n cs in
    let i = is_image o volume root n cs h in
    let held = i.holds in
    let s = first_state n in
    let high = (after_names s n).at in
    let xs = placed 76 s n in
    let all = all_placed root n in
    let P : Placed → Type 0 = λ _. Unit {0} in
    let Q : Placed → Type 0 = IsOne P root n in
    let t = tree_of o b (all_spots n) in
    let m : Named = with_names root n in
    let alike = ends_alike o volume root n cs h P tt (every_all P (λ _. tt) xs) in
    let value : (x : Node) (j : Inode) → IsEnd o b cs high Q x j → node_value b x ≡ file_value cs j =
    λ x j k. ap (node_value b) k.is ∙ good_value o b cs high j k.place k.entries held.room k.good k.here in
    let x1 = (references o b).own (references o b).top in
    let ys = rows (references o b) x1 64 64 1 (spots 76 s n) in
    let same = placed_rows o b cs x1 64 64 1 76 s n h.well in
    let found = located o b cs high x1 64 64 1 76 s n h.well held.reads (omega arith) in
    let apart = all_apart o b cs high x1 64 64 1 76 s n h.well held.reads (omega arith) (omega arith) in
    let far : Every (λ (x : Placed). 64 ≢ x.place) xs =
    every_unmap (λ (x : Placed). x.place) (λ p. 64 ≢ p) xs
    (subst (Every (λ p. 64 ≢ p)) (sym same) (every_map (λ (y : Row). y.offset) (λ p. 64 ≢ p) ys
    (every_weaker (Located o b 64 76 (76 + list_len n) s.at high n) (λ (y : Row). 64 ≢ y.offset)
    (λ y k z. elim k [
      | inl w ↦ let u = w.0 in absurd (omega (arith, z))
      | inr w ↦ let u = w.0 in absurd
          (omega (arith, z))
    ]) ys found))) in
    let places : Pairs (λ (u w : Placed). u.place ≢ w.place) all = (
      far,
      pairs_unmap (λ (x : Placed). x.place) (λ p q. p ≢ q) xs
          (subst (Pairs (λ p q. p ≢ q)) (sym same) (pairs_map (λ (y : Row). y.offset) (λ p q. p ≢ q) ys
          (pairs_weaker (Apart o b) (λ (y z : Row). y.offset ≢ z.offset) (λ y z k. k.0) ys apart))),
    ) in
    let lines : Pairs (λ (u w : Placed). u.inode.line ≢ w.inode.line) all =
    pairs_unmap (λ (x : Placed). x.inode) (λ (i j : Inode). i.line ≢ j.line) all
    (subst (Pairs (λ (i j : Inode). i.line ≢ j.line))
    (ap (λ (js : List Inode). root ∷ js) (sym (placed_files 76 s n))) h.lines) in
    record {
      values = λ q. alike_map (IsEnd o b cs high Q) (node_value b) (file_value cs) value (node_under q t)
          (file_under q m) (alike q);
      shared = λ p q x y j k a e f g.
          let u = alike_some (IsEnd o b cs high Q) (node_under p t) (file_under p m) x j (alike p) a f in
          let w = alike_some (IsEnd o b cs high Q) (node_under q t) (file_under q m) y k (alike q) e g in
          let both = same_both all (record { inode = j; place = u.place })
          (record { inode = k; place = w.place }) places lines u.known.0 w.known.0 in
          same_nodes o b x y u.place w.place u.entries w.entries (j.line ≡ k.line) u.is w.is both;
    }

-- at the end of a path the file has its offsets in a run
end_run : (o : Order) (b : List ℕ) (cs : List (List ℕ)) (high : ℕ) (root : Inode) (n : Names) (x : Node) (i : Inode)
    → length b ≤ 2 ^ 28 → IsEnd o b cs high (IsOne (IsAligned o b cs) root n) x i → IsRun i.align (places_of x)
end_run o b cs high root n x i l e =
    let run = node_run o b cs high i e.place e.entries l e.good e.here e.known.1 in
    subst (λ (y : Node). IsRun i.align (places_of y)) (sym e.is) run

pub has_runs : (o : Order) (volume : List ℕ) (root : Inode) (n : Names) (cs : List (List ℕ)) (A : ℕ → ℕ)
    → IsPlanned volume root n cs → AreAlignedBy A n
    → AreInRuns (tree_of o (layout o volume root n cs) (all_spots n)) root n
has_runs o volume root n cs A h al q x i a f =
    let b = layout o volume root n cs in
    let image = is_image o volume root n cs h in
    let s = first_state n in
    let high = (after_names s n).at in
    let P = IsAligned o b cs in
    let Q = IsOne P root n in
    let t = tree_of o b (all_spots n) in
    let filled = are_filled o cs A b 76 s n refl h.well al image.holds.has in
    let aligned = files_aligned o b cs high 76 s n h.well image.holds.reads filled.0 filled.1 in
    let first : P (at_place root 64) = λ z. absurd (z h.directory.kind) in
    let e = alike_some (IsEnd o b cs high Q) (node_under q t) (file_under q (with_names root n)) x i
    (ends_alike o volume root n cs h P first aligned q) a f in
    let long = image.long in
    let room = h.room in
    end_run o b cs high root n x i (omega (arith, long, room)) e
