-- The offsets of a file's runs, and the order of names.
use Rattle.std.proofs.Common.{◌≡◌, ℕ, ◌+◌, ◌-◌, List, [], ◌∷◌, ◌++◌, length, get_or, take, drop, length-append}
use Rattle.std.proofs.Common.{length-drop, Some, sym, ap, ◌∙◌, arith}
use Rattle.std.proofs.lemmas.List.{get_or-drop, drop-drop}
use Rattle.rom_tree.specs.declared.types.Run.{Run}
use Rattle.rom_tree.specs.Tree.{Node, IsIn, nodes, ino_of, places_of, row_from}
use Rattle.rom_tree.specs.Image.{Image, image_node, IsRun, contents_of}
use Rattle.rom_tree.proofs.Nodes.{node_at-in}
use Rattle.rom_tree.proofs.Numbers.{length_row}
use Rattle.image_info.specs.Runs.{Piece, runs, joined, GoOn, LieAt}
use Rattle.image_info.proofs.Pieces.{get_row, drop_row, runs_joined, runs_go}
use Rattle.image_info.proofs.Copied.{run_contents}

-- the run of a piece
abbrev run_of : Piece → Run
run_of r = record { place = r.place; len = r.count }

piece_run : (ps : List ℕ) (o e : ℕ) (r : Piece) (rs : List Piece) → GoOn o (r ∷ rs) e → joined (r ∷ rs) ≡ drop o ps
    → IsRun ps o (run_of r)
piece_run ps o e r rs g j =
    let l : length (row_from r.place r.count ++ joined rs) ≡ length (row_from r.place r.count) + length (joined rs) =
    length-append (row_from r.place r.count) (joined rs) in
    let n : length (row_from r.place r.count) ≡ r.count = length_row r.place r.count in
    let d : length (drop o ps) ≡ length ps - o = length-drop o ps in
    let a : length (row_from r.place r.count ++ joined rs) ≡ length (drop o ps) = ap length j in
    record {
      some = g.1;
      within = omega (arith, l, n, d, a, g.1);
      row = λ k w. sym (get_or-drop o ps k 0)
          ∙ (ap (λ (v : List ℕ). get_or v k 0) (sym j) ∙ get_row r.place r.count (joined rs) k w);
    }

lie : (m : Image) (x : Node) → image_node m (ino_of x) ≡ Some x → (o e : ℕ) (rs : List Piece) → GoOn o rs e
    → joined rs ≡ drop o (places_of x) → LieAt m.bytes (contents_of m.bytes x) rs
lie m x is o e [] g j = tt
lie m x is o e (r ∷ rs) g j =
    let here : take r.count (drop r.place m.bytes) ≡ take r.count (drop o (contents_of m.bytes x)) =
    run_contents m (ino_of x) x o (run_of r) is (piece_run (places_of x) o e r rs g j) in
    let next : joined rs ≡ drop (o + r.count) (places_of x) =
    sym (drop_row r.place r.count (joined rs)) ∙ (ap (drop r.count) j ∙ drop-drop r.count o (places_of x)) in (
      here ∙ ap (λ (v : ℕ). take r.count (drop v (contents_of m.bytes x))) (sym g.0),
      lie m x is (o + r.count) e rs g.2 next,
    )

-- the runs of a file's offsets
pub runs_lie : (m : Image) (x : Node) → IsIn x (nodes m.tree)
    → LieAt m.bytes (contents_of m.bytes x) (runs (places_of x))
runs_lie m x h = lie m x (node_at-in m.tree x m.coherent h) 0 (length (places_of x)) (runs (places_of x))
    (runs_go 0 (length (places_of x)) (places_of x) (omega arith)) (runs_joined 0 (places_of x))
