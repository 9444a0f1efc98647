-- Offsets in a row, and the bytes there.
use Rattle.std.proofs.Common.{◌≡◌, ℕ, ◌+◌, ◌-◌, ◌<◌, ◌≤◌, List, length, get_or, take, drop, map, Some, sym, ap, ◌∙◌}
use Rattle.std.proofs.Common.{arith, length-take, length-drop, zero-add}
use Rattle.std.proofs.lemmas.List.{get_or-map, get_or-take, get_or-drop, length-map, drop-take, take-take}
use Rattle.std.proofs.lemmas.Grind.{same_number_lists}
use Rattle.std.specs.Prelude.{slice_index}
use Rattle.rom_tree.specs.declared.types.Run.{Run}
use Rattle.rom_tree.specs.Tree.{Node, places_of}
use Rattle.rom_tree.specs.Image.{Image, image_node, IsRun, LieIn}
use Rattle.rom_tree.proofs.Nodes.{node_at-some}

-- bytes in a row are those at the offsets of a row
pub row_bytes : (b qs : List ℕ) (place len : ℕ) → len ≡ length qs → ((k : ℕ) → k < len → slice_index qs k ≡ place + k)
    → place + len ≤ length b → take len (drop place b) ≡ map (λ p. slice_index b p) qs
row_bytes b qs place len e row fits =
    same_number_lists (take len (drop place b)) (map (λ (p : ℕ). get_or b p 0) qs)
    (simp (length-take, length-drop, length-map) (omega arith))
    (λ k l.
    let h = simp (length-take, length-drop) at l in
    let l' : k < len = omega arith in
    let m : k < length qs = omega arith in
    get_or-take len (drop place b) k 0 l'
    ∙ (get_or-drop place b k 0 ∙ (ap (λ (v : ℕ). get_or b v 0) (sym (row k l'))
    ∙ sym (get_or-map (λ (p : ℕ). get_or b p 0) qs k 0 0 m))))

-- what is in a front of the bytes is in all of them
pub lies_in_front : (bytes b part : List ℕ) (p : ℕ) → b ≡ take (length b) bytes → length b ≤ length bytes
    → p + length part ≤ length b → take (length part) (drop p b) ≡ part
    → LieIn bytes part
lies_in_front bytes b part p front within ends e =
    let n : ℕ = length part in
    let m : ℕ = length b - p in
    let s : p + m ≡ length b = omega (arith, ends) in
    let cut : take n (drop p b) ≡ take n (drop p bytes) =
    ap (λ (v : List ℕ). take n (drop p v)) front
    ∙ (ap (λ (k : ℕ). take n (drop p (take k bytes))) (sym s)
    ∙ (ap (take n) (drop-take p m bytes) ∙ take-take n m (drop p bytes) (omega (arith, ends)))) in
    (p, omega (arith, ends, within), sym cut ∙ e)

-- a node's run ends within the bytes
pub row_end : (m : Image) (n : ℕ) (x : Node) (off : ℕ) (r : Run) → image_node m n ≡ Some x → IsRun (places_of x) off r
    → r.place + r.len ≤ length m.bytes
row_end m n x off r e i =
    let within = (node_at-some m.tree n x e).within in
    let last : r.len - 1 < r.len = (let s = i.some in omega arith) in
    let w = i.within in
    let p = m.placed x within (off + (r.len - 1)) (omega arith) in
    omega (arith, p, i.row (r.len - 1) last)

-- a row that begins at the front
pub row_front : (ps : List ℕ) (place len : ℕ) → ((k : ℕ) → k < len → slice_index ps (0 + k) ≡ place + k) → (k : ℕ)
    → k < len → slice_index ps k ≡ place + k
row_front ps place len h k l = ap (slice_index ps) (sym (zero-add k)) ∙ h k l

-- a run from the front that has all offsets reads as the bytes at the offsets
pub run_bytes : (m : Image) (n : ℕ) (x : Node) (r : Run) → image_node m n ≡ Some x → IsRun (places_of x) 0 r
    → r.len ≡ length (places_of x) → take r.len (drop r.place m.bytes) ≡ map (λ p. slice_index m.bytes p) (places_of x)
run_bytes m n x r e i w = row_bytes m.bytes (places_of x) r.place r.len w (row_front (places_of x) r.place r.len i.row)
    (row_end m n x 0 r e i)
