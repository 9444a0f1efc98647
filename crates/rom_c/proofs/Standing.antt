-- The open file in an image, and at the numbers from which the image is made again.
use Rattle.std.proofs.Common.{◌≡◌, ℕ, List, [], subst, arith, true, Option, Some, None, refl, sym, ap, ◌∙◌}
use Rattle.std.proofs.lemmas.Bool.{false≢true}
use Rattle.std.specs.Prelude.{is_some, ◌||◌}
use Rattle.rom_tree.specs.Tree.{Node, node_at, is_directory, is_regular}
use Rattle.rom_tree.specs.Image.{Image, LieIn, image_node}
use Rattle.rom_tree.specs.declared.types.NodeId.{NodeId}
use Rattle.open_files.specs.declared.slot.OpenNode.{OpenNode}
use Rattle.open_files.specs.Machine.{Open}
use Rattle.open_files.specs.Slots.{image_view, IsImage, stands, open_as}
use Rattle.open_files.proofs.Standing.{open_start}
use Rattle.image_check.specs.declared.any.Parts.{Parts}
use Rattle.image_check.specs.Parts.{tree_of_parts, cursors_of_parts}
use Rattle.rom_c.specs.Opened.{stands_in, stands_at}

pub some_by : (v : Option (Open Node)) → is_some v ≡ true → (x : Open Node) × (v ≡ Some x)
some_by None h = absurd (false≢true h)
some_by (Some x) h = (x, refl)

alone : (m : Image) (i : ℕ) → IsImage (image_view m) i m
alone m i = record {
  node = λ n x e. e;
  bytes = λ n x e. refl;
  number = λ n x e. refl;
  index = λ d c. refl;
}

-- an image that was made again of numbers has the same open
pub same : (m : Image) (all : List ℕ) (n : Parts) (s : OpenNode) (node position : ℕ)
    → m.cursor_index ≡ cursors_of_parts all n
    → s.node.0 ≡ node → s.position ≡ position → stands (image_view m) s ≡ stands_in m.tree all n node position
same m all n s node position f h k =
    ap (λ (c : ℕ → ℕ → Option ℕ). open_as (λ x. x) s.position (c s.node.0 s.position) (node_at m.tree s.node.0)) f
    ∙ (ap (λ z. stands_in m.tree all n z s.position) h ∙ ap (λ z. stands_in m.tree all n node z) k)

-- and so in the tree of the numbers
pub kept : (m : Image) (all : List ℕ) (n : Parts) (node position : ℕ) → m.tree ≡ tree_of_parts all n
    → stands_in m.tree all n node position ≡ stands_at all n node position
kept m all n node position e = ap (λ t. stands_in t all n node position) e

-- what can be opened is at its start
pub starts : (m : Image) (all : List ℕ) (n : Parts) (i : NodeId) (x : Node) → m.cursor_index ≡ cursors_of_parts all n
    → image_node m i.0 ≡ Some x → true ≡ (is_directory x || is_regular x)
    → stands_in m.tree all n i.0 0 ≡ Some (record { place = x; position = 0 })
starts m all n i x f h b =
    let s : OpenNode = record { image = 0; node = i; position = 0 } in
    sym (same m all n s i.0 0 f refl refl) ∙ open_start (image_view m) s x m (alone m 0) h b refl

-- no bytes are somewhere in any bytes
pub nothing_lies : (bytes part : List ℕ) → part ≡ [] → LieIn bytes part
nothing_lies bytes part e = let P : List ℕ → Type 0 = λ v. LieIn bytes v in subst P (sym e) (0, omega arith, refl)
