-- The frames of a directory that is collected, and those of the directories in it.
use Rattle.std.proofs.Common.{◌≡◌, ℕ, suc, ◌+◌, ◌<◌, true, false, List, Some, None, refl, ap, subst, arith}
use Rattle.rom_tree.specs.declared.types.NodeId.{NodeId}
use Rattle.rom_tree.specs.Frames.{IsFrame, left}
use Rattle.rom_tree.specs.Image.{Image, image_node, HasNode, IsEntry}
use Rattle.rom_tree.specs.Tree.{Node, entries_of, entry, entry_at, entry_count, is_directory, no_entries}
use Rattle.rom_tree.proofs.Named.{entry_node, has_directory, has_node}
use Rattle.rom_tree.proofs.Nodes.{not_directory_entries}
use Rattle.rom_tree.proofs.Stacks.{IsOpen, opened, left_none, left_some, left_child, frame_next, frame_child}
use Rattle.rom_tree.proofs.Stacks.{frame_fits}
use Rattle.image_compare.specs.Rows.{frame_of}

-- at the end nothing is left
pub none_left : (m : Image) (k : ℕ) (node : NodeId) (c : ℕ) → IsFrame m k (frame_of node c)
    → ((x : Node) (i : ℕ) → image_node m node.0 ≡ Some x → m.cursor_index node.0 c ≡ Some i
    → entry_at (entries_of x) i ≡ None) → left m (frame_of node c) ≡ no_entries
none_left m k node c h none =
    let o : IsOpen m (frame_of node c) = opened m k (frame_of node c) h in
    left_none m (frame_of node c) o (none o.dir o.index o.is_dir o.is_index)

-- at the front all is
pub all_left : (m : Image) (node : NodeId) (x : Node) → image_node m node.0 ≡ Some x
    → left m (frame_of node 0) ≡ entries_of x
all_left m node x h = left_child m (frame_of node 0) x h (m.starts node.0)

module _ (m : Image) (k : ℕ) (node : NodeId) (c d : ℕ) (h : IsFrame m k (frame_of node c)) (name : List ℕ) (n : NodeId)
    (given : (x : Node) (i : ℕ) → image_node m node.0 ≡ Some x → m.cursor_index node.0 c ≡ Some i
    → IsEntry m node.0 (entries_of x) i name n.0 d) where
  abbrev pub here : IsOpen m (frame_of node c)
  here = opened m k (frame_of node c) h

  abbrev pub is_entry : IsEntry m node.0 (entries_of here.dir) here.index name n.0 d
  is_entry = given here.dir here.index here.is_dir here.is_index

  abbrev pub target : Node
  target = is_entry.target

  pub target_is : image_node m n.0 ≡ Some target
  target_is = entry_node m node.0 here.dir here.index name n.0 d here.is_dir is_entry

  pub target_there : HasNode m n.0
  target_there = has_node m n.0 target target_is

  pub next : left m (frame_of node c) ≡ entry name target (left m (frame_of node d))
  next = left_some m (frame_of node c) (frame_of node d) here name n.0 is_entry refl

  pub further : IsFrame m k (frame_of node d)
  further = frame_next m k (frame_of node c) (frame_of node d) here name n.0 is_entry refl h

  pub room : k < 65
  room = frame_fits m k (frame_of node c) h

  pub child : is_directory target ≡ true → IsFrame m (k + 1) (frame_of n 0)
  child t =
      let P : ℕ → Type 0 = λ v. IsFrame m v (frame_of n 0) in
      let e : suc k ≡ k + 1 = omega arith in
      subst P e (frame_child m k (frame_of node c) (frame_of n 0) here name n.0 d is_entry target_is
      (has_directory m n.0 target target_is t) (m.starts n.0) h)

  pub fewer : entry_count (left m (frame_of node d)) < entry_count (left m (frame_of node c))
  fewer = let e = ap entry_count next in omega (arith, e)

  pub no_entries_below : false ≡ is_directory target → entries_of target ≡ no_entries
  no_entries_below t = not_directory_entries target t
