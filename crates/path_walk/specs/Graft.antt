-- `graft`: several images with their mounts as a `Namespace`. `are_mounts`: the conditions on
-- mounts. `Names`: a node of the graft is the one with this number, in the image with this number.
-- `IsUncovered`: no mount covers it. (As in Linux, path_resolution(7), "Mount points". What may be
-- mounted is this project's own.)
--
-- The graft is the tree of image 0, with the root of each mounted image in place of the directory
-- that it covers, under the same name. Dot-dot at a mounted root leads to the parent of the covered
-- directory.
use Rattle.std.specs.Prelude.{◌≡◌, ℕ, zero, suc, ◌≤◌, ◌==◌, nat_lt, Bool, true, false, ◌&&◌, not}
use Rattle.std.specs.Prelude.{List, [], ◌∷◌, length, find, Option, Some, None, option_map}
use Rattle.rom_tree.specs.Tree.{Node, node, fifo, ino_of, is_directory, entries_of, levels}
use Rattle.rom_tree.specs.Image.{Image, image_node, find_entry}
use Rattle.path_walk.specs.declared.mount.Mount.{Mount}
use Rattle.path_walk.specs.Resolution.{Namespace}

-- a node, and the number of its image
pub record MountedNode : Type 0 where
  pub image : ℕ
  pub node : Node

-- the tree of the image of a number; if there is no such image, a node that is never met
abbrev pub tree_in : List Image → ℕ → Node
tree_in [] i = node (record { ino = 0; mode = 0; uid = 0; gid = 0; major = 0; minor = 0 }) fifo
tree_in (m ∷ ms) zero = m.tree
tree_in (m ∷ ms) (suc i) = tree_in ms i

-- its bytes
abbrev pub bytes_in : List Image → ℕ → List ℕ
bytes_in [] i = []
bytes_in (m ∷ ms) zero = m.bytes
bytes_in (m ∷ ms) (suc i) = bytes_in ms i

-- its node of a number
abbrev pub node_in : List Image → ℕ → ℕ → Option Node
node_in [] i n = None
node_in (m ∷ ms) zero n = image_node m n
node_in (m ∷ ms) (suc i) n = node_in ms i n

-- the node with the number n, in the image with the number i, is this node of the graft
pub record Names (ms : List Image) (i n : ℕ) (s : MountedNode) : Type 0 where
  pub image : i ≡ s.image
  pub node : node_in ms i n ≡ Some s.node

-- a mount covers the directory of this number in the image of this number
abbrev pub covers : ℕ → ℕ → Mount → Bool
covers i n u = (u.on == i) && (u.dir.0 == n)

-- no mount covers it
abbrev pub IsUncovered : List Mount → ℕ → ℕ → Type 0
IsUncovered us i n = find (covers i n) us ≡ None

-- the node that is seen at a node: the root of the image that covers it, or the node itself
abbrev pub over : List Image → MountedNode → Option Mount → MountedNode
over ms s None = s
over ms s (Some u) = record { image = u.image; node = tree_in ms u.image }

unfoldable pub shown : List Image → List Mount → MountedNode → MountedNode
shown ms us s = over ms s (find (covers s.image (ino_of s.node)) us)

abbrev pub graft : List Image → List Mount → Namespace MountedNode
graft ms us = record {
  root = record { image = 0; node = tree_in ms 0 };
  node = λ s. s.node;
  bytes = λ s. bytes_in ms s.image;
  entry = λ s name. option_map (λ x. shown ms us (record { image = s.image; node = x }))
      (find_entry (entries_of s.node) name);
}

-- The conditions on mounts: each covers a directory of an image, except its root, by an image other
-- than 0, and no directory and no image occurs twice.
abbrev pub is_directory_node : Option Node → Bool
is_directory_node None = false
is_directory_node (Some x) = is_directory x

abbrev pub is_image : List Image → ℕ → Bool
is_image ms i = nat_lt i (length ms)

abbrev pub is_mount : List Image → Mount → Bool
is_mount ms u =
    not (u.image == 0) && (is_image ms u.image && (is_image ms u.on
    && (is_directory_node (node_in ms u.on u.dir.0) && not (u.dir.0 == ino_of (tree_in ms u.on)))))

abbrev pub is_apart : Mount → Mount → Bool
is_apart u v = not (v.image == u.image) && not (covers u.on u.dir.0 v)

abbrev pub are_apart : Mount → List Mount → Bool
are_apart u [] = true
are_apart u (v ∷ vs) = is_apart u v && are_apart u vs

unfoldable pub are_mounts : List Image → List Mount → Bool
are_mounts ms [] = true
are_mounts ms (u ∷ us) = is_mount ms u && (are_apart u us && are_mounts ms us)

-- directories are at most 64 deep in each image
abbrev pub AreShallow : List Image → Type 0
AreShallow ms = (i : ℕ) → levels (tree_in ms i) ≤ 65
