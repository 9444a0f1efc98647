-- What names lead to is a node of the tree.
use Rattle.std.proofs.Common.{◌≡◌, ℕ, true, false, cond, List, [], ◌∷◌, Some, subst}
use Rattle.std.specs.Option.{option_and_then}
use Rattle.std.specs.Str.{bytes_eq}
use Rattle.manifest_tree.specs.Shape.{node_under}
use Rattle.rom_tree.specs.Image.{find_entry}
use Rattle.rom_tree.specs.Tree.{Node, node, directory, regular, symlink, block, character, socket, fifo, Entries}
use Rattle.rom_tree.specs.Tree.{no_entries, entry, IsIn, there, nodes, entries_nodes}
use Rattle.rom_tree.proofs.Nodes.{in_self, in-front, in-back}

mutual
  pub in_under : (q : List (List ℕ)) (t x : Node) → node_under q t ≡ Some x → IsIn x (nodes t)
  in_under [] t x h = let e : t ≡ x = cc in subst (λ (v : Node). IsIn v (nodes t)) e (in_self t)
  in_under (m ∷ ms) (node a (directory es)) x h = there (in_entries m ms es x h)
  in_under (m ∷ ms) (node a (regular ps)) x h = absurd (cc)
  in_under (m ∷ ms) (node a (symlink ps)) x h = absurd (cc)
  in_under (m ∷ ms) (node a block) x h = absurd (cc)
  in_under (m ∷ ms) (node a character) x h = absurd (cc)
  in_under (m ∷ ms) (node a socket) x h = absurd (cc)
  in_under (m ∷ ms) (node a fifo) x h = absurd (cc)

  in_entries : (m : List ℕ) (ms : List (List ℕ)) (es : Entries) (x : Node)
      → option_and_then (λ z. node_under ms z) (find_entry es m) ≡ Some x → IsIn x (entries_nodes es)
  in_entries m ms no_entries x h = absurd (cc)
  in_entries m ms (entry name z es) x h =
      elim (bytes_eq name m) as
      (λ v. option_and_then (λ z. node_under ms z) (cond v (Some z) (find_entry es m)) ≡ Some x
      → IsIn x (entries_nodes (entry name z es))) [
        | true ↦ λ k. in-front x (nodes z) (entries_nodes es) (in_under ms z x k)
        | false ↦ λ k. in-back x (nodes z) (entries_nodes es) (in_entries m ms es x k)
      ] h
