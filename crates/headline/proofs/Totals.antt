-- The total of programs that are out of place, if none at the end of a path is.
use Rattle.std.proofs.Common.{◌≡◌, ◌∙◌, ℕ, List, [], ◌∷◌, Option, Some, None, refl}
use Rattle.std.specs.List.{AllByRecursion as Every}
use Rattle.record_forest.proofs.Lists.{every_join}
use Rattle.rom_tree.specs.Names.{Name, entries_names, names, node_names, path_below}
use Rattle.rom_tree.specs.Tree.{Entries, IsIn, Node, block, character, directory, entries_nodes, entry, fifo}
use Rattle.rom_tree.specs.Tree.{no_entries, node, nodes, regular, socket, symlink, there}
use Rattle.rom_tree.proofs.Nodes.{in-back, in-front, in_self}
use Rattle.image_check.specs.Any.{any_view}
use Rattle.image_check.specs.declared.any.AnyImage.{AnyImage}
use Rattle.manifest_tree.specs.Shape.{node_under}
use Rattle.program_report.specs.Found.{found_in}
use Rattle.program_report.specs.Lines as lines
use Rattle.program_report.specs.declared.finding.Found.{Found}
use Rattle.program_report.specs.declared.finding.Verdict.{Verdict}
use Rattle.program_report.specs.declared.finding.Verdict.TheVariants.{InPlace, Not}
use Rattle.program_report.specs.declared.question.Question.{Question}
use Rattle.program_report.specs.declared.tally.Tally.{Tally}
use Rattle.headline.specs.Programs.{IsNotRefused}
use Rattle.headline.proofs.NotRefused.{IsFine}
use Rattle.headline.proofs.Reached.{HavePaths}

-- what holds of each node holds of the node of each name
mutual
  unfolding node_names

  every_below : (P : Node → Type 0) (path : List ℕ) (t : Node) → ((x : Node) → IsIn x (nodes t) → P x)
      → Every (λ n. P n.node) (node_names path t)
  every_below P path (node a (directory es)) h = every_entry P path es (λ x i. h x (there i))
  every_below P path (node a (regular ps)) h = tt
  every_below P path (node a (symlink ps)) h = tt
  every_below P path (node a block) h = tt
  every_below P path (node a character) h = tt
  every_below P path (node a socket) h = tt
  every_below P path (node a fifo) h = tt

  every_entry : (P : Node → Type 0) (path : List ℕ) (es : Entries) → ((x : Node) → IsIn x (entries_nodes es) → P x)
      → Every (λ n. P n.node) (entries_names path es)
  every_entry P path no_entries h = tt
  every_entry P path (entry name y es) h =
      let p = path_below path name in (
        h y (in-front y (nodes y) (entries_nodes es) (in_self y)),
        every_join (λ (n : Name). P n.node) (node_names p y) (entries_names path es)
            (every_below P p y (λ x i. h x (in-front x (nodes y) (entries_nodes es) i)))
            (every_entry P path es (λ x i. h x (in-back x (nodes y) (entries_nodes es) i))),
      )

every_name : (P : Node → Type 0) (t : Node) → ((x : Node) → IsIn x (nodes t) → P x)
    → Every (λ n. P n.node) (names t)
unfolding names
every_name P t h = (h t (in_self t), every_below P [] t h)

noted_fine : (t : Tally) (v : Verdict) → IsNotRefused v → (lines.noted_as t v).not ≡ t.not
noted_fine t (InPlace p) h = refl
noted_fine t (Not r n) h = absurd h

noted_if_fine : (t : Tally) (o : Option Found) → IsFine o → (lines.noted_if t o).not ≡ t.not
noted_if_fine t None h = refl
noted_if_fine t (Some f) h = noted_fine t f.verdict h

all_fine : (a : AnyImage) (q : Question) (t : Tally) (ns : List Name)
    → Every (λ n. IsFine (found_in a q n.node)) ns → (lines.tally_from a q t ns).not ≡ t.not
all_fine a q t [] h = refl
all_fine a q t (n ∷ ns) h =
    all_fine a q (lines.noted_if t (found_in a q n.node)) ns h.1 ∙ noted_if_fine t (found_in a q n.node) h.0

pub none_counted : (a : AnyImage) (q : Question) → HavePaths (any_view a).tree
    → ((path : List (List ℕ)) (x : Node) → node_under path (any_view a).tree ≡ Some x → IsFine (found_in a q x))
    → (lines.tally_of a q).not ≡ 0
unfolding lines.tally_of
none_counted a q paths fine =
    let t = (any_view a).tree in
    all_fine a q lines.nothing (names t) (every_name (λ x. IsFine (found_in a q x)) t
    (λ x i. let p = paths x i in fine p.0 x p.1))
