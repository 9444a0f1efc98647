-- `FilesAreApart`: files of different lines have no offset of an image in common. (This project's
-- own.)
use Rattle.std.specs.Prelude.{◌≡◌, ◌≢◌, ℕ, List, Some}
use Rattle.record_forest.specs.Members.{Has}
use Rattle.rom_tree.specs.Tree.{Node, places_of}
use Rattle.manifest_tree.specs.Names.{Inode, Names}
use Rattle.manifest_tree.specs.Shape.{node_under, file_under, with_names}

-- no offset is in both lists
abbrev pub AreDisjoint : List ℕ → List ℕ → Type 0
AreDisjoint ps qs = (p : ℕ) → Has (λ x. x ≡ p) ps → Has (λ x. x ≡ p) qs → ⊥

-- any two files of these names that different lines make have no offset of the image in common
abbrev pub FilesAreApart : Node → Inode → Names → Type 0
FilesAreApart t root n =
    (q r : List (List ℕ)) (x y : Node) (i j : Inode) → node_under q t ≡ Some x
    → node_under r t ≡ Some y → file_under q (with_names root n) ≡ Some i
    → file_under r (with_names root n) ≡ Some j → i.line ≢ j.line
    → AreDisjoint (places_of x) (places_of y)
