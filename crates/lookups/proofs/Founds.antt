-- What a look-up answers, as a function of the image.
use Rattle.std.proofs.Common.{◌≡◌, ◌∙◌, ap, sym, ℕ, List, Option, Some, None, MatchOption, refl, subst}
use Rattle.rom_tree.specs.Tree.{Node, ino_of, entries_of}
use Rattle.rom_tree.specs.Image.{Image, image_node, HasDirectory, find_entry}
use Rattle.rom_tree.specs.declared.types.NodeId.{NodeId}
use Rattle.rom_tree.proofs.Named.{directory_by}
use Rattle.lookups.specs.Remembers.{number_of, found_at, found_in}

abbrev pub Answers : Image → ℕ → List ℕ → Option NodeId → Type 0
Answers m d name r = (x : Node) → image_node m d ≡ Some x → MatchOption r (find_entry (entries_of x) name ≡ None)
    (λ n. (y : Node) × (find_entry (entries_of x) name ≡ Some y) × (ino_of y ≡ n.0))

found_some : (m : Image) (d : ℕ) (name : List ℕ) (x : Node) → image_node m d ≡ Some x
    → found_in m d name ≡ number_of (find_entry (entries_of x) name)
unfolding found_in
found_some m d name x e = ap (λ (o : Option Node). found_at o name) e

by_answer : (o : Option Node) (r : Option NodeId)
    → MatchOption r (o ≡ None) (λ n. (y : Node) × (o ≡ Some y) × (ino_of y ≡ n.0)) → r ≡ number_of o
by_answer o None h = sym (ap number_of h)
by_answer o (Some n) h = ap (λ (k : ℕ). let r : NodeId = record { 0 = k } in Some r) (sym h.2) ∙ sym (ap number_of h.1)

-- an answer of the image is what is found in it
pub answer_found : (m : Image) (d : ℕ) (name : List ℕ) (r : Option NodeId) → HasDirectory m d → Answers m d name r
    → r ≡ found_in m d name
answer_found m d name r has h =
    let at_directory = directory_by m d has in
    by_answer (find_entry (entries_of at_directory.0) name) r (h at_directory.0 at_directory.1)
    ∙ sym (found_some m d name at_directory.0 at_directory.1)

to_answer : (o : Option Node) → MatchOption (number_of o) (o ≡ None) (λ n. (y : Node) × (o ≡ Some y) × (ino_of y ≡ n.0))
to_answer None = refl
to_answer (Some y) = (y, refl, refl)

-- and what is found in it is an answer
pub found_answers : (m : Image) (d : ℕ) (name : List ℕ) (r : Option NodeId) → r ≡ found_in m d name → Answers m d name r
found_answers m d name r e = λ x is.
    let P : Option NodeId → Type 0 = λ v. MatchOption v (find_entry (entries_of x) name ≡ None)
    (λ n. (y : Node) × (find_entry (entries_of x) name ≡ Some y) × (ino_of y ≡ n.0)) in
    subst P (sym (e ∙ found_some m d name x is)) (to_answer (find_entry (entries_of x) name))
