-- Sections with their bytes are parts that rise; and the item of an index.
use Rattle.std.proofs.Common.{get_or, drop, ap, ◌∙◌, ◌≡◌, ℕ, ◌+◌, ◌≤◌, List, [], ◌∷◌, ◌++◌, map, length, sym, subst}
use Rattle.std.proofs.Common.{arith}
use Rattle.std.specs.List.{AllByRecursion as Every}
use Rattle.rom_fields.specs.Parts.{Part, part, end_of_parts, Rises}
use Rattle.std.proofs.lemmas.List.{drop-drop, get_or-drop}
use Rattle.manifest_tree.specs.Bodies.{no_item, item_at}
use Rattle.manifest_tree.specs.Items.{Item, Section, SectionsRise}

-- rising sections as parts, each with as many bytes as the section is long, and no bytes at the end of the image
pub record AreAll (from size : ℕ) (ps : List Part) : Type 0 where
  pub rises : Rises from ps
  pub ends_at : end_of_parts from ps ≡ size

pub sections_are : (bytes : Section → List ℕ) (from end size : ℕ) (ss : List Section) → end ≤ size
    → SectionsRise from end ss
    → Every (λ s. length (bytes s) ≡ s.len) ss
    → AreAll from size (map (λ s. part s.place (bytes s)) ss ++ part size [] ∷ [])
sections_are bytes from end size [] l r n =
    let low : from ≤ end = r in record { rises = (omega arith, tt); ends_at = omega arith }
sections_are bytes from end size (s ∷ ss) l r n =
    let e : length (bytes s) ≡ s.len = n.0 in
    let later = sections_are bytes (s.place + s.len) end size ss l r.2 n.1 in
    let ps = map (λ (t : Section). part t.place (bytes t)) ss ++ part size [] ∷ [] in
    let here = subst (λ (k : ℕ). AreAll (s.place + k) size ps) (sym e) later in
    record { rises = (r.0, here.rises); ends_at = here.ends_at }

-- the item of an index is the first of those from there on
pub item_here : (all : List Item) (index : ℕ) (i : Item) (is : List Item) → drop index all ≡ i ∷ is
    → item_at all index ≡ i
item_here all index i is e =
    let z : index ≡ index + 0 = omega arith in
    ap (λ (k : ℕ). get_or all k no_item) z ∙ sym (get_or-drop index all 0 no_item)
    ∙ ap (λ (v : List Item). get_or v 0 no_item) e

pub items_later : (all : List Item) (index : ℕ) (i : Item) (is : List Item) → drop index all ≡ i ∷ is
    → drop (index + 1) all ≡ is
items_later all index i is e = sym (drop-drop 1 index all) ∙ ap (drop 1) e
