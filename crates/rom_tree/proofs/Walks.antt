-- What the calls of a walk do to the names that are still to come.
use Rattle.std.proofs.Common.{◌≡◌, ℕ, ◌==◌, true, false, List, [], ◌∷◌, ◌++◌, length, Some, None, refl, sym, ap, ◌∙◌}
use Rattle.std.proofs.Common.{arith}
use Rattle.std.proofs.lemmas.Bool.{eqb-true}
use Rattle.std.specs.Prelude.{Bool}
use Rattle.std.specs.Borrow.{Bor}
use Rattle.rom_tree.specs.Image.{Image, image_node}
use Rattle.rom_tree.specs.Names.{Name, named, names}
use Rattle.rom_tree.specs.Frames.{Gives, pending, way_of}
use Rattle.rom_tree.specs.Walks.{to_come, IsGiven, IsOver}
use Rattle.rom_tree.specs.declared.frame.Frame.{Frame}
use Rattle.rom_tree.specs.declared.frame.Walk.{Walk}
use Rattle.rom_tree.proofs.Stacks.{one, pending-nil}

-- before the root was given, and afterwards
pub fresh_names : (m : Image) (w : Walk) → w.begun ≡ false → to_come m w ≡ names m.tree
fresh_names m w h = rw h refl

pub begun_names : (m : Image) (w : Walk) → w.begun ≡ true → to_come m w ≡ pending m [] w.stack.items
begun_names m w h = rw h refl

-- the root is given first
pub root_given : (m : Image) (old new : Walk) (n : ℕ) → old.begun ≡ false → new.begun ≡ true → new.name ≡ None
    → image_node m n ≡ Some m.tree
    → one (47 ∷ []) [] m.tree ++ pending m [] new.stack.items ≡ names m.tree → IsGiven m old new n
root_given m old new n b d e x h = record {
  name = named (47 ∷ []) [] m.tree;
  first = fresh_names m old b ∙ (sym h
      ∙ ap (λ (v : List Name). named (47 ∷ []) [] m.tree ∷ v) (sym (begun_names m new d)));
  node = x;
  path = rw e refl;
  last = rw e refl;
}

-- no frames are left
pub empty_by : (xs : List Frame) → (length xs == 0) ≡ true → xs ≡ []
empty_by [] h = refl
empty_by (x ∷ xs) h = absurd (omega (arith, eqb-true (length (x ∷ xs)) 0 h))

pub over : (m : Image) (old new : Walk) → to_come m new ≡ to_come m old → new.begun ≡ true → new.stack.items ≡ []
    → IsOver m old new
over m old new e b h =
    let z : to_come m new ≡ [] = begun_names m new b ∙ (ap (pending m []) h ∙ pending-nil m []) in
    record { before = sym e ∙ z; after = z }

-- what a step found is given
pub found_given : (m : Image) (old self new : Walk) (name held : Bor (List ℕ)) (n : ℕ) (entered : Bool)
    → to_come m self ≡ to_come m old → self.begun ≡ true → new.begun ≡ true
    → new.name ≡ Some held → held.now ≡ name.now → new.entered ≡ entered
    → Gives m self.stack.items new.stack.items name n entered → IsGiven m old new n
found_given m old self new name held n entered e b d h k i g = record {
  name = named (way_of (Some name) entered new.stack.items) name.now g.node;
  first = sym e ∙ (begun_names m self b
      ∙ (g.names ∙ ap (λ (v : List Name). named (way_of (Some name) entered new.stack.items) name.now g.node ∷ v)
      (sym (begun_names m new d))));
  node = g.at;
  path = (rw (h, i, k) refl);
  last = rw (h, k) refl;
}
