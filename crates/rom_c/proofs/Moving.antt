-- How what is open moves, and the file that C holds of it.
use Rattle.std.proofs.Common.{◌≡◌, ℕ, Option, Some, Ok, Err, refl, sym, ap, ◌∙◌}
use Rattle.std.specs.Prelude.{IsSomeAnd}
use Rattle.rom_tree.specs.Tree.{Node}
use Rattle.rom_tree.specs.Image.{Image}
use Rattle.open_files.specs.declared.slot.OpenNode.{OpenNode}
use Rattle.open_files.specs.Machine.{Open, Outcome}
use Rattle.open_files.specs.Slots.{image_view, moved}
use Rattle.image_check.specs.Parts.{cursors_of_parts}
use Rattle.rom_c.specs.declared.image.RomtoolImage.{RomtoolImage}
use Rattle.rom_c.specs.declared.file.RomtoolFile.{RomtoolFile}
use Rattle.rom_c.specs.Opened.{stands_in}
use Rattle.rom_c.specs.Files.{MovesTo, file_in, parts_in}
use Rattle.rom_c.specs.Outcomes.{Follows}
use Rattle.rom_c.proofs.Standing.{same}

some_at : (v : Option (Open Node)) (o : Open Node) (q : ℕ) → v ≡ Some (moved o q) → IsSomeAnd v (λ r. r.position ≡ q)
some_at v o q e = rw e refl

-- a file moves as what is open
pub file_moves : {R : Type 0} (f : RomtoolFile) (m : Image) (o : Open Node) (old new : OpenNode) (p : ℕ) (r : Outcome R)
    → m.cursor_index ≡ cursors_of_parts f.image.bytes.now (parts_in f.image) → new.node.0 ≡ f.node
    → old.position ≡ f.position
    → p ≡ new.position → Follows (image_view m) o old new r → MovesTo m.tree f p r
file_moves f m o old new p (Ok a) c n s e k =
    some_at (stands_in m.tree f.image.bytes.now (parts_in f.image) f.node p) o a.1
    (sym (same m f.image.bytes.now (parts_in f.image) new f.node p c n (sym e)) ∙ k)
file_moves f m o old new p (Err x) c n s e k = e ∙ (k ∙ s)

-- a file that was opened is at its start
pub file_starts : (f : RomtoolFile) (i : RomtoolImage) (t x : Node) (node : ℕ) → f.image ≡ i → f.node ≡ node
    → f.position ≡ 0
    → stands_in t i.bytes.now (parts_in i) node 0 ≡ Some (record { place = x; position = 0 })
    → IsSomeAnd (file_in t f) (λ o. o.position ≡ 0)
file_starts f i t x node h k z e =
    let a = ap (λ (j : RomtoolImage). stands_in t j.bytes.now (parts_in j) f.node f.position) h in
    let b = ap (λ y. stands_in t i.bytes.now (parts_in i) y f.position) k in
    let c = ap (λ y. stands_in t i.bytes.now (parts_in i) node y) z in
    some_at (file_in t f) (record { place = x; position = 0 }) 0 (a ∙ (b ∙ (c ∙ e)))
