use Rattle.std.proofs.Common.{◌≡◌, ℕ, List, sym, ◌∙◌}
use Rattle.std.specs.Prelude.{◌≢◌, ◌≤◌}
use Rattle.rom_tree.specs.Tree.{levels}
use Rattle.romfs_image.specs.Parts.{AreParts as AreRomfsParts}
use Rattle.cramfs_image.specs.Parts.{AreParts as AreCramfsParts}
use Rattle.image_check.specs.Checked.{HasTree}
use Rattle.image_check.specs.Parts.{tree_of_parts}
use Rattle.rom_c.specs.Held.{usual, parts_of, romfs_parts, cramfs_parts}
use Rattle.rom_c.specs.Numbers.{HasNumbers}
use Rattle.rom_c.proofs.Again.{again}
use Rattle.rom_c.proofs.numbers.described.Goals as goal

pub invariant_of-result : goal.invariant_of-result
invariant_of-result c =
    let i = c.requires.0 in
    let n : HasNumbers c.args.numbers.now i = c.requires.3 in
    let holds = λ (P : List ℕ → ℕ → ℕ → ℕ → ℕ → ℕ → Type 0). again P i c.args.bytes.now c.word.result c.word-2.result
    c.word-3.result c.word-4.result c.word-5.result c.requires.2 (sym n.format ∙ sym c.word.ensures)
    (sym n.accessible ∙ sym c.word-2.ensures) (sym n.root ∙ sym c.word-3.ensures)
    (sym n.references ∙ sym c.word-4.ensures) (sym n.depth ∙ sym c.word-5.ensures) in
    record {
      romfs = λ z. holds (λ b f a r k d. f ≡ 1 → AreRomfsParts b (romfs_parts a r k d)) (i.romfs c.requires.1);
      cramfs = λ z. holds (λ b f a r k d. f ≢ 1 → AreCramfsParts b (cramfs_parts f a k d)) (i.cramfs c.requires.1);
      tree = λ z.
          holds (λ b f a r k d. ∥ HasTree b usual (tree_of_parts b (parts_of f a r k d)) ∥₁) (i.tree c.requires.1);
      shallow = λ z.
          holds (λ b f a r k d. levels (tree_of_parts b (parts_of f a r k d)) ≤ 65) (i.shallow c.requires.1);
    }
