use Rattle.std.proofs.Common.{◌≡◌, ◌<◌, ℕ, false, refl, arith, ◌∙◌, take, get_or, List}
use Rattle.record_forest.specs.declared.reference.Row.{Row}
use Rattle.record_forest.specs.Faults.{IsLeast}
use Rattle.romfs_format.specs.Record.{name_of}
use Rattle.rom_tree.specs.Dots.{is_dots}
use Rattle.romfs_image.specs.Phases.{IsTooDeep, IsShallow}
use Rattle.record_forest.proofs.Sweeps.{blank, sweep_well_at, sweep_fault_at}
use Rattle.romfs_image.proofs.depth.least_too_deep.Goals as goal
use Rattle.romfs_image.proofs.depth.least_too_deep.Goals.{then-is_too_deep, else-is_too_deep}

-- the one fault of an entry that is too deep
deep : (b : List ℕ) (most : ℕ) (before : List Row) (x : Row) → is_dots (name_of b x.offset) ≡ false → most < x.depth
    → IsLeast (IsTooDeep b most before x) 21
deep b most before x e l = record { here = (refl, e, l); least = λ n h. let k = h.0 in omega arith }

shallow : (b : List ℕ) (most : ℕ) (before : List Row) (x : Row) → IsShallow b most before x → (n : ℕ)
    → IsTooDeep b most before x n → ⊥
shallow b most before x s n h = let k = s h.1 in let l = h.2 in omega arith

pub rows-preserved : goal.rows-preserved
rows-preserved c = elim c.if-is_too_deep.branch [
  | then-is_too_deep w ↦ sweep_fault_at c.args.rows.now c.rows.row-index 21 _ _ c.rows-test.true
      (w.noted-is ∙ w.lesser_fault-noted.ensures) c.rows.invariant
      (deep c.args.b.now.bytes.now c.args.most (take c.rows.row-index c.args.rows.now)
      (get_or c.args.rows.now c.rows.row-index blank) w.if-is_too_deep.ensures.entry w.if-is_too_deep.ensures.deep)
  | else-is_too_deep w ↦ sweep_well_at c.args.rows.now c.rows.row-index _ _ c.rows-test.true w.noted-is c.rows.invariant
      w.if-is_too_deep.ensures.shallow
      (shallow c.args.b.now.bytes.now c.args.most (take c.rows.row-index c.args.rows.now)
      (get_or c.args.rows.now c.rows.row-index blank) w.if-is_too_deep.ensures.shallow)
]
