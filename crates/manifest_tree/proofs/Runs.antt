-- Runs of offsets.
use Rattle.std.proofs.Common.{◌≡◌, ℕ, ◌*◌, [], refl, sym, ap, ◌∙◌}
use Rattle.rom_tree.specs.Tree.{row_from}
use Rattle.rom_tree.proofs.Numbers.{length_row}
use Rattle.manifest_tree.specs.Placement.{IsRun}

pub no_run : (align : ℕ) → IsRun align []
no_run align = (0, refl)

pub run_of : (align k p n : ℕ) → p ≡ k * align → IsRun align (row_from p n)
run_of align k p n e = (k, ap (λ (v : ℕ). row_from v n) e ∙ ap (row_from (k * align)) (sym (length_row p n)))
