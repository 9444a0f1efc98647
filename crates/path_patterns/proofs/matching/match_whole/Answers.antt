use Rattle.std.proofs.Common.{arith, ap, ◌∙◌, ◌≡◌, ◌-◌, ℕ, Bool, false, List, length, drop, get_or}
use Rattle.path_patterns.specs.Patterns.{fits}
use Rattle.path_patterns.proofs.Rows.{row_at, row_length}
use Rattle.path_patterns.proofs.matching.match_whole.Goals as goal

pub entry_of-requires : goal.entry_of-requires
entry_of-requires c =
    let f = fits c.args.pieces.now in
    let row = ap (λ (r : List Bool). length r) (c.deref.ensures.value ∙ c.in_ok-row.ensures) in
    omega (arith, row, row_length f c.args.path.now)

pub returns : goal.returns
returns c =
    let f = fits c.args.pieces.now in
    let path : List ℕ = c.args.path.now in
    let none : length path - length path ≡ 0 = omega arith in
    c.entry_of.ensures
    ∙ ap (λ (r : List Bool). get_or r (length path) false) (c.deref.ensures.value ∙ c.in_ok-row.ensures)
    ∙ row_at f path (length path) (omega arith)
    ∙ ap (λ (n : ℕ). f (drop n path)) none
