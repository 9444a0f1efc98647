use Rattle.std.proofs.Common.{ap, ◌∙◌, ◌-◌, Bool, List, length, drop}
use Rattle.path_patterns.specs.Patterns.{fits}
use Rattle.path_patterns.proofs.Rows.{row_length}
use Rattle.path_patterns.proofs.matching.row_of_all.Goals as goal

pub row_before-requires : goal.row_before-requires
row_before-requires c =
    let ps = c.args.pieces.now in
    ap (λ (r : List Bool). length r) (c.deref.ensures.value ∙ c.loop-k.invariant)
    ∙ row_length (fits (drop (length ps - c.loop-k.k) ps)) c.args.path.now
