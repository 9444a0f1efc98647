use Rattle.std.proofs.Common.{rules, sym, ap, ◌∙◌, Bool, false, List, [], ◌∷◌, ◌++◌}
use Rattle.path_patterns.specs.Patterns.{fits}
use Rattle.path_patterns.proofs.Rows.{none_more, row_end}
use Rattle.path_patterns.proofs.matching.row_of_none.Goals as goal

pub loop-i-init : goal.loop-i-init
loop-i-init c = rw (row_end (fits []) c.args.path.now) (search rules)

pub loop-i-preserved : goal.loop-i-preserved
loop-i-preserved c =
    c.in_ok-push-2.ensures.items ∙ ap (λ (r : List Bool). r ++ false ∷ []) c.loop-i.invariant
    ∙ sym (none_more c.args.path.now c.loop-i.i c.loop-i-test.true)
