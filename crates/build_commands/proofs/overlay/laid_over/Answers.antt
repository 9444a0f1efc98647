use Rattle.std.proofs.Common.{rules}
use Rattle.std.proofs.lemmas.Result.{IfErr-weaker, IfOk-weaker}
use Rattle.build_commands.proofs.Overlaid.{laid_before, laid_itself, refused_before}
use Rattle.build_commands.proofs.overlay.laid_over.Goals as goal

pub returns-clause-laid : goal.returns-clause-laid
returns-clause-laid c =
    IfOk-weaker c.last_of_each.result _ _ (λ v l. laid_before _ _ v.items c.in_ok-sort.ensures.named l)
    c.last_of_each.ensures.laid

pub returns-clause-mixed : goal.returns-clause-mixed
returns-clause-mixed c =
    IfErr-weaker c.last_of_each.result _ _ (λ e r. refused_before _ _ c.in_ok-sort.ensures.named e r)
    c.last_of_each.ensures.mixed

pub returns-then-not-have_repeats-clause-laid : goal.returns-then-not-have_repeats-clause-laid
returns-then-not-have_repeats-clause-laid c =
    laid_itself _ _ c.in_ok-sort.ensures.named c.in_ok-sort.ensures.order
    (rw c.deref.ensures.value at (c.have_repeats.ensures (search rules)))
