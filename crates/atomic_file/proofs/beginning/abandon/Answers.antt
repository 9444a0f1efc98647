use Rattle.atomic_file.proofs.Finishes.{removal_moments, removal_left}
use Rattle.atomic_file.proofs.beginning.abandon.Goals as goal

pub returns-clause-any_moment : goal.returns-clause-any_moment
returns-clause-any_moment g c =
    λ names old begun. removal_moments names c.args.name old _ _ begun c.remove_part.ensures

pub returns-clause-no_part : goal.returns-clause-no_part
returns-clause-no_part g c = λ names old begun. removal_left names c.args.name old _ _ begun c.remove_part.ensures
