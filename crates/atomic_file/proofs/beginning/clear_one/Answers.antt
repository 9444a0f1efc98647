use Rattle.atomic_file.proofs.Tries.{other_removed, other_stays}
use Rattle.atomic_file.proofs.beginning.clear_one.Goals as goal

pub returns-in-Ok-clause-run : goal.returns-in-Ok-clause-run
returns-in-Ok-clause-run g c =
    other_removed c.args.names c.args.following c.requires.part _ c.args.name _ c.requires.other
    c.in-Ok.ensures.logged

pub returns-in-Err-InUse-clause-run : goal.returns-in-Err-InUse-clause-run
returns-in-Err-InUse-clause-run g c =
    other_stays c.args.names c.args.following c.requires.part _ c.args.name _ c.requires.other
    c.in-Err-InUse.ensures.logged

pub returns-in-Err-Missing-clause-run : goal.returns-in-Err-Missing-clause-run
returns-in-Err-Missing-clause-run g c =
    other_stays c.args.names c.args.following c.requires.part _ c.args.name _ c.requires.other
    c.in-Err-Missing.ensures.logged
