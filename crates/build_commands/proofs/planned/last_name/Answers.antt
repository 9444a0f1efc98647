use Rattle.std.proofs.Common.{◌+◌, sym, ◌∙◌}
use Rattle.std.proofs.lemmas.List.{take_rest}
use Rattle.plan_rows.proofs.Keying.{behind_none, behind_at}
use Rattle.build_commands.proofs.planned.last_name.Goals as goal

pub returns-in-None : goal.returns-in-None
returns-in-None c = sym (behind_none 47 c.args.path.now c.args.path.now c.in-None.ensures)

pub returns-in-Some : goal.returns-in-Some
returns-in-Some c =
    let i = c.in-Some.last in
    take_rest c.args.path.now (i + 1)
    ∙ behind_at 47 c.args.path.now c.args.path.now i c.in-Some.ensures.0 c.in-Some.ensures.1
