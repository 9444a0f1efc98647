use Rattle.std.proofs.Common.{◌≤◌, length, arith}
use Rattle.std.proofs.lemmas.Grind.{common_steps}
use Rattle.serve_lines.specs.Commands.{line_of}
use Rattle.serve_lines.proofs.command.read_line.Goals as goal

pub call-requires : goal.call-requires
call-requires c = let short : length c.args.line.now ≤ 8191 = omega arith in grind (arith, common_steps)

pub returns-in-None-clause-asks : goal.returns-in-None-clause-asks
unfolding line_of
returns-in-None-clause-asks c = let short : length c.args.line.now ≤ 8191 = omega arith in grind (arith, common_steps)

pub returns-in-Some-clause-asks : goal.returns-in-Some-clause-asks
unfolding line_of
returns-in-Some-clause-asks c = let short : length c.args.line.now ≤ 8191 = omega arith in grind (arith, common_steps)
