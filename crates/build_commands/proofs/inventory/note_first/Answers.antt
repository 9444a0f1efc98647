use Rattle.std.proofs.Common.{rules}
use Rattle.build_commands.proofs.Firsts.{noted_more}
use Rattle.build_commands.proofs.inventory.note_first.Goals as goal

pub returns-in_ok-insert : goal.returns-in_ok-insert
returns-in_ok-insert c =
    λ device number. noted_more c.args.firsts.now c.insert.new.self c.args.file
    (search rules) (search rules) c.in_ok-insert.ensures.updates.0 device number
