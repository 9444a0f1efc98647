use Rattle.rom_fields.proofs.Joins.{puts_nothing}
use Rattle.build_commands.specs.Lines.{line_text}
use Rattle.build_commands.proofs.Joined.{next_puts}
use Rattle.build_commands.proofs.line.put_line.Goals as goal

pub loop-part-init : goal.loop-part-init
unfolding line_text
loop-part-init g c = puts_nothing _

pub loop-part-preserved : goal.loop-part-preserved
loop-part-preserved g c =
    next_puts _ _ _ _ _ _ c.loop-part-test.true c.loop-part.invariant c.put_part.ensures
