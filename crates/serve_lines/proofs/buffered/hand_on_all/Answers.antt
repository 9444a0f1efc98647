use Rattle.std.proofs.Common.{arith}
use Rattle.serve_lines.proofs.buffered.hand_on_all.Goals as goal

pub returns-in-Ok-clause-flushed : goal.returns-in-Ok-clause-flushed
returns-in-Ok-clause-flushed g c = rw (← c.in-Ok.ensures.unflushed) (omega arith)
