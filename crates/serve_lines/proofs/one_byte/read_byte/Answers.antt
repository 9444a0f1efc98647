use Rattle.std.proofs.Common.{refl}
use Rattle.serve_lines.proofs.Flushed.{failed_counts}
use Rattle.serve_lines.proofs.one_byte.read_byte.Goals as goal

pub returns-in-Err : goal.returns-in-Err
returns-in-Err g c = (c.in-Err.ensures.bytes, failed_counts _ _ _ refl c.in-Err.ensures.count)
