use Rattle.program_streams.proofs.Bytes.{read_front}
use Rattle.program_streams.proofs.loading.read_part.Goals as goal

pub returns-clause-ok : goal.returns-clause-ok
returns-clause-ok g c = read_front _ _ c.read_again.result _ _ c.read_again.ensures.bound c.read_again.ensures.ok
