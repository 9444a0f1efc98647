use Rattle.program_streams.proofs.Bytes.{read_ended}
use Rattle.program_streams.proofs.ahead.AheadRead.read.Goals as goal

pub returns-clause-bytes : goal.returns-clause-bytes
returns-clause-bytes g c =
    rw c.if-self.false (read_ended _ _ _ _ _ c.in_ok-count.ensures.ok c.in_ok-count.ensures.end c.is_end-self.ensures)
