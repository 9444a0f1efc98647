use Rattle.file_sources.proofs.Telling.{tells_more}
use Rattle.file_sources.proofs.memory.InMemoryOpener.read_at.Goals as goal

pub returns-clause-log : goal.returns-clause-log
returns-clause-log c =
    tells_more c.args.file.now.now c.args.at c.read_at.result c.read_at.new.buf c.read_at.ensures.bytes
