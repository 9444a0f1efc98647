use Rattle.std.proofs.Common.{sym, arith}
use Rattle.std.proofs.lemmas.List.{take_all}
use Rattle.elf_format.proofs.script.front.Goals as goal

pub returns-then-b-lt-READ_LEN : goal.returns-then-b-lt-READ_LEN
returns-then-b-lt-READ_LEN c = sym (take_all 256 c.args.b.now (omega arith))
