use Rattle.std.proofs.Common.{◌+◌, sym, ap, arith}
use Rattle.std.proofs.lemmas.List.{drop_all}
use Rattle.elf_format.specs.Needs.{text}
use Rattle.elf_format.proofs.needs.text_in.Goals as goal

pub returns-then-b-strings : goal.returns-then-b-strings
unfolding text
returns-then-b-strings c =
    sym (ap text (drop_all (c.args.strings + c.args.offset) c.args.b.now (omega arith)))
