-- What is printed of an image for each question. (This project's own.)
use Rattle.std.specs.Prelude.{ℕ}
use Rattle.command_line.specs.declared.request.Question.{Question}
use Rattle.command_line.specs.declared.request.Question.TheVariants as question
use Rattle.rom_commands.specs.declared.asked.Asked.{Asked}
use Rattle.rom_commands.specs.declared.asked.Asked.TheVariants as asked

-- what a question asks of an image whose file has this number of bytes
abbrev pub asked_of : Question → ℕ → Asked
asked_of question.Report len = asked.Report
asked_of question.List len = asked.List
asked_of question.Facts len = asked.Facts len
asked_of (question.Fit limit) len = asked.Fit len limit
asked_of (question.Runs base) len = asked.Map base
asked_of question.Misreads len = asked.Misreads
asked_of question.Needs len = asked.Needs
asked_of (question.InPlace x) len =
    asked.Programs (record { base = x.base; no_mmu = x.no_mmu; advice = x.advice })
