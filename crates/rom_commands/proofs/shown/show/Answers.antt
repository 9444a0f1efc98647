use Rattle.rom_commands.proofs.shown.show.Goals as goal

pub returns : goal.returns
returns g c = c.show_answer.ensures c.args.bytes.now c.check_usual-answer.ensures.answer
