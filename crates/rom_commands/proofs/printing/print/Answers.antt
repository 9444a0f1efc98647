use Rattle.rom_commands.proofs.printing.print.Goals as goal

pub returns-clause-ends : goal.returns-clause-ends
returns-clause-ends g c = c.print_answer.ensures.ends c.args.bytes.now c.check_usual-answer.ensures.answer

pub returns-clause-handed : goal.returns-clause-handed
returns-clause-handed g c = c.print_answer.ensures.handed c.args.bytes.now c.check_usual-answer.ensures.answer

pub returns-clause-said : goal.returns-clause-said
returns-clause-said g c = c.print_answer.ensures.said c.args.bytes.now c.check_usual-answer.ensures.answer
