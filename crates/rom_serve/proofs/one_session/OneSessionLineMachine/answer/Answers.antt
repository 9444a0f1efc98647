use Rattle.rom_serve.proofs.one_session.OneSessionLineMachine.answer.Goals as goal

pub returns-clause-text : goal.returns-clause-text
returns-clause-text g c = c.put_answer.ensures.text

pub returns-clause-step : goal.returns-clause-step
returns-clause-step g c = c.put_answer.ensures.step

pub returns-clause-last : goal.returns-clause-last
returns-clause-last g c = c.put_answer.ensures.last
