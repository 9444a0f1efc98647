use Rattle.rom_serve.proofs.serving.serve.Goals as goal

pub returns-clause-too_many : goal.returns-clause-too_many
returns-clause-too_many g c = c.serve_bounded.ensures.too_many

pub returns-clause-bounded : goal.returns-clause-bounded
returns-clause-bounded g c = c.serve_bounded.ensures.bounded
