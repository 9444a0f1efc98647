use Rattle.serve_lines.proofs.serve.answer_line.Given as goal

abbrev pub ghosts-answer_through : goal.ghosts-answer_through
ghosts-answer_through g a =
    record { start = (g.W.ByteWrite.output a.reached.w.now).contents; loan = a.reached.w.ghost_name }
