use Rattle.serve_lines.proofs.Joined.{again}
use Rattle.serve_lines.proofs.laws.lines_again.Goals as goal

pub returns : goal.returns
returns c = λ x. again x
