use Rattle.headline.proofs.Accepted.{same_bytes}
use Rattle.headline.proofs.laws.accepted_is_taken.Goals as goal

pub returns : goal.returns
returns c = λ all limits m report volume rules h s f. (
  λ t. c.taken_only_then.ensures m volume rules t,
  λ e. c.lines_are_taken.ensures m volume rules (record {
    bytes = same_bytes all limits m report h s;
    tree = c.accepted_is_lawful.ensures all limits m report h s;
    links = e.0;
    paths = e.1;
  }) f,
)
