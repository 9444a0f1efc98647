use Rattle.headline.proofs.Accepted.{same_bytes}
use Rattle.headline.proofs.laws.accepted_is_described.Goals as goal

pub returns : goal.returns
returns c = λ all limits m report volume rules h s v f z p. c.described_whole.ensures m volume rules v f (record {
  bytes = same_bytes all limits m report h s;
  tree = c.accepted_is_lawful.ensures all limits m report h s;
  links = z;
  paths = p;
})
