use Rattle.std.proofs.Common.{arith}
use Rattle.std.proofs.lemmas.Bool.{leb-true, le-leb}
use Rattle.library_tests.proofs.Answering.{has, within}
use Rattle.library_tests.proofs.sample_image.SampleTreeImage.is_node.Goals as goal

pub returns-then-n-ge1 : goal.returns-then-n-ge1
returns-then-n-ge1 c =
    ((λ h. has c.args.n.0 c.if-n-ge1.true (leb-true _ _ h)), (λ h. le-leb _ _ (within c.args.n.0 h).1))

pub returns-else-n-ge1 : goal.returns-else-n-ge1
returns-else-n-ge1 c = (
  (λ h. has c.args.n.0 (leb-true _ _ h) (let l = c.if-n-ge1.false in omega arith)),
  (λ h. le-leb _ _ (within c.args.n.0 h).0),
)
