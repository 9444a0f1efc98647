use Rattle.serve_lines.proofs.Buffering.{begins_on, kept}
use Rattle.serve_lines.proofs.buffered.BufferedByteWrite.flush.Goals as goal

pub invariant_of-self : goal.invariant_of-self
invariant_of-self g c = record {
  loan = c.args.self.now.loan;
  starts = begins_on _ _ _ c.hand_on_all.ensures.text.0 c.args.self.now.starts c.hand_on_all.ensures.text.1;
  within = c.hand_on_all.ensures.within;
}

pub returns-clause-bytes : goal.returns-clause-bytes
returns-clause-bytes g c =
    kept _ _ c.hand_on_all.ensures.text.0 _ _ c.hand_on_all.ensures.text.1 c.hand_on_all.ensures.text.2
