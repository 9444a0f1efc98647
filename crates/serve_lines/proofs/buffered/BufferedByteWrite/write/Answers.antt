use Rattle.std.proofs.Common.{◌≡◌, ◌∙◌, ◌++◌, ap, drop, length, rules, take}
use lib.Seq.{drop-append-le}
use Rattle.serve_lines.proofs.Buffering.{begins_on, still_within, taken}
use Rattle.serve_lines.proofs.buffered.BufferedByteWrite.write.Goals as goal

pub invariant_of-self : goal.invariant_of-self
invariant_of-self g c = record {
  loan = c.args.self.now.loan;
  starts = begins_on _ _ _ c.make_room.ensures.text.0 c.args.self.now.starts c.make_room.ensures.text.1;
  within = c.make_room.ensures.within;
}

pub invariant_of-self-2 : goal.invariant_of-self-2
invariant_of-self-2 g c = record {
  loan = c.args.self.now.loan;
  starts = begins_on _ _ _ c.make_room.ensures.text.0 c.args.self.now.starts c.make_room.ensures.text.1;
  within = still_within c.try_extend_from_slice.result
      (λ v. v.items) c.make_room.new.held c.try_extend_from_slice.new.self _ c.make_room.new.sent
      c.make_room.ensures.within c.try_extend_from_slice.ensures.ok c.try_extend_from_slice.ensures.err;
}

pub returns-in-Ok-try_extend_from_slice-clause-bytes : goal.returns-in-Ok-try_extend_from_slice-clause-bytes
returns-in-Ok-try_extend_from_slice-clause-bytes g c =
    let b = c.args.b.now in
    let t = take c.min.result b in
    let h = c.make_room.new.held.items in
    let s = c.make_room.new.sent in
    let same : take (length t) b ≡ t = search rules in
    let after : drop s c.try_extend_from_slice.new.self.items ≡ drop s h ++ t =
    ap (drop s) c.in-Ok-try_extend_from_slice.ensures.ok ∙ drop-append-le s h t c.make_room.ensures.within in
    rw after (rw same (taken _ _ c.make_room.ensures.text.0 _ _ t c.make_room.ensures.text.1
    c.make_room.ensures.text.2))
