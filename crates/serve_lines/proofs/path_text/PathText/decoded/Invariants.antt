use Rattle.std.proofs.Common.{◌≡◌, ◌++◌}
use Rattle.percent_encoding.specs.Iter.{decoded_bytes}
use Rattle.percent_encoding.specs.Percent.{percent_decode}
use Rattle.serve_lines.proofs.path_text.PathText.decoded.Given as goal

-- what was decoded, and what is left to decode
abbrev pub invariant-loop-b : goal.invariant-loop-b
invariant-loop-b l = record {
  can : goal.iterator-loop-b.can_next l.b-iterator;
  finite : goal.iterator-loop-b.is_finite l.b-iterator;
  left : percent_decode l.fn.self.text.now ≡ l.path.items ++ decoded_bytes l.b-iterator;
}
