use Rattle.std.proofs.Common.{List, ℕ, ◌++◌, drop, ap, ◌∙◌, arith}
use Rattle.crc.specs.History.{after_history}
use Rattle.crc.proofs.Ends.{starts}
use Rattle.crc.proofs.blocks.start.Goals as goal

pub returns : goal.returns
returns c = λ next long.
    let w = c.ranges.c in
    ap (λ (h : List ℕ). after_history (c.copy_from_slice.new.self ++ drop 4 h) next) c.requires
    ∙ starts c.args.c c.copy_from_slice.new.self (c.copy_from_slice.ensures.after ∙ c.to_le_bytes.ensures)
    (omega arith) next long
