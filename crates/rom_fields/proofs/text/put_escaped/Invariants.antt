use Rattle.std.proofs.Common.{◌≡◌, ◌++◌, List, ℕ}
use Rattle.rom_fields.specs.Written.{Puts, sink}
use Rattle.percent_encoding.specs.Iter.{encoded_text}
use Rattle.rom_fields.specs.Texts.{escaped}
use Rattle.rom_fields.proofs.text.put_escaped.Given as goal

abbrev pub invariant-loop-piece : goal.invariant-loop-piece
invariant-loop-piece g l = record {
  can : (goal.iterator-loop-piece g).can_next l.piece-iterator;
  finite : (goal.iterator-loop-piece g).is_finite l.piece-iterator;
  done : List ℕ;
  puts : Puts (sink (g.W.ByteWrite.output l.fn.w) l.fn.failed) (sink (g.W.ByteWrite.output l.w) l.failed) done;
  rest : done ++ encoded_text l.piece-iterator ≡ escaped l.name;
}
