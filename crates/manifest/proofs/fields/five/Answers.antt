use Rattle.std.proofs.Common.{◌≡◌, rules}
use Rattle.manifest.specs.declared.line.Word.TheVariants.{Dir, Fifo, Socket}
use Rattle.manifest.proofs.fields.five.Goals.{then-eq, else-eq+then-eq-2, else-eq+else-eq-2+then-eq-3}
use Rattle.manifest.proofs.fields.five.Goals as goal

pub returns : goal.returns
returns c = elim c.if-eq.branch [
  | then-eq w ↦ let word : c.if-eq.word ≡ Dir = w.word-is in search rules
  | else-eq+then-eq-2 w ↦ let word : c.if-eq.word ≡ Fifo = w.word-is in search rules
  | else-eq+else-eq-2+then-eq-3 w ↦ let word : c.if-eq.word ≡ Socket = w.word-is in search rules
]
