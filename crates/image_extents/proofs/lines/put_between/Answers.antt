use Rattle.std.proofs.Common.{◌∙◌, ◌-◌, ℕ, List, ap, sym, subst}
use Rattle.rom_fields.specs.Written.{Puts, sink}
use Rattle.rom_fields.proofs.Joins.{chain, puts_nothing}
use Rattle.image_extents.specs.Lines.{range_text, address_of, rest_word}
use Rattle.image_extents.proofs.Texts.{between_some, between_none}
use Rattle.image_extents.proofs.lines.put_between.Goals as goal

pub returns-then-from-to : goal.returns-then-from-to
returns-then-from-to g c =
    let P : List ℕ → Type 0 = λ v. Puts (sink (g.W.ByteWrite.output c.args.w.now) c.args.failed.now)
    (sink (g.W.ByteWrite.output c.put.new.w) c.put.new.failed) v in
    let Q : List ℕ → Type 0 = λ v. Puts (sink (g.W.ByteWrite.output c.args.w.now) c.args.failed.now)
    (sink (g.W.ByteWrite.output c.put_range.new.w) c.put_range.new.failed)
    (range_text (address_of c.args.base c.args.from) (c.args.to - c.args.from) v) in
    subst P (sym (between_some c.args.base c.args.bytes.now c.args.from c.args.to c.if-from-to.true))
    (chain (subst Q (c.rest_word-word.ensures ∙ ap rest_word c.bytes_at.ensures) c.put_range.ensures) c.put.ensures)

pub returns-else-from-to : goal.returns-else-from-to
returns-else-from-to g c =
    let P : List ℕ → Type 0 = λ v. Puts (sink (g.W.ByteWrite.output c.args.w.now) c.args.failed.now)
    (sink (g.W.ByteWrite.output c.args.w.now) c.args.failed.now) v in
    subst P (sym (between_none c.args.base c.args.bytes.now c.args.from c.args.to c.if-from-to.false))
    (puts_nothing (sink (g.W.ByteWrite.output c.args.w.now) c.args.failed.now))
