use Rattle.std.proofs.Common.{ℕ, List, sym, subst}
use Rattle.rom_fields.specs.Written.{Puts, sink}
use Rattle.rom_fields.proofs.Joins.{chain, puts_nothing}
use Rattle.map_forms.specs.Names.{text_byte, text_of}
use Rattle.map_forms.proofs.Bytes.{text_more, text_end}
use Rattle.map_forms.proofs.names.put_text.Goals as goal

pub loop-byte-init : goal.loop-byte-init
loop-byte-init g c = puts_nothing (sink (g.W.ByteWrite.output c.put.new.w) c.put.new.failed)

pub loop-byte-preserved : goal.loop-byte-preserved
loop-byte-preserved g c =
    let P : List ℕ → Type 0 = λ v. Puts (sink (g.W.ByteWrite.output c.put.new.w) c.put.new.failed)
    (sink (g.W.ByteWrite.output c.put_text_byte.new.w) c.put_text_byte.new.failed) v in
    subst P (sym (text_more text_byte c.args.bytes.now c.loop-byte.byte-index c.loop-byte-test.true))
    (chain c.loop-byte.invariant c.put_text_byte.ensures)

pub returns : goal.returns
unfolding text_of
returns g c =
    let P : List ℕ → Type 0 = λ v. Puts (sink (g.W.ByteWrite.output c.put.new.w) c.put.new.failed)
    (sink (g.W.ByteWrite.output c.loop-byte.w) c.loop-byte.failed) v in
    chain c.put.ensures (chain (subst P
    (text_end text_byte c.args.bytes.now c.loop-byte.byte-index c.loop-byte-test.false) c.loop-byte.invariant)
    c.put-2.ensures)
