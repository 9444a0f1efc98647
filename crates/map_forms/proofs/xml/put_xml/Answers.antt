use Rattle.std.proofs.Common.{ℕ, List, sym, subst}
use Rattle.rom_fields.specs.Written.{Puts, sink}
use Rattle.rom_fields.proofs.Joins.{chain, puts_nothing}
use Rattle.map_forms.specs.Xml.{xml_byte, xml_text}
use Rattle.map_forms.proofs.XmlBytes.{text_more, text_end}
use Rattle.map_forms.proofs.xml.put_xml.Goals as goal

pub loop-byte-init : goal.loop-byte-init
loop-byte-init g c = puts_nothing (sink (g.W.ByteWrite.output c.args.w.now) c.args.failed.now)

pub loop-byte-preserved : goal.loop-byte-preserved
loop-byte-preserved g c =
    let P : List ℕ → Type 0 = λ v. Puts (sink (g.W.ByteWrite.output c.args.w.now) c.args.failed.now)
    (sink (g.W.ByteWrite.output c.put_xml_byte.new.w) c.put_xml_byte.new.failed) v in
    subst P (sym (text_more xml_byte c.args.text.now c.loop-byte.byte-index c.loop-byte-test.true))
    (chain c.loop-byte.invariant c.put_xml_byte.ensures)

pub returns : goal.returns
unfolding xml_text
returns g c =
    let P : List ℕ → Type 0 = λ v. Puts (sink (g.W.ByteWrite.output c.args.w.now) c.args.failed.now)
    (sink (g.W.ByteWrite.output c.loop-byte.w) c.loop-byte.failed) v in
    subst P (text_end xml_byte c.args.text.now c.loop-byte.byte-index c.loop-byte-test.false) c.loop-byte.invariant
