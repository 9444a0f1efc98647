use Rattle.std.proofs.Common.{subst, sym}
use Rattle.rom_fields.specs.Written.{Puts, sink}
use Rattle.rom_fields.proofs.Joins.{chain}
use Rattle.map_forms.specs.Names.{identifier, macro_name}
use Rattle.map_forms.specs.Header.{first_lines}
use Rattle.map_forms.specs.declared.form.Form.{Form}
use Rattle.map_forms.proofs.writing.put_first_lines.Goals as goal

pub returns-in-Header : goal.returns-in-Header
unfolding first_lines macro_name identifier
returns-in-Header g c =
    let P : Form → Type 0 = λ f. Puts (sink (g.W.ByteWrite.output c.args.w.now) c.args.failed.now)
    (sink (g.W.ByteWrite.output c.put-in-Header-2.new.w) c.put-in-Header-2.new.failed)
    (first_lines f c.args.prefix.now) in
    subst P (sym c.in-Header.is) (chain c.put.ensures (chain c.put_name.ensures (chain c.put-in-Header.ensures
    (chain c.put_name-in-Header.ensures c.put-in-Header-2.ensures))))

pub returns-in-Script : goal.returns-in-Script
unfolding first_lines
returns-in-Script g c =
    let P : Form → Type 0 = λ f. Puts (sink (g.W.ByteWrite.output c.args.w.now) c.args.failed.now)
    (sink (g.W.ByteWrite.output c.put-in-Script.new.w) c.put-in-Script.new.failed)
    (first_lines f c.args.prefix.now) in
    subst P (sym c.in-Script.is) c.put-in-Script.ensures
