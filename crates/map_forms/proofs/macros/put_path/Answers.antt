use Rattle.std.proofs.Common.{subst, sym}
use Rattle.rom_fields.specs.Written.{Puts, sink}
use Rattle.rom_fields.proofs.Joins.{chain, puts_nothing}
use Rattle.map_forms.specs.Names.{macro_name}
use Rattle.map_forms.specs.Header.{definition, macro_front, path_macro}
use Rattle.map_forms.specs.declared.form.Form.{Form}
use Rattle.map_forms.proofs.macros.put_path.Goals as goal

pub returns-in-Header : goal.returns-in-Header
unfolding path_macro definition macro_front macro_name
returns-in-Header g c =
    let P : Form → Type 0 = λ f. Puts (sink (g.W.ByteWrite.output c.args.w.now) c.args.failed.now)
    (sink (g.W.ByteWrite.output c.put_behind.new.w) c.put_behind.new.failed)
    (path_macro f c.args.prefix.now c.args.path.now) in
    subst P (sym c.in-Header.is) (chain c.put_front.ensures (chain c.put_text.ensures c.put_behind.ensures))

pub returns-in-Script : goal.returns-in-Script
unfolding path_macro
returns-in-Script g c =
    let P : Form → Type 0 = λ f. Puts (sink (g.W.ByteWrite.output c.args.w.now) c.args.failed.now)
    (sink (g.W.ByteWrite.output c.args.w.now) c.args.failed.now) (path_macro f c.args.prefix.now c.args.path.now) in
    subst P (sym c.in-Script.is) (puts_nothing (sink (g.W.ByteWrite.output c.args.w.now) c.args.failed.now))
