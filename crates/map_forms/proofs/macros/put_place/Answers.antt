use Rattle.std.proofs.Common.{ℕ, Option, subst, sym}
use Rattle.rom_fields.specs.Written.{Puts, sink}
use Rattle.rom_fields.proofs.Joins.{chain, puts_nothing}
use Rattle.map_forms.specs.Names.{macro_name}
use Rattle.map_forms.specs.Header.{address_macro, definition, macro_front}
use Rattle.map_forms.proofs.macros.put_place.Goals as goal

pub returns-in-Some : goal.returns-in-Some
unfolding address_macro definition macro_front macro_name
returns-in-Some g c =
    let P : Option ℕ → Type 0 = λ a. Puts (sink (g.W.ByteWrite.output c.args.w.now) c.args.failed.now)
    (sink (g.W.ByteWrite.output c.put_behind.new.w) c.put_behind.new.failed)
    (address_macro c.args.form c.args.prefix.now c.args.path.now a) in
    subst P (sym c.in-Some.is) (chain c.put_front.ensures (chain c.put_address.ensures c.put_behind.ensures))

pub returns-in_default : goal.returns-in_default
unfolding address_macro
returns-in_default g c =
    let P : Option ℕ → Type 0 = λ a. Puts (sink (g.W.ByteWrite.output c.args.w.now) c.args.failed.now)
    (sink (g.W.ByteWrite.output c.args.w.now) c.args.failed.now)
    (address_macro c.args.form c.args.prefix.now c.args.path.now a) in
    subst P (sym c.in_default.is) (puts_nothing (sink (g.W.ByteWrite.output c.args.w.now) c.args.failed.now))
