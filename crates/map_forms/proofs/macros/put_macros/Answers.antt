use Rattle.std.proofs.Common.{ℕ, subst}
use Rattle.rom_fields.specs.Written.{Puts, sink}
use Rattle.rom_fields.proofs.Joins.{chain}
use Rattle.map_forms.specs.Names.{macro_name}
use Rattle.map_forms.specs.Header.{definition, length_number, macro_front, macros}
use Rattle.map_forms.proofs.macros.put_macros.Goals as goal

pub returns : goal.returns
unfolding macros definition macro_front macro_name
returns g c =
    let P : ℕ → Type 0 = λ n. Puts (sink (g.W.ByteWrite.output c.put_front.new.w) c.put_front.new.failed)
    (sink (g.W.ByteWrite.output c.put_length.new.w) c.put_length.new.failed) (length_number c.args.form n) in
    chain c.put_place.ensures (chain
    (chain c.put_front.ensures (chain (subst P c.from.ensures c.put_length.ensures) c.put_behind.ensures))
    c.put_path.ensures)
