use Rattle.std.proofs.Common.{List, ℕ, subst, ◌∙◌}
use Rattle.rom_fields.specs.Written.{Puts, sink}
use Rattle.rom_fields.proofs.text.put_long_decimal.Goals as goal

pub returns : goal.returns
returns g c =
    let P : List ℕ → Type 0 = λ v. Puts (sink (g.W.ByteWrite.output c.args.w.now) c.args.failed.now)
    (sink (g.W.ByteWrite.output c.put.new.w) c.put.new.failed) v in
    subst P (c.as_bytes.ensures.value ∙ c.format.ensures.text) c.put.ensures
