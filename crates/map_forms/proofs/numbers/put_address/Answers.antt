use Rattle.std.proofs.Common.{List, ℕ, subst}
use Rattle.rom_fields.specs.Written.{Puts, sink}
use Rattle.rom_fields.proofs.Joins.{chain}
use Rattle.map_forms.proofs.Literals.{number_low, number_high}
use Rattle.map_forms.proofs.numbers.put_address.Goals as goal

pub returns-then-address-lt4294967296 : goal.returns-then-address-lt4294967296
returns-then-address-lt4294967296 g c =
    let P : List ℕ → Type 0 = λ v. Puts (sink (g.W.ByteWrite.output c.args.w.now) c.args.failed.now)
    (sink (g.W.ByteWrite.output c.put_suffix.new.w) c.put_suffix.new.failed) v in
    subst P (number_low c.args.form c.args.address c.if-address-lt4294967296.true)
    (chain c.put.ensures (chain c.put_eight_digits.ensures c.put_suffix.ensures))

pub returns-else-address-lt4294967296 : goal.returns-else-address-lt4294967296
returns-else-address-lt4294967296 g c =
    let P : List ℕ → Type 0 = λ v. Puts (sink (g.W.ByteWrite.output c.args.w.now) c.args.failed.now)
    (sink (g.W.ByteWrite.output c.put_long_suffix.new.w) c.put_long_suffix.new.failed) v in
    subst P (number_high c.args.form c.args.address c.if-address-lt4294967296.false)
    (chain c.put.ensures (chain c.put_eight_digits-else-address-lt4294967296.ensures
    (chain c.put_eight_digits-else-address-lt4294967296-2.ensures c.put_long_suffix.ensures)))
