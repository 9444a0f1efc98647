use Rattle.std.proofs.Common.{List, ℕ, sym, subst}
use Rattle.rom_fields.specs.Written.{Puts, sink}
use Rattle.rom_fields.proofs.Joins.{chain}
use Rattle.image_info.proofs.Lines.{address_low, address_high}
use Rattle.program_report.proofs.lines.put_address.Goals as goal

pub returns-then-address-lt4294967296 : goal.returns-then-address-lt4294967296
returns-then-address-lt4294967296 g c =
    let P : List ℕ → Type 0 = λ v. Puts (sink (g.W.ByteWrite.output c.args.w.now) c.args.failed.now)
    (sink (g.W.ByteWrite.output c.put_eight_digits.new.w) c.put_eight_digits.new.failed) v in
    subst P (sym (address_low c.args.address c.if-address-lt4294967296.true))
    (chain c.put.ensures c.put_eight_digits.ensures)

pub returns-else-address-lt4294967296 : goal.returns-else-address-lt4294967296
returns-else-address-lt4294967296 g c =
    let P : List ℕ → Type 0 = λ v. Puts (sink (g.W.ByteWrite.output c.args.w.now) c.args.failed.now)
    (sink (g.W.ByteWrite.output c.put_eight_digits-else-address-lt4294967296-2.new.w)
    c.put_eight_digits-else-address-lt4294967296-2.new.failed) v in
    subst P (sym (address_high c.args.address c.if-address-lt4294967296.false))
    (chain c.put.ensures (chain c.put_eight_digits-else-address-lt4294967296.ensures
    c.put_eight_digits-else-address-lt4294967296-2.ensures))
