use Rattle.std.proofs.Common.{◌≡◌, rules, arith}
use Rattle.rom_fields.proofs.bytes.PlainByteWrite.write.Goals as goal

pub returns-then-not-is_empty-clause-count : goal.returns-then-not-is_empty-clause-count
returns-then-not-is_empty-clause-count g c = let none : c.in-Ok.n ≡ 0 = omega arith in search rules
