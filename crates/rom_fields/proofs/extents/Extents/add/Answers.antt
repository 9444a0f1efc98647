use Rattle.std.proofs.Common.{◌≡◌, ◌<◌, ◌++◌, append-nil, sym, ap, rules, arith}
use Rattle.rom_fields.proofs.extents.Extents.add.Goals as goal

pub returns-else-len-gt0-clause-ok : goal.returns-else-len-gt0-clause-ok
returns-else-len-gt0-clause-ok c = let none : c.args.len ≡ 0 = omega arith in rw none (sym (append-nil c.args.self.now))

pub returns-in_ok-push-clause-ok : goal.returns-in_ok-push-clause-ok
returns-in_ok-push-clause-ok c = let some : 0 < c.args.len = omega arith in search rules
