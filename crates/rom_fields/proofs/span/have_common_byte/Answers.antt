use Rattle.std.proofs.Common.{◌<◌, ◌+◌, rules, arith}
use Rattle.rom_fields.proofs.span.have_common_byte.Goals as goal

pub returns-then-first-end : goal.returns-then-first-end
returns-then-first-end c =
    let before : c.from-first.result < c.args.x.start + c.args.x.len = omega arith in search rules
