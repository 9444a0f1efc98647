use Rattle.std.proofs.Common.{inl, refl, arith}
use Rattle.rom_commands.proofs.printing.flushed.Goals as goal

pub returns-then-failures-gt0-clause-ends : goal.returns-then-failures-gt0-clause-ends
returns-then-failures-gt0-clause-ends g c =
    let e = c.failures.ensures in
    let f = c.if-failures-gt0.true in inl (omega (arith, e, f), refl, c.report.ensures.said)
