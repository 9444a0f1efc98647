use Rattle.std.proofs.Common.{◌+◌, ◌<◌, ℕ, length, drop, Option, SomeIff, subst, arith}
use Rattle.romfs_format.specs.Record.{before_zero}
use Rattle.romfs_format.proofs.Zeros.{ended}
use Rattle.romfs_format.proofs.header.len_to_zero.Goals as goal

pub unreachable-requires : goal.unreachable-requires
unreachable-requires c =
    let n : ℕ = length (before_zero (drop c.args.at c.args.b.now)) in
    let s = ended c.args.b.now c.args.at c.memchr.result (omega arith) c.memchr.ensures in
    subst (λ (v : Option ℕ). SomeIff v (c.args.at + n < length c.args.b.now) n) c.in_default.is s c.requires

pub returns : goal.returns
returns c =
    let n : ℕ = length (before_zero (drop c.args.at c.args.b.now)) in
    let s = ended c.args.b.now c.args.at c.memchr.result (omega arith) c.memchr.ensures in
    (subst (λ (v : Option ℕ). SomeIff v (c.args.at + n < length c.args.b.now) n) c.in-Some.is s).1
