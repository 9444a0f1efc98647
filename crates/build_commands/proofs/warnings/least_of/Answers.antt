use Rattle.std.proofs.Common.{ℕ, ◌+◌, map, ap, arith}
use Rattle.std.proofs.lemmas.List.{length-map}
use Rattle.build_commands.specs.Foreseen.{told}
use Rattle.build_commands.proofs.Least.{all_least, least_step}
use Rattle.build_commands.proofs.warnings.least_of.Goals as goal

pub loop-warning-preserved : goal.loop-warning-preserved
loop-warning-preserved c = record {
  number = ap (λ (n : ℕ). n + 1) c.loop-warning.invariant.number;
  least =
      least_step c.args.found.now c.loop-warning.warning-index c.loop-warning.number _ c.loop-warning.least
      c.lesser-least.result c.lesser-least.ensures c.loop-warning.invariant.number c.loop-warning-test.true
      c.loop-warning.invariant.least;
}

pub returns : goal.returns
returns c =
    let ws = c.args.found.now in
    let e = c.loop-warning-test.false in
    let l = length-map ws told in
    all_least (map told ws) c.loop-warning.warning-index c.loop-warning.least (omega (arith, e, l))
    c.loop-warning.invariant.least
