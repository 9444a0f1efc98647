use Rattle.std.proofs.lemmas.Grind.{common_steps}
use Rattle.std.proofs.Common.{◌∙◌, ℕ, ◌+◌, ◌-◌, ◌/◌, ◌<◌, length, sym, arith}
use Rattle.lookups.proofs.Firsts.{below_up_to, above_from}
use Rattle.lookups.proofs.search.rows_before.Goals as goal

pub loop-low-preserved-then-is_before : goal.loop-low-preserved-then-is_before
loop-low-preserved-then-is_before c =
    let i = c.loop-low.invariant in
    let less = c.loop-low-test.true in
    let some = i.some in
    let within = i.within in
    let middle : ℕ = c.loop-low.low + (c.loop-low.high - c.loop-low.low) / 2 in
    let lower : middle < c.loop-low.high = omega arith in
    let there : middle < length c.args.rows.now = omega arith in
    record {
      some = omega arith;
      within = within;
      parts = λ up. (
        below_up_to c.args.rows.now c.args.name.now middle _ up there
            (sym c.is_before.ensures ∙ c.if-is_before.true),
        (i.parts up).1,
      );
    }

pub loop-low-preserved : goal.loop-low-preserved
loop-low-preserved c =
    let i = c.loop-low.invariant in
    let less = c.loop-low-test.true in
    let some = i.some in
    let within = i.within in
    let middle : ℕ = c.loop-low.low + (c.loop-low.high - c.loop-low.low) / 2 in
    let lower : middle < c.loop-low.high = omega arith in
    let there : middle < length c.args.rows.now = omega arith in
    record {
      some = omega arith;
      within = omega arith;
      parts = λ up. (
        (i.parts up).0,
        above_from c.args.rows.now c.args.name.now middle _ up there
            (sym c.is_before.ensures ∙ c.if-is_before.false),
      );
    }

pub loop-low-init : goal.loop-low-init
loop-low-init c = grind (arith, common_steps)
