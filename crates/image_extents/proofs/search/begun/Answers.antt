use Rattle.std.proofs.Common.{◌<◌, ◌≤◌, ◌+◌, ◌-◌, ◌/◌, ℕ, length, get_or, arith, subst}
use Rattle.image_extents.specs.declared.extent.Extent.{Extent}
use Rattle.image_extents.specs.declared.extent.Kind.TheVariants.{Super}
use Rattle.image_extents.proofs.Owners.{before_middle, from_middle}
use Rattle.image_extents.proofs.search.begun.Goals as goal

abbrev none : Extent
none = record { kind = Super; start = 0; len = 0; offset = 0; owner = 0 }

pub loop-low-preserved-then-from-limit : goal.loop-low-preserved-then-from-limit
loop-low-preserved-then-from-limit c =
    let i = c.loop-low.invariant in
    let less = c.loop-low-test.true in
    let some = i.some in
    let within = i.within in
    let middle : ℕ = c.loop-low.low + (c.loop-low.high - c.loop-low.low) / 2 in
    let lower : middle < c.loop-low.high = omega arith in
    let there : middle < length c.args.extents.now = omega arith in
    let low : c.from.result < c.args.limit = c.if-from-limit.true in
    let e = c.from.ensures in
    let first : (get_or c.args.extents.now middle none).start < c.args.limit = subst (λ v. v < c.args.limit) e low in
    record {
      some = omega arith;
      within = within;
      below = λ k d z l. before_middle c.args.extents.now c.args.limit middle none c.requires there first k d l;
      above = i.above;
    }

pub loop-low-preserved : goal.loop-low-preserved
loop-low-preserved c =
    let i = c.loop-low.invariant in
    let less = c.loop-low-test.true in
    let some = i.some in
    let within = i.within in
    let middle : ℕ = c.loop-low.low + (c.loop-low.high - c.loop-low.low) / 2 in
    let lower : middle < c.loop-low.high = omega arith in
    let there : middle < length c.args.extents.now = omega arith in
    let high : c.args.limit ≤ c.from.result = c.if-from-limit.false in
    let e = c.from.ensures in
    let first : c.args.limit ≤ (get_or c.args.extents.now middle none).start = subst (λ v. c.args.limit ≤ v) e high in
    record {
      some = omega arith;
      within = omega arith;
      below = i.below;
      above = λ k d l m. from_middle c.args.extents.now c.args.limit middle none c.requires there first k d l m;
    }
