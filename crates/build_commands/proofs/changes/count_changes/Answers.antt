use Rattle.std.proofs.Common.{◌<◌, length, min, arith}
use Rattle.build_commands.specs.Changed.{has_other_group, has_other_mode, has_other_owner}
use Rattle.build_commands.proofs.Counted.{bounded_next, counted_all, counted_on}
use Rattle.build_commands.proofs.changes.count_changes.Goals as goal

pub loop-i-init : goal.loop-i-init
loop-i-init c = record {
  within = omega arith;
  owners_bound = omega arith;
  groups_bound = omega arith;
  modes_bound = omega arith;
  owners = omega arith;
  groups = omega arith;
  modes = omega arith;
}

pub loop-i-preserved : goal.loop-i-preserved
loop-i-preserved c =
    let loop = c.loop-i.invariant in
    let next = c.with_changes-counts.ensures in
    let within : c.loop-i.i < min (length c.args.lines.now) (length c.args.found.now) =
    omega (arith, c.loop-i-test.true, c.min-count.ensures)
    in
    record {
      within = omega (arith, c.loop-i-test.true);
      owners_bound = bounded_next _ _ _ _ loop.owners_bound next.owners;
      groups_bound = bounded_next _ _ _ _ loop.groups_bound next.groups;
      modes_bound = bounded_next _ _ _ _ loop.modes_bound next.modes;
      owners = counted_on has_other_owner c.args.lines.now c.args.found.now c.loop-i.i _ _ _ _ _ _ within
          c.index-found-i.is c.changes_of.ensures.owner next.owners loop.owners;
      groups = counted_on has_other_group c.args.lines.now c.args.found.now c.loop-i.i _ _ _ _ _ _ within
          c.index-found-i.is c.changes_of.ensures.group next.groups loop.groups;
      modes = counted_on has_other_mode c.args.lines.now c.args.found.now c.loop-i.i _ _ _ _ _ _ within
          c.index-found-i.is c.changes_of.ensures.mode next.modes loop.modes;
    }

pub returns-clause-owners : goal.returns-clause-owners
returns-clause-owners c =
    counted_all has_other_owner c.args.lines.now c.args.found.now c.loop-i.i _ _
    (omega (arith, c.loop-i-test.false, c.min-count.ensures)) c.loop-i.invariant.owners

pub returns-clause-groups : goal.returns-clause-groups
returns-clause-groups c =
    counted_all has_other_group c.args.lines.now c.args.found.now c.loop-i.i _ _
    (omega (arith, c.loop-i-test.false, c.min-count.ensures)) c.loop-i.invariant.groups

pub returns-clause-modes : goal.returns-clause-modes
returns-clause-modes c =
    counted_all has_other_mode c.args.lines.now c.args.found.now c.loop-i.i _ _
    (omega (arith, c.loop-i-test.false, c.min-count.ensures)) c.loop-i.invariant.modes
