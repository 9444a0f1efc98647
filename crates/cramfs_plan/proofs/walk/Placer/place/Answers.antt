use Rattle.std.proofs.Common.{◌≤◌, sym, subst, arith, rules}
use Rattle.std.specs.List.{AllByRecursion as Every}
use Rattle.cramfs_plan.proofs.Placing.{near_lists}
use Rattle.cramfs_plan.proofs.walk.Placer.place.Goals as goal

pub returns-clause-near : goal.returns-clause-near
returns-clause-near c = λ near h.
    let e = c.in_ok-stored.ensures in
    let at = h.at in
    let end = e.small.0 in
    let up = c.pad.ensures.near in
    let same = e.same.0 in
    record {
      at = omega (arith, at, end);
      lists = near_lists near c.stored.new.self.lists c.args.row.depth c.entry_len.result c.pad.result
          (subst (λ l. Every (λ n. n ≤ near) l) (sym e.same.1) h.lists) c.entry_len.ensures.short
          (omega (arith, at, up, same));
      tables = λ k t is. let l = e.near near h k t is in omega (arith, l);
    }

pub returns-clause-stands : goal.returns-clause-stands
returns-clause-stands c = λ w h. let up = c.pad.ensures in search rules
