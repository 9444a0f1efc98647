use Rattle.image_compare.proofs.Dumps.{read_more, more_within, differs_more}
use Rattle.image_compare.proofs.dump.compare.Goals as goal

pub loop-at-preserved : goal.loop-at-preserved
loop-at-preserved g c =
    let i = c.loop-at.invariant in
    record {
      within = more_within c.args.image.now c.loop-at.at _ _ _ i.within i.read c.in_ok-count.field-0
          c.in_ok-count.ensures c.in-Same.count c.in-Same.is;
      read = read_more c.args.image.now c.loop-at.at _ _ _ i.within i.read c.in_ok-count.field-0
          c.in_ok-count.ensures c.in-Same.count c.in-Same.is;
    }

pub returns-in-Differs : goal.returns-in-Differs
returns-in-Differs g c =
    let i = c.loop-at.invariant in
    differs_more c.args.image.now c.loop-at.at _ _ _ i.within i.read c.in_ok-count.field-0 c.in_ok-count.ensures
    c.in-Differs.i c.in-Differs.is
