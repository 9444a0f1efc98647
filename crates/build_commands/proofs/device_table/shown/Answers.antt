use Rattle.std.proofs.Common.{◌∙◌, rules}
use Rattle.build_commands.proofs.Tabled.{shown_next}
use Rattle.build_commands.proofs.device_table.shown.Goals as goal

pub loop-file-preserved-in-Continue-1 : goal.loop-file-preserved-in-Continue-1
loop-file-preserved-in-Continue-1 c = record {
  next = tt;
  finite = tt;
  same = shown_next c.loop-file.shown.items c.push.new.self.items c.loop-file.file-iterator.rest.items
      c.next.new.self.rest.items c.in-Some.file c.in-Some.ensures.steps.0 c.in_ok-push.ensures.items (search rules)
      ∙ c.loop-file.invariant.same;
}
