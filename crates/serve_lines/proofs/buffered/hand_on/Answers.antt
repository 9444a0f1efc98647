use Rattle.std.proofs.Common.{◌∙◌, ◌++◌, take, drop, arith}
use Rattle.std.proofs.lemmas.Grind.{common_steps}
use Rattle.rom_fields.proofs.Joins.{appends_join}
use Rattle.serve_lines.proofs.Buffering.{handed, left_over, within_held}
use Rattle.serve_lines.proofs.buffered.hand_on.Goals as goal

pub loop-sent-preserved : goal.loop-sent-preserved
loop-sent-preserved g c = record {
  front = c.loop-sent.invariant.front ++ take c.in-Ok.n (drop c.loop-sent.sent c.args.held.now.items);
  within = within_held _ c.args.held.now.items c.loop-sent.sent c.in-Ok.n c.as_slice.ensures.value
      c.loop-sent.invariant.within c.in-Ok.ensures.bound;
  wrote = appends_join _ _ _ c.loop-sent.invariant.front _ c.loop-sent.invariant.wrote
      (handed _ _ _ c.args.held.now.items c.loop-sent.sent c.in-Ok.n c.as_slice.ensures.value c.in-Ok.ensures.bytes);
  left = left_over c.args.held.now.items c.loop-sent.invariant.front c.args.sent.now c.loop-sent.sent c.in-Ok.n
      c.loop-sent.invariant.left;
  quiet = grind (arith, common_steps, c.in-Ok.ensures.count);
  unflushed = c.in-Ok.ensures.unflushed ∙ c.loop-sent.invariant.unflushed;
}
