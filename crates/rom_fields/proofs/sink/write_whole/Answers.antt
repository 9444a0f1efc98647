use Rattle.std.proofs.Common.{arith, ◌+◌, ◌∙◌}
use Rattle.std.proofs.lemmas.Grind.{common_steps}
use Rattle.rom_fields.proofs.Joins.{appends_tail, within_tail, appends_keep, front_take}
use Rattle.rom_fields.proofs.sink.write_whole.Goals as goal

pub returns-in-Ok-eq0-clause-text : goal.returns-in-Ok-eq0-clause-text
returns-in-Ok-eq0-clause-text g c =
    front_take _ _ c.args.b.now (c.loop-at.at + c.in-Ok-eq0.field-0)
    (appends_tail _ _ _ c.args.b.now c.loop-at.at c.in-Ok-eq0.field-0 c.loop-at.invariant.written
    c.in-Ok-eq0.ensures.bytes)

pub returns-in-Err-clause-text : goal.returns-in-Err-clause-text
returns-in-Err-clause-text g c =
    front_take _ _ c.args.b.now c.loop-at.at (appends_keep _ _ _ _ c.loop-at.invariant.written c.in-Err.ensures.bytes)

pub loop-at-preserved : goal.loop-at-preserved
loop-at-preserved g c = record {
  within = within_tail c.args.b.now c.loop-at.at c.in-Ok.n c.loop-at.invariant.within c.in-Ok.ensures.bound;
  written = appends_tail _ _ _ c.args.b.now c.loop-at.at c.in-Ok.n c.loop-at.invariant.written c.in-Ok.ensures.bytes;
  quiet = grind (arith, common_steps, c.in-Ok.ensures.count);
  unflushed = c.in-Ok.ensures.unflushed ∙ c.loop-at.invariant.unflushed;
}
