use Rattle.std.proofs.Common.{◌≡◌, false, arith, rules}
use Rattle.std.proofs.lemmas.List.{take_all}
use Rattle.std.proofs.lemmas.List.Elements.{All-more}
use Rattle.std.proofs.lemmas.List.Splits.{slice_split_none}
use Rattle.build_commands.specs.TableRow.{is_space}
use Rattle.build_commands.proofs.Words.{spaced_at}
use Rattle.build_commands.proofs.table_row.cut_word.Goals as goal

pub returns-then-is_space-clause-whole : goal.returns-then-is_space-clause-whole
returns-then-is_space-clause-whole c =
    spaced_at c.loop-i.i c.args.text.now c.loop-i-test.true c.loop-i.invariant (search rules)

pub loop-i-preserved : goal.loop-i-preserved
loop-i-preserved c =
    All-more (λ b. is_space b ≡ false) c.args.text.now c.loop-i.i 0 c.loop-i-test.true c.loop-i.invariant (search rules)

pub returns-clause-whole : goal.returns-clause-whole
returns-clause-whole c =
    slice_split_none is_space c.args.text.now
    (rw (take_all c.loop-i.i c.args.text.now (omega (arith, c.loop-i-test.false))) at c.loop-i.invariant)
