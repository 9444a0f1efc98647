use Rattle.std.proofs.Common.{◌∙◌, sym, ap, Bool}
use Rattle.std.specs.Prelude.{◌||◌}
use Rattle.rom_fields.proofs.Joins.{chain, puts_nothing}
use Rattle.rom_tree.specs.Walks.{given_path}
use Rattle.linux_misreads.proofs.Printed.{printed_line, or_none, or_one}
use Rattle.linux_misreads.proofs.names.put_line.Goals as goal

pub returns-then-is_misread : goal.returns-then-is_misread
returns-then-is_misread g c =
    rw c.if-is_misread.true (record {
      puts = chain c.put.ensures (chain c.put_path.ensures c.put-then-is_misread.ensures);
      printed = or_one c.args.printed.now ∙ ap (λ (v : Bool). c.args.printed.now || v)
          (sym (printed_line c.args.text.now (given_path c.args.walk.now)));
    })

pub returns-else-is_misread : goal.returns-else-is_misread
returns-else-is_misread g c =
    rw c.if-is_misread.false (record { puts = puts_nothing _; printed = or_none c.args.printed.now })
