use Rattle.std.proofs.Common.{refl, subst, List}
use Rattle.build_commands.specs.Overlay.{IsMixed}
use Rattle.build_commands.specs.declared.inventory.NamedFile.{NamedFile}
use Rattle.build_commands.proofs.device_table.last_of_each.Goals as goal

pub returns-in-Err-Kinds-clause-mixed : goal.returns-in-Err-Kinds-clause-mixed
returns-in-Err-Kinds-clause-mixed c =
    rw c.refused.ensures (record {
      sorted = c.sort.new.found.items;
      file = c.in-Err-Kinds.file;
      is = record { order = c.in_ok-sort.ensures.order; same = c.in_ok-sort.ensures.named };
      mixed = subst (λ (fs : List NamedFile). IsMixed fs c.in-Err-Kinds.file) c.in_ok-shown.ensures
          (rw c.in-Err-Kinds.field-0-is at c.in-Err-Kinds.ensures.mixed);
      line = refl;
    })
