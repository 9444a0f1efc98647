use Rattle.std.proofs.Common.{◌++◌, List, subst, sym, rules}
use Rattle.rom_tree.proofs.Answered.{err_by}
use Rattle.build_commands.specs.DeviceTable.{IsListed}
use Rattle.build_commands.specs.Laying.{IsTableRefusal}
use Rattle.build_commands.specs.Overlay.{AreInOrder, AreLaid, IsRefused}
use Rattle.build_commands.specs.declared.inventory.NamedFile.{NamedFile}
use Rattle.build_commands.proofs.Layered.{table_missing, table_mixed}
use Rattle.build_commands.proofs.laying.lay_table.Goals as goal

pub returns-in_err-set-clause-refused : goal.returns-in_err-set-clause-refused
returns-in_err-set-clause-refused c =
    let o : AreInOrder c.deref.result.now = subst AreInOrder (sym c.deref.ensures.value) c.requires in
    let says : IsListed c.args.found.items c.args.text.now c.in_ok-files.field-0 =
    rw c.deref.ensures.value at (c.in_ok-files.ensures.listed o)
    in
    err_by c.from_residual-in_err-set.result c.from_residual-in_err-set.ensures.1
    (λ e is. subst (IsTableRefusal c.args.found.items c.args.text.now) (sym is)
    (table_missing c.args.found.items c.args.text.now c.in_ok-files.field-0 c.in_err-set.field-0.0 says
    (rw c.deref-2.ensures.value at c.in_err-set.ensures.refused)))

pub returns-in_err-laid_with-clause-refused : goal.returns-in_err-laid_with-clause-refused
returns-in_err-laid_with-clause-refused c =
    let o : AreInOrder c.deref.result.now = subst AreInOrder (sym c.deref.ensures.value) c.requires in
    let says : IsListed c.args.found.items c.args.text.now c.in_ok-files.field-0 =
    rw c.deref.ensures.value at (c.in_ok-files.ensures.listed o)
    in
    err_by c.from_residual-in_err-laid_with.result c.from_residual-in_err-laid_with.ensures.1
    (λ e is. subst (IsTableRefusal c.args.found.items c.args.text.now) (sym is)
    (table_mixed c.args.found.items c.args.text.now c.in_ok-files.field-0 c.in_err-laid_with.field-0.0 says
    (subst (λ (fs : List NamedFile). IsRefused (fs ++ c.in_ok-files.field-0.files.items) c.in_err-laid_with.field-0.0)
    (rw c.deref-2.ensures.value at c.in_ok-set.ensures.set) c.in_err-laid_with.ensures.mixed)))

pub returns-clause-laid : goal.returns-clause-laid
returns-clause-laid c =
    let o : AreInOrder c.deref.result.now = subst AreInOrder (sym c.deref.ensures.value) c.requires in
    record {
      listing = c.in_ok-files.field-0;
      says = rw c.deref.ensures.value at (c.in_ok-files.ensures.listed o);
      over = subst
          (λ (fs : List NamedFile). AreLaid (fs ++ c.in_ok-files.field-0.files.items) c.in_ok-laid_with.field-0.items)
          (rw c.deref-2.ensures.value at c.in_ok-set.ensures.set) c.in_ok-laid_with.ensures.laid;
    }
