use Rattle.std.proofs.Common.{subst}
use Rattle.rom_fields.specs.declared.check_error.CheckError.{CheckError}
use Rattle.image_check.specs.Any.{any_view, report_of}
use Rattle.image_check.specs.Checked.{IsLeastFaultUnder, IsRefused}
use Rattle.rom_c.specs.Held.{usual}
use Rattle.rom_c.proofs.Shown.{shows_tree}
use Rattle.rom_c.proofs.Roots.{names_root}
use Rattle.rom_c.proofs.image.check_into.Goals as goal

pub opened-requires-clause-shows : goal.opened-requires-clause-shows
opened-requires-clause-shows c = c.in-Ok.ensures.ok

pub returns-in-Ok-clause-tree : goal.returns-in-Ok-clause-tree
returns-in-Ok-clause-tree c = λ z. (
  (any_view c.in-Ok.found).tree,
  shows_tree c.args.bytes.now usual (any_view c.in-Ok.found)
      (report_of c.in-Ok.found) c.in-Ok.ensures.ok,
)

pub returns-in-Err-Fault-clause-refused : goal.returns-in-Err-Fault-clause-refused
returns-in-Err-Fault-clause-refused c = λ z.
    let P : CheckError → Type 0 = IsRefused c.args.bytes.now usual in
    subst P c.in-Err-Fault.field-0-is c.in-Err-Fault.ensures.fault

pub returns-in-Err-Fault-clause-least : goal.returns-in-Err-Fault-clause-least
returns-in-Err-Fault-clause-least c = λ z.
    let P : CheckError → Type 0 = IsLeastFaultUnder c.args.bytes.now usual in
    rw c.refused.ensures.fault
    (rw c.refused.ensures.at (subst P c.in-Err-Fault.field-0-is c.in-Err-Fault.ensures.least))

pub returns-in-Ok-clause-root : goal.returns-in-Ok-clause-root
returns-in-Ok-clause-root c = λ z t h.
    names_root c.args.bytes.now usual usual (any_view c.in-Ok.found).tree t c.opened.result.root c.one_tree.ensures
    (shows_tree c.args.bytes.now usual (any_view c.in-Ok.found) (report_of c.in-Ok.found) c.in-Ok.ensures.ok) h
    c.opened.ensures.root
