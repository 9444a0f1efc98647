use Rattle.std.proofs.Common.{◌≡◌, ◌∙◌, sym, ap, None}
use Rattle.std.specs.Prelude.{slice_index_or}
use Rattle.elf_format.specs.Needs.{Needed}
use Rattle.program_report.specs.FileNeeded.{FileNeeded, needed_or_none}
use Rattle.program_report.proofs.NodeNeeds.{entry_missing}
use Rattle.program_report.proofs.needs.FileNeeds.missing_entry.Goals as goal

pub returns-in-Some-clause-is : goal.returns-in-Some-clause-is
returns-in-Some-clause-is g c =
    let m = g.T.Viewed.image c.args.image.now in
    let e : c.in-Some.libraries ≡ c.args.self.now.libraries =
    sym (ap needed_or_none c.in-Some.is) ∙ ap (λ (n : FileNeeded). n.libraries) c.self.view_is in
    c.missing_library.ensures.is
    ∙ entry_missing m c.args.self.now c.args.entry _ _
    (c.self.invariant.1 ∙ ap (λ (n : FileNeeded). n.libraries.run_path) c.self.view_is)
    (c.needed.ensures ∙ ap (λ (n : Needed). slice_index_or n.needed c.args.entry None) e)
