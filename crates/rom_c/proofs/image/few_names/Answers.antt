use Rattle.std.proofs.Common.{◌≡◌, ap, arith}
use Rattle.rom_tree.specs.declared.types.Report.{Report}
use Rattle.image_check.specs.Any.{report_of}
use Rattle.image_info.proofs.Few.{few_names}
use Rattle.rom_c.proofs.image.few_names.Goals as goal

pub returns : goal.returns
returns c =
    let few = few_names c.args.image.now in
    let n : c.report-report.result.references ≡ (report_of c.args.image.now).references =
    ap (λ (r : Report). r.references) c.report-report.ensures in
    let s = c.report-report.type_inv in
    omega (arith, few, n, s)
