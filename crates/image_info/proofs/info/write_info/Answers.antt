use Rattle.std.proofs.Common.{◌≡◌, refl, ap, arith}
use Rattle.std.specs.Prelude.{codes}
use Rattle.rom_fields.proofs.Joins.{chain, said_ok, said_front, said_rose, said_quiet}
use Rattle.rom_tree.specs.declared.types.Report.{Report}
use Rattle.image_check.specs.Any.{report_of}
use Rattle.image_info.specs.Info.{report_text, tally_text, number_line, info_text}
use Rattle.image_info.proofs.Few.{few_names}
use Rattle.image_info.proofs.Joined.{by_value}
use Rattle.image_info.proofs.info.write_info.Goals as goal

pub count_names-requires : goal.count_names-requires
count_names-requires g c κs =
    let few = few_names c.args.image.now in
    let n : c.report-report.result.references ≡ (report_of c.args.image.now).references =
    ap (λ (r : Report). r.references) c.report-report.ensures in
    let s = c.report-report.type_inv in
    ((refl, tt), (c.requires.shallow, omega (arith, few, n, s)))

pub returns-then-failed : goal.returns-then-failed
unfolding info_text
returns-then-failed g c =
    let put = chain c.put_superblock.ensures
    (chain (by_value report_text c.report-report.ensures c.put_report.ensures)
    (chain (by_value tally_text c.in-Ok.ensures c.put_tally.ensures)
    (by_value (number_line (codes "gaps ")) c.in-Ok-count_gaps.ensures c.put_number.ensures))) in
    let text = info_text c.args.file c.args.image.now in (
      said_front (g.W.ByteWrite.output c.args.w.now)
          (g.W.ByteWrite.output c.put_number.new.w) c.put_number.new.failed text c.if-failed.true put,
      said_rose (g.W.ByteWrite.output c.args.w.now)
          (g.W.ByteWrite.output c.put_number.new.w) c.put_number.new.failed text c.if-failed.true put,
    )

pub returns-else-failed : goal.returns-else-failed
unfolding info_text
returns-else-failed g c =
    let put = chain c.put_superblock.ensures
    (chain (by_value report_text c.report-report.ensures c.put_report.ensures)
    (chain (by_value tally_text c.in-Ok.ensures c.put_tally.ensures)
    (by_value (number_line (codes "gaps ")) c.in-Ok-count_gaps.ensures c.put_number.ensures))) in
    let text = info_text c.args.file c.args.image.now in (
      said_ok (g.W.ByteWrite.output c.args.w.now)
          (g.W.ByteWrite.output c.put_number.new.w) c.put_number.new.failed text c.if-failed.false put,
      said_quiet (g.W.ByteWrite.output c.args.w.now)
          (g.W.ByteWrite.output c.put_number.new.w) c.put_number.new.failed text c.if-failed.false put,
    )
