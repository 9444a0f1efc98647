use Rattle.std.proofs.lemmas.Grind.{common_steps}
use Rattle.std.proofs.Common.{drop, ap, sym, ◌∙◌, arith}
use Rattle.image_stream.specs.Segments.{outline}
use Rattle.manifest_tree.specs.Items.{section, super}
use Rattle.manifest_layout.specs.Views.{section_view}
use Rattle.cramfs_write.proofs.Indexed.{segment_found, outline_by}
use Rattle.cramfs_write.proofs.form.CramfsFormSegmented.segment.Goals as goal

pub returns-in_default : goal.returns-in_default
returns-in_default c =
    let s = c.args.self.now in
    let p = s.plan.now in
    let q = c.section_behind-section in
    outline_by s.order p.items p.sizes q.result.place q.result.len q.result.body q.ensures.body c.in_default.not-Content
    ∙ ap outline (sym (segment_found s.order p.items (drop 1 p.sections) c.args.i (section 0 0 super)
    (section_view q.result) c.requires q.ensures.is))

pub returns-in-Content : goal.returns-in-Content
returns-in-Content c = grind (arith, common_steps)
