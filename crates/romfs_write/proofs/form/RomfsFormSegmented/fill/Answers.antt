use Rattle.std.proofs.Common.{drop, sym, ap, ◌∙◌, arith}
use Rattle.std.proofs.lemmas.List.{length-map}
use Rattle.manifest_tree.specs.Items.{section, super}
use Rattle.romfs_write.specs.Form.{segment_of}
use Rattle.romfs_write.proofs.Indexed.{segment_seen}
use Rattle.romfs_write.proofs.form.RomfsFormSegmented.fill.Goals as goal

pub returns : goal.returns
returns c = λ place bytes e.
    let p = c.args.self.now.plan.now in
    let ss = drop 1 p.sections in
    let n = length-map ss (segment_of p.items) in
    let l = c.requires.index in
    let seen = segment_seen p.items ss c.args.i (section 0 0 super) (omega (arith, n, l)) in
    c.fill_section.ensures place bytes (ap (segment_of p.items) c.section_behind.ensures.is ∙ sym seen ∙ e)
