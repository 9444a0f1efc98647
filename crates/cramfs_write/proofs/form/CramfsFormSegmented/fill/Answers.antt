use Rattle.std.proofs.Common.{drop, ap, subst, sym, ◌∙◌, ◌+◌, ◌≤◌, ◌%◌, ℕ, length}
use Rattle.manifest_tree.specs.Items.{section, super}
use Rattle.manifest_layout.specs.Views.{section_view}
use Rattle.cramfs_write.proofs.Indexed.{segment_found, segment_is_long}
use Rattle.cramfs_write.proofs.form.CramfsFormSegmented.fill.Goals as goal

pub fill_section-requires-clause-within : goal.fill_section-requires-clause-within
fill_section-requires-clause-within c =
    let s = c.args.self.now in
    let p = s.plan.now in
    let q = c.section_behind in
    let long = segment_is_long s.order p.items p.sizes (drop 1 p.sections) c.args.i (section 0 0 super)
    (section_view q.result) c.requires.index q.ensures.is q.ensures.body in
    subst (λ (n : ℕ). c.args.from + length c.args.out.now ≤ n) long c.requires.within

pub fill_section-requires-clause-words : goal.fill_section-requires-clause-words
fill_section-requires-clause-words c = λ four.
    let s = c.args.self.now in
    let p = s.plan.now in
    let q = c.section_behind in
    let long = segment_is_long s.order p.items p.sizes (drop 1 p.sections) c.args.i (section 0 0 super)
    (section_view q.result) c.requires.index q.ensures.is q.ensures.body in
    c.requires.words (ap (λ (n : ℕ). n % 4) long ∙ four)

pub returns : goal.returns
returns c = λ place bytes e.
    let s = c.args.self.now in
    let p = s.plan.now in
    let q = c.section_behind in
    let seen = segment_found s.order p.items (drop 1 p.sections) c.args.i (section 0 0 super)
    (section_view q.result) c.requires.index q.ensures.is in
    c.fill_section.ensures place bytes (sym seen ∙ e)
