use Rattle.std.proofs.Common.{drop, sym, ap, subst, ◌∙◌, arith}
use Rattle.std.proofs.lemmas.List.{length-drop}
use Rattle.std.specs.Option.{option_map}
use Rattle.manifest_tree.specs.Items.{Section, section, super}
use Rattle.manifest_layout.specs.Views.{section_view}
use Rattle.romfs_write.specs.Known.{IsBody}
use Rattle.manifest_layout.proofs.Indexed.{section_found, section_lost, every_at}
use Rattle.romfs_write.proofs.form.RomfsForm.section_behind.Goals as goal

pub overflow_add-i : goal.overflow_add-i
overflow_add-i c =
    let n = length-drop 1 c.args.self.now.plan.now.sections in
    let l = c.requires in
    let k = c.facts.ensures.count in
    omega arith

pub returns-in-Some-clause-is : goal.returns-in-Some-clause-is
returns-in-Some-clause-is c =
    section_found c.args.self.now.plan.now.sections c.args.i (section 0 0 super) c.in-Some.section c.requires
    (ap (option_map section_view) (sym c.in-Some.is) ∙ c.section.ensures)

pub returns-in-Some-clause-body : goal.returns-in-Some-clause-body
returns-in-Some-clause-body c =
    let p = c.args.self.now.plan.now in
    let d = section 0 0 super in
    let e = section_found p.sections c.args.i d c.in-Some.section c.requires
    (ap (option_map section_view) (sym c.in-Some.is) ∙ c.section.ensures) in
    subst (λ (s : Section). IsBody p.items p.sizes s.len s.body) (sym e)
    (every_at (λ (s : Section). IsBody p.items p.sizes s.len s.body)
    (drop 1 p.sections) c.args.i d c.facts.ensures.plan.bodies c.requires)

pub returns-in-None-clause-is : goal.returns-in-None-clause-is
returns-in-None-clause-is c = absurd
    (section_lost c.args.self.now.plan.now.sections c.args.i c.section.result c.requires c.in-None.is c.section.ensures)

pub returns-in-None-clause-body : goal.returns-in-None-clause-body
returns-in-None-clause-body c =
    section_lost c.args.self.now.plan.now.sections c.args.i c.section.result c.requires c.in-None.is c.section.ensures
