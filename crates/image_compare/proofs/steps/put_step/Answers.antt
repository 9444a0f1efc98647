use Rattle.std.proofs.Common.{◌≡◌, ◌∷◌, [], List, Option, true, sym, subst}
use Rattle.rom_fields.specs.Written.{sink}
use Rattle.rom_tree.specs.Image.{Image}
use Rattle.rom_tree.specs.Names.{Name}
use Rattle.image_check.specs.Any.{any_view}
use Rattle.image_compare.specs.declared.steps.Named.{Named}
use Rattle.image_compare.specs.Rows.{IsFirst, IsNext, StepPuts}
use Rattle.image_compare.proofs.Stepped.{step_old, step_new}
use Rattle.image_compare.proofs.steps.put_step.Goals as goal

pub returns-in-Some-None-clause-puts : goal.returns-in-Some-None-clause-puts
returns-in-Some-None-clause-puts g c = λ ps qs d e.
    let m : Image = any_view c.args.old.now in
    let n : Image = any_view c.args.new.now in
    let s = sink (g.W.ByteWrite.output c.args.w.now) c.args.failed.now in
    let t = sink (g.W.ByteWrite.output c.put_removed.new.w) c.put_removed.new.failed in
    let F : Option Named → Type 0 = λ v. IsNext m v ps in
    let G : Option Named → Type 0 = λ v. IsNext n v qs in
    let x : IsFirst m c.in-Some-None.x.path.now c.in-Some-None.x.node.0 ps = subst F c.in-Some-None.is-0 d in
    let none : qs ≡ [] = subst G c.in-Some-None.is-1 e in
    let P : List Name → Type 0 = λ v. StepPuts s t c.args.places m.bytes n.bytes v qs
    (record { old = 1; new = 0; printed = true }) in
    let Q : List Name → Type 0 = λ v. StepPuts s t c.args.places m.bytes n.bytes (x.name ∷ x.rest) v
    (record { old = 1; new = 0; printed = true }) in
    subst P (sym x.is) (subst Q (sym none) (step_old s t c.args.places m.bytes n.bytes x.name x.name x.rest x.rest _
    x.path_is c.put_removed.ensures))

pub returns-in-None-Some-clause-puts : goal.returns-in-None-Some-clause-puts
returns-in-None-Some-clause-puts g c = λ ps qs d e.
    let m : Image = any_view c.args.old.now in
    let n : Image = any_view c.args.new.now in
    let s = sink (g.W.ByteWrite.output c.args.w.now) c.args.failed.now in
    let t = sink (g.W.ByteWrite.output c.put_added.new.w) c.put_added.new.failed in
    let F : Option Named → Type 0 = λ v. IsNext m v ps in
    let G : Option Named → Type 0 = λ v. IsNext n v qs in
    let y : IsFirst n c.in-None-Some.y.path.now c.in-None-Some.y.node.0 qs = subst G c.in-None-Some.is-1 e in
    let none : ps ≡ [] = subst F c.in-None-Some.is-0 d in
    let P : List Name → Type 0 = λ v. StepPuts s t c.args.places m.bytes n.bytes v qs
    (record { old = 0; new = 1; printed = true }) in
    let Q : List Name → Type 0 = λ v. StepPuts s t c.args.places m.bytes n.bytes [] v
    (record { old = 0; new = 1; printed = true }) in
    subst P (sym none) (subst Q (sym y.is) (step_new s t c.args.places m.bytes n.bytes y.name y.name y.rest y.rest _
    y.path_is c.put_added.ensures))
