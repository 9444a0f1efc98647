use Rattle.std.proofs.Common.{◌≡◌, ap, refl, sym, ◌∙◌, true, arith}
use Rattle.rom_tree.specs.Image.{Image}
use Rattle.rom_tree.proofs.Named.{node_by, has_directory}
use Rattle.path_walk.specs.declared.budget.Purse.TheVariants.{Limited}
use Rattle.path_walk.specs.Compared.{is_looked_up}
use Rattle.path_walk.proofs.Counted.{looked_directory, compared_some, compared_none, on_true, on_false}
use Rattle.path_walk.proofs.budget.take_names.Goals as goal

pub take_entries-requires : goal.take_entries-requires
take_entries-requires g c κs =
    let m : Image = g.T.Viewed.image c.args.image.now in
    let w = node_by m c.args.node.0 c.requires in
    let l : is_looked_up w.0 c.args.component.now ≡ true =
    sym (c.is_compared.ensures w.0 w.1) ∙ c.if-is_compared.true in
    ((refl, tt), has_directory m c.args.node.0 w.0 w.1 (looked_directory w.0 c.args.component.now l))

pub returns-then-is_compared-clause-taken : goal.returns-then-is_compared-clause-taken
returns-then-is_compared-clause-taken g c = on_true c.take_entries.result (λ f x e.
    let z = compared_some x c.args.component.now (sym (c.is_compared.ensures x e) ∙ c.if-is_compared.true) in
    let k = f x e in
    ap Limited (omega (arith, z, k)) ∙ sym c.in-Limited.is) c.take_entries.ensures.taken

pub returns-then-is_compared-clause-too_many : goal.returns-then-is_compared-clause-too_many
returns-then-is_compared-clause-too_many g c = on_false c.take_entries.result (λ f x e.
    let z = compared_some x c.args.component.now (sym (c.is_compared.ensures x e) ∙ c.if-is_compared.true) in
    let k = f x e in
    (c.in-Limited.budget, c.in-Limited.is, ap Limited k.0, omega (arith, z, k.1))) c.take_entries.ensures.too_many

pub returns-clause-taken : goal.returns-clause-taken
returns-clause-taken g c = λ x e.
    let z = compared_none x c.args.component.now (sym (c.is_compared.ensures x e) ∙ c.if-is_compared.false) in
    ap Limited (omega (arith, z)) ∙ sym c.in-Limited.is
