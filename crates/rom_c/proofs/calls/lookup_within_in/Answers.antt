use Rattle.std.proofs.Common.{◌≡◌, ℕ, Result, refl, sym, ap, ◌∙◌, subst}
use Rattle.rom_tree.specs.Tree.{Node}
use Rattle.rom_tree.proofs.Named.{node_number}
use Rattle.path_walk.specs.declared.error.WalkError.{WalkError}
use Rattle.path_walk.specs.declared.error.WithinError.{WithinError}
use Rattle.path_walk.specs.Resolution.{resolution, tree_namespace}
use Rattle.path_walk.specs.Compared.{names_compared, IsRefusedBy, Leaves}
use Rattle.image_check.specs.Any.{any_view}
use Rattle.rom_c.specs.declared.answers.RomtoolNode.{RomtoolNode}
use Rattle.rom_c.specs.Reported.{no_node, led_reported}
use Rattle.rom_c.proofs.Within.{reported_left, reported_none, left_of, none_left}
use Rattle.rom_c.proofs.calls.lookup_within_in.Goals as goal

pub returns-in-Ok-clause-leads : goal.returns-in-Ok-clause-leads
returns-in-Ok-clause-leads c =
    let m = any_view c.args.image.now in
    let g = tree_namespace m.bytes m.tree in
    let w = c.in-Ok.ensures.leads in
    let r : RomtoolNode = led_reported (resolution g c.args.path.now c.args.follow) in
    let reported : record { error = 0; node = c.in-Ok.node.0 } ≡ r =
    rw w.1 (rw (node_number m c.in-Ok.node.0 w.0 w.2) refl) in
    reported ∙ reported_left c.args.budget.now c.walk_within.new.budget
    (names_compared g c.args.path.now c.args.follow) r
    c.in-Ok.ensures.left

pub returns-in-Ok-clause-left : goal.returns-in-Ok-clause-left
returns-in-Ok-clause-left c =
    let m = any_view c.args.image.now in
    left_of c.args.budget.now c.walk_within.new.budget
    (names_compared (tree_namespace m.bytes m.tree) c.args.path.now c.args.follow) c.in-Ok.ensures.left

pub returns-in-Path-clause-leads : goal.returns-in-Path-clause-leads
returns-in-Path-clause-leads c =
    let m = any_view c.args.image.now in
    let g = tree_namespace m.bytes m.tree in
    let all : Result Node WalkError = resolution g c.args.path.now c.args.follow in
    let n : ℕ = names_compared g c.args.path.now c.args.follow in
    let P : WithinError → Type 0 = λ v. IsRefusedBy all v in
    let L : WithinError → Type 0 = λ v. Leaves c.args.budget.now c.walk_within.new.budget n v in
    let e = subst P c.in-Path.is c.in-Err.ensures.leads in
    let l = subst L c.in-Path.is c.in-Err.ensures.left in
    (c.no_node.ensures ∙ (ap no_node c.number.ensures ∙ sym (ap led_reported e)))
    ∙ reported_left c.args.budget.now c.walk_within.new.budget n (led_reported all) l

pub returns-in-Path-clause-left : goal.returns-in-Path-clause-left
returns-in-Path-clause-left c =
    let m = any_view c.args.image.now in
    let n : ℕ = names_compared (tree_namespace m.bytes m.tree) c.args.path.now c.args.follow in
    let L : WithinError → Type 0 = λ v. Leaves c.args.budget.now c.walk_within.new.budget n v in
    left_of c.args.budget.now c.walk_within.new.budget n (subst L c.in-Path.is c.in-Err.ensures.left)

pub returns-in-TooManyNames-clause-leads : goal.returns-in-TooManyNames-clause-leads
returns-in-TooManyNames-clause-leads c =
    let m = any_view c.args.image.now in
    let g = tree_namespace m.bytes m.tree in
    let n : ℕ = names_compared g c.args.path.now c.args.follow in
    let L : WithinError → Type 0 = λ v. Leaves c.args.budget.now c.walk_within.new.budget n v in
    let l = subst L c.in-TooManyNames.is c.in-Err.ensures.left in
    c.no_node-in-TooManyNames.ensures
    ∙ reported_none c.args.budget.now n (led_reported (resolution g c.args.path.now c.args.follow)) l.1

pub returns-in-TooManyNames-clause-left : goal.returns-in-TooManyNames-clause-left
returns-in-TooManyNames-clause-left c =
    let m = any_view c.args.image.now in
    let n : ℕ = names_compared (tree_namespace m.bytes m.tree) c.args.path.now c.args.follow in
    let L : WithinError → Type 0 = λ v. Leaves c.args.budget.now c.walk_within.new.budget n v in
    let l = subst L c.in-TooManyNames.is c.in-Err.ensures.left in
    none_left c.args.budget.now c.walk_within.new.budget n l.0 l.1
