use Rattle.std.proofs.Common.{◌≡◌, ℕ, List, length, sym, ap, ◌∙◌, arith, true, false, nat_lt}
use Rattle.std.specs.Prelude.{not}
use Rattle.rom_tree.specs.Tree.{is_directory}
use Rattle.path_walk.proofs.Trails.{lt_true, lt_false}
use Rattle.path_walk.proofs.Counted.{looked_file, looked_long, looked_dot, looked_name}
use Rattle.path_walk.proofs.budget.is_compared.Goals as goal

pub returns-then-not-is_directory_at : goal.returns-then-not-is_directory_at
returns-then-not-is_directory_at g c = λ x e.
    sym (looked_file x c.args.component.now (sym c.if-not-is_directory_at.true ∙ c.is_directory_at.ensures x e))

pub returns-then-component-gt-COMPONENT_MAX : goal.returns-then-component-gt-COMPONENT_MAX
returns-then-component-gt-COMPONENT_MAX g c = λ x e.
    let p : List ℕ = c.args.component.now in
    let d : true ≡ is_directory x = sym c.if-not-is_directory_at.false ∙ c.is_directory_at.ensures x e in
    sym (looked_long x p d (lt_true 255 (length p) c.if-component-gt-COMPONENT_MAX.true))

pub returns-then-is_dot : goal.returns-then-is_dot
returns-then-is_dot g c = λ x e.
    let p : List ℕ = c.args.component.now in
    let d : true ≡ is_directory x = sym c.if-not-is_directory_at.false ∙ c.is_directory_at.ensures x e in
    let l : nat_lt 255 (length p) ≡ false = lt_false 255 (length p) (omega arith) in
    sym (looked_dot x p d l (sym c.is_dot.ensures.test ∙ c.if-is_dot.true))

pub returns : goal.returns
returns g c = λ x e.
    let p : List ℕ = c.args.component.now in
    let d : true ≡ is_directory x = sym c.if-not-is_directory_at.false ∙ c.is_directory_at.ensures x e in
    let l : nat_lt 255 (length p) ≡ false = lt_false 255 (length p) (omega arith) in
    ap not c.is_dot_dot.ensures.test ∙ sym (looked_name x p d l (sym c.is_dot.ensures.test ∙ c.if-is_dot.false))
