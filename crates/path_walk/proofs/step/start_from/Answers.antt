use Rattle.std.proofs.Common.{◌≡◌, sym, ◌∙◌, subst, true, Bool}
use Rattle.std.specs.Prelude.{if◌then◌else◌}
use Rattle.path_walk.specs.Components.{begins_with_slash}
use Rattle.path_walk.specs.Resolution.{to_root}
use Rattle.path_walk.specs.Trails.{IsTrail}
use Rattle.path_walk.proofs.Trails.{root_trail}
use Rattle.path_walk.proofs.step.start_from.Goals as goal

pub returns-then-is_absolute : goal.returns-then-is_absolute
returns-then-is_absolute g c = λ ms us s i sh r.
    let h : true ≡ begins_with_slash c.args.text.now = sym c.if-is_absolute.true ∙ c.is_absolute.ensures in
    let P : Bool → Type 0 = λ v. IsTrail ms us c.args.root c.clear.new.self.items (if v then to_root s else s) in
    subst P h (root_trail ms us c.args.root c.args.current.now c.args.ancestors.now.items c.clear.new.self.items s i sh
    r c.clear.ensures)
