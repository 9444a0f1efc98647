-- The answer of a look-up with a budget.
use Rattle.std.proofs.Common.{◌≡◌, ℕ, ◌+◌, ◌-◌, ◌<◌, arith, refl}
use Rattle.path_walk.proofs.Trails.{lt_true, lt_false}
use Rattle.rom_c.specs.declared.answers.RomtoolNode.{RomtoolNode}
use Rattle.rom_c.specs.Reported.{within_reported, no_node}

pub reported_left : (budget left names : ℕ) (r : RomtoolNode) → left + names ≡ budget
    → r ≡ within_reported budget names r
reported_left budget left names r e = rw (lt_false budget names (omega (arith, e))) refl

pub reported_none : (budget names : ℕ) (r : RomtoolNode) → budget < names → no_node 16 ≡ within_reported budget names r
reported_none budget names r l = rw (lt_true budget names l) refl

pub left_of : (budget left names : ℕ) → left + names ≡ budget → left ≡ budget - names
left_of budget left names e = omega (arith, e)

pub none_left : (budget left names : ℕ) → left ≡ 0 → budget < names → left ≡ budget - names
none_left budget left names z l = omega (arith, z, l)
