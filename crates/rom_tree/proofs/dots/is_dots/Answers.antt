use Rattle.std.proofs.Common.{◌≡◌, List, ℕ, true, [], ◌∷◌, length, get_or, refl, arith}
use Rattle.rom_tree.specs.Dots.{is_dots}
use Rattle.rom_tree.proofs.dots.is_dots.Goals as goal

two_dots : (name : List ℕ) → length name ≡ 2 → get_or name 0 0 ≡ 46 → get_or name 1 0 ≡ 46 → true ≡ is_dots name
two_dots [] l a b = absurd (omega arith)
two_dots (x ∷ []) l a b = absurd (omega arith)
two_dots (x ∷ y ∷ []) l a b = rw (a, b) refl
two_dots (x ∷ y ∷ z ∷ more) l a b = absurd (omega arith)

pub returns-in-46-2 : goal.returns-in-46-2
returns-in-46-2 c = two_dots c.args.name.now (omega arith) (omega arith) (omega arith)
