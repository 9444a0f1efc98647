-- A text that was put for one value was put for an equal one.
use Rattle.std.proofs.Common.{◌≡◌, List, ℕ, subst}
use Rattle.rom_fields.specs.Written.{Puts, Sink}

pub by_value : {A : Type 0} {s t : Sink} (f : A → List ℕ) {x y : A} → x ≡ y → Puts s t (f x) → Puts s t (f y)
by_value {A} {s} {t} f {x} {y} e h = subst (λ (v : A). Puts s t (f v)) e h
