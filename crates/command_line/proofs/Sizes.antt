-- Numbers of bytes with a unit behind them.
use Rattle.std.proofs.Common.{◌≡◌, ◌*◌, ◌<◌, ℕ, List, [], ◌∷◌, ◌++◌, Option, Some, None}
use Rattle.std.specs.Prelude.{IfSome}
use Rattle.std.specs.Option.{SomeIff}
use Rattle.command_line.specs.Numbers.{IsNumber, IsSize, in_units, unit_of}

pub units : (word digits : List ℕ) (letter unit k : ℕ) (r : Option ℕ) (C : Type 0) → word ≡ digits ++ letter ∷ []
    → unit_of letter ≡ Some unit → IsNumber 10 digits k → SomeIff r C (k * unit) → IfSome r (IsSize word)
units word digits letter unit k None C e u n h = tt
units word digits letter unit k (Some s) C e u n h = in_units digits letter unit k e u n h.1
