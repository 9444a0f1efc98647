-- `AreTheSame`: two lists have the same extents. (This project's own.)
use Rattle.std.specs.Prelude.{◌↔◌, List}
use Rattle.std.specs.List.{Contains}
use Rattle.rom_fields.specs.declared.span.Span.{Span}

-- each extent of one list is in the other, perhaps not as many times
abbrev pub AreTheSame : List Span → List Span → Type 0
AreTheSame xs ys = (x : Span) → Contains xs x ↔ Contains ys x
