use Rattle.std.proofs.Common.{inl, inr, sym, ap}
use Rattle.rom_fields.specs.Extents.{is_shareable}
use Rattle.rom_fields.proofs.span.is_shareable_kind.Goals as goal

pub returns-in-Super : goal.returns-in-Super
returns-in-Super c = elim c.in-Super.is [
  | inl e ↦ sym (ap is_shareable e)
  | inr d ↦ elim d [ inl e ↦ sym (ap is_shareable e) | inr e ↦ sym (ap is_shareable e) ]
]
