use Rattle.std.proofs.Common.{[], refl, ap, ◌∙◌}
use Rattle.rom_fields.proofs.Joins.{appends_none}
use Rattle.std.proofs.Common.{sym, subst, ◌≡◌}
use Rattle.std.specs.Prelude.{◌⊎◌}
use Rattle.rom_commands.specs.declared.ending.Ending.{Ending}
use Rattle.rom_commands.specs.declared.ending.Ending.TheVariants.{Done, Warned}
use Rattle.rom_commands.specs.Texts.{IsPlaces, StopsOfMemory, are_inside, places_ending, places_text}
use Rattle.rom_commands.proofs.Closed.{by_places, whole_written}
use Rattle.rom_commands.proofs.Lines.{are_apart, in_order}
use Rattle.rom_commands.proofs.places.write_all.Goals as goal

pub returns-in_default : goal.returns-in_default
returns-in_default g c =
    ([], (refl, refl), ([], [], appends_none (g.W.ByteWrite.output c.args.w.now).contents, refl), refl)

pub write_lines-requires : goal.write_lines-requires
write_lines-requires g c = record {
  sorted = in_order c.args.image.now c.in-Ok.found c.in-Ok.ensures;
  apart = are_apart c.args.image.now c.in-Ok.found c.in-Ok.ensures;
}

pub returns-in-Ok-write_lines : goal.returns-in-Ok-write_lines
returns-in-Ok-write_lines g c =
    let P : Ending → Type 0 = λ o. (o ≡ Done) ⊎ (o ≡ Warned) in
    whole_written (IsPlaces c.args.image.now c.args.base c.args.file c.args.addresses.now) StopsOfMemory
    (g.W.ByteWrite.output c.args.w.now) (g.W.ByteWrite.output c.write_lines.new.w) c.places_ending.result
    (subst P (sym c.places_ending.ensures) (by_places c.in-Ok-write_lines.inside)) (
      places_text c.args.base c.args.file c.in-Ok.found c.args.addresses.now,
      record {
        found = c.in-Ok.found;
        are = c.in-Ok.ensures;
        same = refl;
        ends = c.places_ending.ensures ∙ ap places_ending c.in-Ok-write_lines.ensures.inside;
      },
      c.in-Ok-write_lines.ensures.text,
      c.in-Ok-write_lines.ensures.count,
    )

pub returns : goal.returns
returns g c = (
  places_text c.args.base c.args.file c.in-Ok.found c.args.addresses.now,
  (
    places_ending (are_inside c.args.base c.args.file c.in-Ok.found c.args.addresses.now),
    record { found = c.in-Ok.found; are = c.in-Ok.ensures; same = refl; ends = refl },
  ),
  c.in-Err.ensures.text,
  c.in-Err.ensures.count,
)
