use Rattle.std.proofs.Common.{refl}
use Rattle.image_info.specs.Description.{array_text, description}
use Rattle.rom_commands.specs.declared.ending.Ending.TheVariants.{Done}
use Rattle.rom_commands.proofs.numbers.write_one.Goals as goal

pub returns-in-Ok : goal.returns-in-Ok
returns-in-Ok g c = (
  array_text c.args.numbers,
  (rw c.if-is_array.true refl, refl),
  c.in-Ok.ensures.text,
  c.in-Ok.ensures.count,
)

pub returns-in-Err : goal.returns-in-Err
returns-in-Err g c = (
  array_text c.args.numbers,
  (Done, (rw c.if-is_array.true refl, refl)),
  c.in-Err.ensures.text,
  c.in-Err.ensures.count,
)

pub returns-in-Ok-write_numbers : goal.returns-in-Ok-write_numbers
returns-in-Ok-write_numbers g c = (
  description c.args.numbers,
  (rw c.if-is_array.false refl, refl),
  c.in-Ok-write_numbers.ensures.text,
  c.in-Ok-write_numbers.ensures.count,
)

pub returns-in-Err-write_numbers : goal.returns-in-Err-write_numbers
returns-in-Err-write_numbers g c = (
  description c.args.numbers,
  (Done, (rw c.if-is_array.false refl, refl)),
  c.in-Err-write_numbers.ensures.text,
  c.in-Err-write_numbers.ensures.count,
)
