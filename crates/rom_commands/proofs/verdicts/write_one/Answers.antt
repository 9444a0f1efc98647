use Rattle.std.proofs.Common.{◌≡◌, refl, subst, sym}
use Rattle.std.specs.Prelude.{◌⊎◌}
use Rattle.image_compare.specs.Differences.{verdict_text}
use Rattle.rom_commands.specs.declared.ending.Ending.{Ending}
use Rattle.rom_commands.specs.declared.ending.Ending.TheVariants.{Done, Warned}
use Rattle.rom_commands.specs.Texts.{IsVerdict, NeverStops, verdict_ending}
use Rattle.rom_commands.proofs.Closed.{by_verdict, whole_written}
use Rattle.rom_commands.proofs.verdicts.write_one.Goals as goal

pub returns-in-Ok : goal.returns-in-Ok
returns-in-Ok g c =
    let P : Ending → Type 0 = λ o. (o ≡ Done) ⊎ (o ≡ Warned) in
    whole_written (IsVerdict c.args.size c.args.found) NeverStops (g.W.ByteWrite.output c.args.w.now)
    (g.W.ByteWrite.output c.write_verdict.new.w) c.verdict_ending.result
    (subst P (sym c.verdict_ending.ensures) (by_verdict c.args.found)) (
      verdict_text c.args.size c.args.found,
      (refl, c.verdict_ending.ensures),
      c.in-Ok.ensures.text,
      c.in-Ok.ensures.count,
    )

pub returns-in-Err : goal.returns-in-Err
returns-in-Err g c = (
  verdict_text c.args.size c.args.found,
  (verdict_ending c.args.found, (refl, refl)),
  c.in-Err.ensures.text,
  c.in-Err.ensures.count,
)
