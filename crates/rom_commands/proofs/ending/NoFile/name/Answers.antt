use Rattle.std.proofs.Common.{◌≡◌, sym, ap}
use Rattle.path_walk.specs.declared.error.WalkError.{WalkError}
use Rattle.path_walk.specs.declared.error.WalkError.TheVariants.{Enoent}
use Rattle.rom_commands.specs.Endings.{no_file_name}
use Rattle.rom_commands.specs.declared.ending.NoFile.TheVariants.{Nowhere}
use Rattle.rom_commands.proofs.ending.NoFile.name.Goals as goal

pub returns-in-Nowhere-Enoent : goal.returns-in-Nowhere-Enoent
returns-in-Nowhere-Enoent c =
    let w = c.in-Nowhere-Enoent in
    let e : w.field-0 ≡ Enoent = rw w.is at w.field-0-is in
    rw w.is (sym (ap (λ (e : WalkError). no_file_name (Nowhere e)) e))
