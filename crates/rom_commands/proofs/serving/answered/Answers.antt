use Rattle.std.proofs.Common.{◌≡◌, Err, sym, ap}
use Rattle.serve_lines.specs.declared.error.ServeError.{ServeError}
use Rattle.serve_lines.specs.declared.error.ServeError.TheVariants.{TooManyReads}
use Rattle.rom_commands.specs.Serving.{ending_of}
use Rattle.rom_commands.proofs.serving.answered.Goals as goal

pub returns-in-Err-TooManyReads : goal.returns-in-Err-TooManyReads
returns-in-Err-TooManyReads c =
    let w = c.in-Err-TooManyReads in
    let e : w.field-0 ≡ TooManyReads = rw w.is at w.field-0-is in
    rw w.is (sym (ap (λ (e : ServeError). ending_of (Err e)) e))
