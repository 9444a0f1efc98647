use Rattle.rom_commands.specs.Serving.{Input, input_of}
use Rattle.rom_commands.proofs.Endings.{under_by}
use Rattle.rom_commands.proofs.serving.serve_under.Goals as goal

pub returns : goal.returns
returns g c =
    let r₀ : Input = input_of (g.R.ByteRead.remaining c.args.r.now) (g.R.ByteRead.failures c.args.r.now) in
    let r : Input =
    input_of (g.R.ByteRead.remaining c.serve_checked.new.r) (g.R.ByteRead.failures c.serve_checked.new.r) in
    under_by c.args.limits c.args.bytes.now c.check-checked.result r₀ r (g.W.ByteWrite.output c.args.w.now)
    (g.W.ByteWrite.output c.serve_checked.new.w) c.serve_checked.result
    c.check-checked.ensures.ok c.check-checked.ensures.clean c.check-checked.ensures.fault c.check-checked.ensures.least
    c.serve_checked.ensures
