use Rattle.std.proofs.Common.{subst}
use Rattle.rom_tree.specs.declared.types.Limits.{Limits}
use Rattle.rom_commands.specs.Serving.{Input, input_of, ServingEndsUnder}
use Rattle.rom_commands.proofs.Texts.{usual}
use Rattle.rom_commands.proofs.serving.serve_image.Goals as goal

pub returns : goal.returns
returns g c =
    let r₀ : Input = input_of (g.R.ByteRead.remaining c.args.r.now) (g.R.ByteRead.failures c.args.r.now) in
    let r : Input = input_of (g.R.ByteRead.remaining c.serve_under.new.r) (g.R.ByteRead.failures c.serve_under.new.r) in
    let P : Limits → Type 0 = λ l. ServingEndsUnder l c.args.bytes.now r₀ r (g.W.ByteWrite.output c.args.w.now)
    (g.W.ByteWrite.output c.serve_under.new.w) c.serve_under.result in
    subst P (usual c.usual.result c.usual.ensures.references c.usual.ensures.depth) c.serve_under.ensures
