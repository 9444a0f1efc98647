use Rattle.std.proofs.Common.{ap, refl, ◌∙◌}
use Rattle.image_check.specs.Any.{any_view}
use Rattle.rom_commands.specs.Serving.{Input, input_of, serving_of}
use Rattle.rom_commands.proofs.Endings.{served_by}
use Rattle.rom_commands.proofs.serving.answer_lines.Goals as goal

pub returns-in-Ok : goal.returns-in-Ok
returns-in-Ok g c =
    let r₀ : Input = input_of (g.R.ByteRead.remaining c.args.r.now) (g.R.ByteRead.failures c.args.r.now) in
    let r : Input = input_of (g.R.ByteRead.remaining c.serve.new.r) (g.R.ByteRead.failures c.serve.new.r) in
    served_by (any_view c.args.image) (any_view c.in-Ok.cached.image.image) r₀ r (g.W.ByteWrite.output c.args.w.now)
    (g.W.ByteWrite.output c.serve.new.w) c.serve.result (serving_of c.serve.result)
    (ap (λ x. any_view x.image) c.in-Ok.ensures.image
    ∙ ap any_view c.new.ensures) refl c.serve.ensures.ok c.serve.ensures.quiet c.serve.ensures.read_fault
    c.serve.ensures.write_fault c.serve.ensures.too_many

pub returns-in-Err : goal.returns-in-Err
returns-in-Err g c =
    let r₀ : Input = input_of (g.R.ByteRead.remaining c.args.r.now) (g.R.ByteRead.failures c.args.r.now) in
    let r : Input =
    input_of (g.R.ByteRead.remaining c.serve-in-Err.new.r) (g.R.ByteRead.failures c.serve-in-Err.new.r) in
    served_by (any_view c.args.image) (any_view c.in-Err.field-0.image.image) r₀ r (g.W.ByteWrite.output c.args.w.now)
    (g.W.ByteWrite.output c.serve-in-Err.new.w) c.serve-in-Err.result (serving_of c.serve-in-Err.result)
    (ap (λ x. any_view x.image) c.in-Err.ensures.back
    ∙ ap any_view c.new.ensures) refl c.serve-in-Err.ensures.ok c.serve-in-Err.ensures.quiet
    c.serve-in-Err.ensures.read_fault c.serve-in-Err.ensures.write_fault c.serve-in-Err.ensures.too_many
