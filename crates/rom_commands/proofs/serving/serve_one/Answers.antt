use Rattle.std.proofs.Common.{◌≡◌, ℕ, inl}
use Rattle.rom_fields.specs.Written.{Output}
use Rattle.image_check.specs.declared.any.AnyImage.{AnyImage}
use Rattle.image_check.specs.Any.{any_view}
use Rattle.rom_commands.specs.Answers.{usual_limits}
use Rattle.rom_commands.specs.Endings.{line_of}
use Rattle.rom_commands.specs.declared.ending.Ending.TheVariants as ending
use Rattle.rom_commands.specs.Serving.{Input, input_of, IsFaultOf, Reports, ServingEnds}
use Rattle.rom_commands.specs.declared.serving.Serving.TheVariants.{Refused}
use Rattle.rom_commands.proofs.Endings.{answered_by, image_fault}
use Rattle.rom_commands.proofs.Texts.{usual, held, fault_of}
use Rattle.rom_commands.proofs.serving.serve_one.Goals as goal

pub returns-in-Ok : goal.returns-in-Ok
returns-in-Ok g c =
    let v : AnyImage = c.in-Ok.image in
    let e : c.usual.result ≡ usual_limits = usual c.usual.result c.usual.ensures.references c.usual.ensures.depth in
    let r₀ : Input = input_of (g.R.ByteRead.remaining c.args.r.now) (g.R.ByteRead.failures c.args.r.now) in
    let r : Input =
    input_of (g.R.ByteRead.remaining c.answer_lines.new.r) (g.R.ByteRead.failures c.answer_lines.new.r) in
    let w₀ : Output = g.W.ByteWrite.output c.args.w.now in
    let w : Output = g.W.ByteWrite.output c.answer_lines.new.w in
    answered_by (λ s. ServingEnds c.args.bytes.now r₀ r w₀ w s)
    (λ f i. IsFaultOf c.args.bytes.now f i × Reports (line_of (ending.Fault f i)) r₀ r w₀ w Refused)
    c.answer_lines.result c.answered.result c.answered.ensures
    (inl (
      any_view v,
      held c.args.bytes.now c.usual.result v e c.in-Ok.ensures.ok c.in-Ok.ensures.clean,
      c.answer_lines.ensures,
    ))

pub returns-in-Err-Fault : goal.returns-in-Err-Fault
returns-in-Err-Fault g c =
    let n : ℕ = c.in-Err-Fault.number in
    let at : ℕ = c.in-Err-Fault.at in
    let e : c.usual.result ≡ usual_limits = usual c.usual.result c.usual.ensures.references c.usual.ensures.depth in
    let r₀ : Input = input_of (g.R.ByteRead.remaining c.args.r.now) (g.R.ByteRead.failures c.args.r.now) in
    image_fault c.args.bytes.now (record { number = n; at = at }) r₀ (g.W.ByteWrite.output c.args.w.now)
    (g.W.ByteWrite.output c.write_fault.new.w) c.write_fault.result
    (fault_of c.args.bytes.now c.usual.result n at e
    (rw c.in-Err-Fault.field-0-is at c.in-Err-Fault.ensures.fault)
    (rw c.in-Err-Fault.field-0-is at c.in-Err-Fault.ensures.least))
    (rw c.in-Err-Fault.field-0-is at c.write_fault.ensures)
