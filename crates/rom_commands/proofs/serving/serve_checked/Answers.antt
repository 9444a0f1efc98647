use Rattle.std.proofs.Common.{◌≡◌, Err, subst, sym}
use Rattle.image_check.specs.Any.{any_view}
use Rattle.open_files.specs.Machine.{no_files}
use Rattle.rom_serve.specs.Machines.{image_machine}
use Rattle.rom_fields.specs.declared.check_error.CheckError.{CheckError}
use Rattle.rom_fields.specs.declared.check_error.CheckError.TheVariants as check
use Rattle.rom_commands.specs.Lines.{fault_line}
use Rattle.rom_commands.specs.Serving.{Input, input_of, CheckedEnds, EndsServed, Reports}
use Rattle.rom_commands.proofs.Endings.{reports_by}
use Rattle.rom_commands.proofs.serving.serve_checked.Goals as goal

pub returns-in-Ok : goal.returns-in-Ok
returns-in-Ok g c =
    let r₀ : Input = input_of (g.R.ByteRead.remaining c.args.r.now) (g.R.ByteRead.failures c.args.r.now) in
    let r : Input =
    input_of (g.R.ByteRead.remaining c.answer_lines.new.r) (g.R.ByteRead.failures c.answer_lines.new.r) in
    let w₀ = g.W.ByteWrite.output c.args.w.now in
    let w = g.W.ByteWrite.output c.answer_lines.new.w in
    rw c.in-Ok.is
    (subst (λ o. EndsServed (image_machine (any_view c.in-Ok.image)) (no_files 64) r₀ r w₀ w o) (sym c.ended.ensures)
    c.answer_lines.ensures)

pub returns-in-Err-Fault : goal.returns-in-Err-Fault
returns-in-Err-Fault g c =
    let v = c.in-Err-Fault in
    let text = fault_line v.number v.at in
    let r₀ : Input = input_of (g.R.ByteRead.remaining c.args.r.now) (g.R.ByteRead.failures c.args.r.now) in
    let w₀ = g.W.ByteWrite.output c.args.w.now in
    let w = g.W.ByteWrite.output c.write_and_flush.new.w in
    let reported : Reports text r₀ r₀ w₀ w c.refused.result =
    subst (λ o. Reports text r₀ r₀ w₀ w o) (sym c.refused.ensures)
    (reports_by r₀ w₀ w text c.write_and_flush.result c.write_and_flush.ensures.text c.write_and_flush.ensures.count
    c.write_and_flush.ensures.flushed) in
    let e : v.field-0 ≡ check.Fault v.number v.at = rw v.is at v.field-0-is in
    rw v.is (subst (λ (f : CheckError). CheckedEnds (Err f) r₀ r₀ w₀ w c.refused.result) (sym e) reported)
