use Rattle.rom_fields.proofs.Joins.{err_text}
use Rattle.build_commands.proofs.LineFlushed.{flushed}
use Rattle.build_commands.proofs.line.print_line.Goals as goal

pub returns-clause-text : goal.returns-clause-text
returns-clause-text g c =
    let old = (g.W.ByteWrite.output c.args.w.now).contents in
    let written = (g.W.ByteWrite.output c.write_line.new.w).contents in
    flushed c.flush.result old written
    (g.W.ByteWrite.output c.flush.new.self).contents _ c.in_ok-write_line.ensures.text
    c.flush.ensures.bytes

pub returns-in_err-write_line-clause-text : goal.returns-in_err-write_line-clause-text
returns-in_err-write_line-clause-text g c =
    err_text c.from_residual.result _ _ _ c.from_residual.ensures.0 c.in_err-write_line.ensures.text
