use Rattle.std.proofs.Common.{ℕ, ◌+◌, subst}
use Rattle.rom_fields.specs.Texts.{escaped}
use Rattle.rom_fields.specs.Written.{Puts, sink}
use Rattle.rom_fields.proofs.Joins.{chain}
use Rattle.rom_tree.specs.Walks.{given_path}
use Rattle.program_report.specs.Lines.{found_lines, shared_line, verdict_line}
use Rattle.program_report.proofs.lines.put_found.Goals as goal

pub returns : goal.returns
unfolding found_lines
returns g c =
    let path = escaped (given_path c.args.walk.now) in
    let P : ℕ → Type 0 = λ v. Puts (sink (g.W.ByteWrite.output c.args.w.now) c.args.failed.now)
    (sink (g.W.ByteWrite.output c.put_verdict.new.w) c.put_verdict.new.failed)
    (verdict_line path (c.args.question.now.base + v) c.args.found.now.verdict) in
    let Q : ℕ → Type 0 = λ v. Puts (sink (g.W.ByteWrite.output c.put_verdict.new.w) c.put_verdict.new.failed)
    (sink (g.W.ByteWrite.output c.put_shared.new.w) c.put_shared.new.failed)
    (shared_line path (c.args.question.now.base + v) c.args.found.now) in
    chain (subst P c.from.ensures c.put_verdict.ensures)
    (chain (subst Q c.from.ensures c.put_shared.ensures) c.put_advice.ensures)
