use Rattle.std.proofs.Common.{sym, subst}
use Rattle.rom_fields.specs.Written.{Puts, sink}
use Rattle.serve_lines.specs.Replies.{reply_text}
use Rattle.serve_lines.specs.Commands.{Line}
use Rattle.rom_serve.specs.Obeyed.{answered}
use Rattle.rom_serve.proofs.commands.put_answer.Goals as goal

pub returns-in-Err-clause-text : goal.returns-in-Err-clause-text
unfolding reply_text
returns-in-Err-clause-text g c =
    let P : Line → Type 0 = λ v. Puts (sink (g.W.ByteWrite.output c.args.w.now) c.args.failed.now)
    (sink (g.W.ByteWrite.output c.put_reply.new.w) c.put_reply.new.failed)
    (answered (g.C.OpenCalls.calls c.args.calls.now c.args.session)
    (g.C.OpenCalls.state c.args.calls.now) v).text in
    subst P (sym c.in-Err.ensures.asks) c.put_reply.ensures
