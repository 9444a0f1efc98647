use Rattle.std.proofs.Common.{sym, ap, subst, List, ℕ}
use Rattle.serve_lines.specs.Replies.{reply_text}
use Rattle.serve_lines.specs.Texts.{bytes_text}
use Rattle.rom_fields.specs.Written.{Puts, sink}
use Rattle.open_files.specs.Calls.{Answer}
use Rattle.rom_serve.specs.Obeyed.{result_text}
use Rattle.rom_serve.proofs.commands.put_read.Goals as goal

pub returns-in-Ok-clause-text : goal.returns-in-Ok-clause-text
unfolding reply_text
returns-in-Ok-clause-text g c =
    let P : List ℕ → Type 0 = λ v. Puts (sink (g.W.ByteWrite.output c.args.w.now) c.args.failed.now)
    (sink (g.W.ByteWrite.output c.put_reply.new.w) c.put_reply.new.failed) v in
    let Q : List ℕ → Type 0 = λ v. P (bytes_text v) in
    subst P (sym (ap (λ (a : Answer g.C.OpenCalls.State
    (List ℕ)). result_text bytes_text a.reply) c.in-Ok.ensures.reply))
    (subst Q c.front.ensures c.put_reply.ensures)

pub returns-in-Err-clause-text : goal.returns-in-Err-clause-text
unfolding reply_text
returns-in-Err-clause-text g c =
    let P : List ℕ → Type 0 = λ v. Puts (sink (g.W.ByteWrite.output c.args.w.now) c.args.failed.now)
    (sink (g.W.ByteWrite.output c.put_reply-in-Err.new.w) c.put_reply-in-Err.new.failed) v in
    subst P (sym (ap (λ (a : Answer g.C.OpenCalls.State
    (List ℕ)). result_text bytes_text a.reply) c.in-Err.ensures.reply)) c.put_reply-in-Err.ensures
