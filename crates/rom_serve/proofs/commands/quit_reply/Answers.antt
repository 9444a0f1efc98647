use Rattle.std.proofs.Common.{ap}
use Rattle.open_files.specs.Calls.{Answer}
use Rattle.serve_lines.specs.Replies.{reply_text}
use Rattle.rom_serve.specs.Obeyed.{said, of_done}
use Rattle.rom_serve.proofs.commands.quit_reply.Goals as goal

pub returns-clause-reply : goal.returns-clause-reply
unfolding reply_text
returns-clause-reply g c = ap (λ (a : Answer g.C.OpenCalls.State (Unit {0})). said of_done a) c.close_all.ensures.reply
