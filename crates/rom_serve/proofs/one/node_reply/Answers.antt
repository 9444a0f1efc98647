use Rattle.std.proofs.Common.{refl}
use Rattle.serve_lines.specs.Replies.{reply_text}
use Rattle.rom_serve.proofs.one.node_reply.Goals as goal

pub returns-in-Ok : goal.returns-in-Ok
unfolding reply_text
returns-in-Ok c = rw c.in-Ok.is refl
