use Rattle.std.proofs.Common.{◌∙◌}
use Rattle.serve_lines.specs.Commands.{asks, read, at_most}
use Rattle.serve_lines.proofs.Cutting.{over, within}
use Rattle.serve_lines.proofs.command.read_call.Goals as goal

pub returns-in-Err-clause-asks : goal.returns-in-Err-clause-asks
returns-in-Err-clause-asks c = c.in-Err.ensures (λ fd len. at_most 4096 len (asks (read fd len)))

pub returns-then-len-gt-MOST_READ-clause-asks : goal.returns-then-len-gt-MOST_READ-clause-asks
returns-then-len-gt-MOST_READ-clause-asks c =
    c.in-Ok.ensures (λ fd len. at_most 4096 len (asks (read fd len)))
    ∙ over c.in-Ok.fd c.in-Ok.len (asks (read c.in-Ok.fd c.in-Ok.len)) c.if-len-gt-MOST_READ.true

pub returns-else-len-gt-MOST_READ-clause-asks : goal.returns-else-len-gt-MOST_READ-clause-asks
returns-else-len-gt-MOST_READ-clause-asks c =
    c.in-Ok.ensures (λ fd len. at_most 4096 len (asks (read fd len)))
    ∙ within c.in-Ok.fd c.in-Ok.len (asks (read c.in-Ok.fd c.in-Ok.len)) c.if-len-gt-MOST_READ.false
