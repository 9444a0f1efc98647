use Rattle.std.proofs.Common.{◌≡◌, ◌+◌}
use Rattle.manifest.proofs.AllTold.{all_told}
use Rattle.manifest.proofs.faults.bad_lines.Goals as goal

pub returns : goal.returns
returns c =
    all_told c.loop-rest.bad.items c.loop-rest.reader (c.loop-rest.number + 1) c.loop-rest.rest c.args.text.now
    c.in_default.not-Some c.loop-rest.invariant.reads
