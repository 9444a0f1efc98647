use Rattle.std.proofs.Common.{◌≡◌, ◌<◌, ◌∙◌, rules, sym, length}
use Rattle.serve_lines.proofs.Runs.{take_full, take_room}
use Rattle.serve_lines.proofs.serve.keep.Goals as goal

pub returns-then-is_full : goal.returns-then-is_full
returns-then-is_full c =
    let full : length c.args.line.now.items ≡ 8192 = search rules in
    sym (take_full 8192 c.args.line.now.items c.args.b full)

pub returns : goal.returns
returns c =
    let room : length c.args.line.now.items < 8192 = search rules in
    c.push.ensures.items ∙ sym (take_room 8192 c.args.line.now.items c.args.b room)
