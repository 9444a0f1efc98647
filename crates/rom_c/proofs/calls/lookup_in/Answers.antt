use Rattle.std.proofs.Common.{refl, ap, ◌∙◌}
use Rattle.image_check.specs.Any.{any_view}
use Rattle.rom_tree.proofs.Named.{node_number}
use Rattle.rom_c.specs.Reported.{no_node}
use Rattle.rom_c.proofs.calls.lookup_in.Goals as goal

pub returns-in-Ok : goal.returns-in-Ok
returns-in-Ok c =
    let w = c.in-Ok.ensures.leads in
    rw w.1 (rw (node_number (any_view c.args.image.now) c.in-Ok.node.0 w.0 w.2) refl)

pub returns-in-Err : goal.returns-in-Err
returns-in-Err c = rw c.in-Err.ensures.leads (c.no_node.ensures ∙ ap no_node c.number.ensures)
