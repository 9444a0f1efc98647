use Rattle.std.proofs.Common.{◌∙◌, ap}
use Rattle.rom_tree.specs.Image.{Image}
use Rattle.program_report.specs.Needs.{in_parts, usual_directories}
use Rattle.program_report.proofs.missing.in_directories.Goals as goal

pub returns-clause-is : goal.returns-clause-is
unfolding usual_directories
returns-clause-is g c =
    rw (← c.on_run_path.ensures.is, c.if-on_run_path.false)
    (c.in_parts.ensures.is
    ∙ ap (λ (m : Image). in_parts m c.args.name.now usual_directories) c.on_run_path.ensures.stays)
