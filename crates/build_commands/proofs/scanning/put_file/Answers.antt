use Rattle.std.proofs.Common.{ap}
use Rattle.manifest.specs.declared.line.Line.{Line}
use Rattle.manifest.specs.declared.line.Word.TheVariants.{File}
use Rattle.build_commands.proofs.Scans.{put_file_is}
use Rattle.build_commands.proofs.scanning.put_file.Goals as goal

pub returns : goal.returns
returns g c =
    put_file_is c.args.path.now c.args.source.now _
    (ap (λ (l : Line). record l {
      word = File;
      align = 4;
      text = c.args.source.now;
    }) c.plain_entry.ensures) c.put_line.ensures
