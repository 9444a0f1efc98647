use Rattle.std.proofs.Common.{rules}
use Rattle.build_commands.proofs.Directories.{one_more, none_more}
use Rattle.build_commands.proofs.fits.directories.Goals as goal
use Rattle.build_commands.proofs.fits.directories.Goals.{then-is_directory+in_ok-insert, else-is_directory}

pub loop-file-preserved : goal.loop-file-preserved
loop-file-preserved c = λ path.
    elim c.if-is_directory.branch [
      | then-is_directory+in_ok-insert w ↦
          rw w.set-is
          (one_more c.loop-file.set w.insert.new.self w.path.result c.args.listed.now c.loop-file.file-index
          c.file-item.result c.loop-file-test.true (search rules) (search rules) w.path.ensures
          w.in_ok-insert.ensures.updates c.loop-file.invariant path)
      | else-is_directory w ↦
          none_more c.if-is_directory.set c.args.listed.now c.loop-file.file-index c.file-item.result
          c.loop-file-test.true (search rules) (search rules) (search rules) path
    ]
