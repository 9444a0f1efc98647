use Rattle.image_manifest.specs.Lines.{member_lines}
use Rattle.image_manifest.proofs.laws.lines_are_read_back.Goals as goal

pub returns : goal.returns
returns c = λ m volume rules h k. c.reads_back.ensures volume (member_lines m rules) h k
