use Rattle.std.proofs.Common.{map, length}
use Rattle.manifest.specs.Printed.{as_read, manifest_text}
use Rattle.image_manifest.specs.Lines.{member_lines}
use Rattle.image_manifest.specs.Sources.{file_contents}
use Rattle.image_manifest.proofs.laws.described_by_shape.Goals as goal

pub returns : goal.returns
returns c = λ m volume rules v h k.
    let ls = member_lines m rules in
    let contents = file_contents m in
    c.shape_is_meant.ensures m.bytes m.tree contents (as_read volume ls) (map length contents)
    (manifest_text volume ls, c.lines_are_read_back.ensures m volume rules v h) k
