use Rattle.std.proofs.Common.{◌≡◌, reverse, ap, ◌∙◌, arith}
use Rattle.manifest.specs.Reading.{reached, to_directory}
use Rattle.manifest.proofs.Reached.{directory_is}
use Rattle.manifest.proofs.reader.Reader.has_parent.Goals as goal

pub returns-else-is_empty : goal.returns-else-is_empty
returns-else-is_empty c =
    let leads : c.is_directory.result ≡ to_directory
    (reached (reverse c.args.self.now.lines.items) c.parent-parent.result.now) =
    c.is_directory.ensures ∙ ap to_directory c.reached.ensures in
    grind (arith, directory_is)
