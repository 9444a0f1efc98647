-- `line_described`: the line of a member as the members describe it. (This project's own.)
use Rattle.std.specs.Prelude.{ℕ, List, Option, Some, None}
use Rattle.manifest.specs.declared.line.Line.{Line}
use Rattle.rom_tree.specs.Image.{Image}
use Rattle.rom_tree.specs.Tree.{Node}
use Rattle.image_manifest.specs.Composed.{path_at}
use Rattle.image_manifest.specs.Lines.{hard_line, node_line}
use Rattle.image_manifest.specs.declared.naming.Member.{Member}
use Rattle.image_manifest.specs.declared.rules.FileRules.{FileRules}

abbrev pub line_from : Image → FileRules → List Member → List ℕ → Node → Option ℕ → Line
line_from m rules ms path x None = node_line m rules path x
line_from m rules ms path x (Some i) = hard_line path (path_at ms i)

-- the line of the member at an index that leads to the node x; `first` is the index of the first
-- name of that node
abbrev pub line_described : Image → FileRules → List Member → ℕ → Node → Option ℕ → Line
line_described m rules ms i x first = line_from m rules ms (path_at ms i) x first
