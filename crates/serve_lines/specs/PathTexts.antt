-- `text_of`: the bytes of a path as they are in a line. (This project's own.)
use Rattle.std.specs.Prelude.{ℕ, List}
use Rattle.serve_lines.specs.declared.path_text.PathText.{PathText}

abbrev pub text_of : PathText → List ℕ
text_of p = p.text.now
