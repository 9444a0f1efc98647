-- `line_of`: the code's line, as a line of the grammar. (This project's own.)
use Rattle.manifest.specs.declared.line.Line.{Line}
use Rattle.manifest.specs.declared.entry.Entry.{Entry}

-- an entry as a line; its number is set later, by its index
abbrev pub line_of : Entry → Line
line_of e = record {
  number = 0;
  word = e.word;
  path = e.path.now;
  mode = e.mode;
  uid = e.uid;
  gid = e.gid;
  align = e.align;
  major = e.major;
  minor = e.minor;
  text = e.text.now;
}
