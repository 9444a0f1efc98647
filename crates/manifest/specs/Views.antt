-- `fields_view`: the code's fields of a line, as those of the grammar. (This project's own.)
use Rattle.std.specs.Prelude.{ℕ, List, map}
use Rattle.std.specs.Borrow.{Bor}
use Rattle.manifest.specs.declared.fields.Fields as code
use Rattle.manifest.specs.Grammar.{Fields}

abbrev pub texts : List (Bor (List ℕ)) → List (List ℕ)
texts ts = map (λ t. t.now) ts

abbrev pub fields_view : code.Fields → Fields
fields_view f = record {
  word = f.word;
  path = f.path.now;
  mode = f.mode.now;
  uid = f.uid.now;
  gid = f.gid.now;
  align = f.align.now;
  major = f.major.now;
  minor = f.minor.now;
  text = f.text.now;
}
