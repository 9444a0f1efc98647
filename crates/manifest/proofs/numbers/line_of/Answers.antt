use Rattle.std.proofs.Common.{◌≡◌, List, ℕ, Some, refl, sym, rules}
use Rattle.percent_encoding.specs.Percent.{percent_decode}
use Rattle.manifest.specs.declared.numbers.Numbers.{Numbers}
use Rattle.manifest.specs.Views.{fields_view}
use Rattle.manifest.specs.Grammar.{Fields, numbers_of, line_of}
use Rattle.manifest.proofs.numbers.line_of.Goals as goal

with_texts : (n : ℕ) (f : Fields) (numbers : Numbers) (path text : List ℕ) → numbers_of f ≡ Some numbers
    → path ≡ percent_decode f.path → text ≡ percent_decode f.text
    → Some (record {
      number = n;
      word = f.word;
      path = path;
      mode = numbers.mode;
      uid = numbers.uid;
      gid = numbers.gid;
      align = numbers.align;
      major = numbers.major;
      minor = numbers.minor;
      text = text;
    }) ≡ line_of n f
with_texts n f numbers path text read first last = rw (read, first, last) refl

pub returns : goal.returns
returns c =
    with_texts c.args.number (fields_view c.args.fields.now) c.in-Some.numbers _ c.in_ok-text.text
    (sym c.in-Some.ensures) (search rules) c.in_ok-text.ensures
