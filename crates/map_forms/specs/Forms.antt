-- In what a header for C and C++ and a script for GNU ld differ. The script gives each symbol by
-- `PROVIDE(NAME = VALUE);` as in the manual of GNU ld. (This project's own.)
use Rattle.std.specs.Prelude.{ℕ, List, [], codes}
use Rattle.map_forms.specs.declared.form.Form.{Form}
use Rattle.map_forms.specs.declared.form.Form.TheVariants.{Header, Script}

-- what comes before a name, between the name and its value, and after the value
abbrev pub front : Form → List ℕ
front Header = codes "#define "
front Script = codes "PROVIDE("

abbrev pub between : Form → List ℕ
between Header = codes " "
between Script = codes " = "

abbrev pub behind : Form → List ℕ
behind Header = codes "\n"
behind Script = codes ");\n"

-- what a number below 2^32 ends in, and what one from there on ends in
abbrev pub suffix : Form → List ℕ
suffix Header = codes "u"
suffix Script = []

abbrev pub long_suffix : Form → List ℕ
long_suffix Header = codes "ull"
long_suffix Script = []

-- what comes after all names and values
abbrev pub last_lines : Form → List ℕ
last_lines Header = codes "\n#endif\n"
last_lines Script = []
