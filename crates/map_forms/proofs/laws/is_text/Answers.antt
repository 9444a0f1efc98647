use Rattle.std.proofs.lemmas.List.Elements.{All-from_recursion}
use Rattle.map_forms.specs.Xml.{xml_text, IsPlainByte}
use Rattle.map_forms.proofs.Plain.{text_plain}
use Rattle.map_forms.proofs.laws.is_text.Goals as goal

pub returns : goal.returns
returns c = λ text. All-from_recursion IsPlainByte (xml_text text) (text_plain text)
