use Rattle.rom_fields.proofs.Look.{Looked}
use Rattle.rom_fields.proofs.span.first_meeting.Given as goal

abbrev pub invariant-spans : goal.invariant-spans
invariant-spans l = Looked l.spans l.x-index l.furthest
