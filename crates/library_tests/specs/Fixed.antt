-- `call_of`: the call that a reading was answered to. (This project's own.)
use Rattle.build_commands.specs.Composed.{Reading, aligned, digested, joined, sized, told}
use Rattle.library_tests.specs.declared.composed.Call.{Call}
use Rattle.library_tests.specs.declared.composed.Call.TheVariants as call

abbrev pub call_of : Reading → Call
call_of (aligned fs xs) = call.Alignments
call_of (told which t) = call.Text which
call_of (sized fs s) = call.Sizes
call_of (digested fs sizes compared ds) = call.Digests
call_of (joined fs further) = call.Joined
