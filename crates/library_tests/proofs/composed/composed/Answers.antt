use Rattle.std.proofs.Common.{[], sym}
use Rattle.library_tests.proofs.composed.composed.Goals as goal

pub returns : goal.returns
returns c =
    let made = c.in_ok-files.ensures.composed in (made.0, made.1 [] (sym c.new.ensures.items), (_, made.2))
