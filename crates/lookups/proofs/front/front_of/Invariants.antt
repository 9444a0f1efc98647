use Rattle.lookups.proofs.Passed.{Passed}
use Rattle.lookups.proofs.front.front_of.Given as goal

-- the entries before the cursor do not have the name
abbrev pub invariant-entries : goal.invariant-entries
invariant-entries g l = Passed (g.T.Viewed.image l.image) l.d.0 l.cursor.0 l.name l.i
