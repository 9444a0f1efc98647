use Rattle.std.proofs.Common.{◌≡◌, take}
use Rattle.plan_rows.specs.Keyed.{zeroed}
use Rattle.plan_rows.proofs.keyed.key_of.Given as goal

abbrev pub invariant-loop-byte : goal.invariant-loop-byte
invariant-loop-byte l = l.key.items ≡ zeroed (take l.byte-index l.path)
