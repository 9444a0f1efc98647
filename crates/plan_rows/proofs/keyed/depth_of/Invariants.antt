use Rattle.std.proofs.Common.{◌≡◌, ◌≤◌, take}
use Rattle.plan_rows.specs.Keyed.{count}
use Rattle.plan_rows.proofs.keyed.depth_of.Given as goal

abbrev pub invariant-loop-byte : goal.invariant-loop-byte
invariant-loop-byte l = record {
  so_far : l.depth ≡ count 47 (take l.byte-index l.path);
  few : l.depth ≤ l.byte-index;
}
