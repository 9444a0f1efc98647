use Rattle.std.proofs.Common.{◌≡◌, ◌-◌, ◌≤◌, replicate}
use Rattle.std.specs.Io.KnownBytes.{Appends}
use Rattle.image_build.proofs.padding.write_repeated.Given as goal

abbrev pub invariant-loop-left : goal.invariant-loop-left
invariant-loop-left g l = record {
  within : l.left ≤ l.fn.padding.len;
  wrote : (g.W.ByteWrite.output l.w).failures ≡ (g.W.ByteWrite.output l.initial.w).failures;
  gone : Appends (g.W.ByteWrite.output l.initial.w).contents (g.W.ByteWrite.output l.w).contents
      (replicate (l.fn.padding.len - l.left) l.fn.padding.byte);
}

abbrev pub decreases-loop-left : goal.decreases-loop-left
decreases-loop-left g l = l.left
