use Rattle.std.proofs.Common.{◌≡◌, ◌++◌, List, ℕ, false, length}
use Rattle.std.specs.List.{flat_map}
use Rattle.rom_fields.specs.Written.{Puts, sink}
use Rattle.rom_tree.specs.Names.{Name, names}
use Rattle.rom_tree.specs.Walks.{IsWalk, to_come}
use Rattle.image_check.specs.Any.{any_view}
use Rattle.image_compare.specs.Digests.{digest_line, digest_text}
use Rattle.image_compare.specs.Known.{AreDigests}
use Rattle.image_compare.proofs.digests.write_digests.Given as goal

-- the lines of the names before were put, and those of the names that are to come complete them
abbrev pub invariant-loop-failed : goal.invariant-loop-failed
invariant-loop-failed g l = record {
  known : AreDigests (any_view l.image) l.known;
  walk : IsWalk (any_view l.image) l.walk;
  before : List Name;
  names : before ++ to_come (any_view l.image) l.walk ≡ names (any_view l.image).tree;
  done : List ℕ;
  puts : Puts (sink (g.W.ByteWrite.output l.fn.w) false) (sink (g.W.ByteWrite.output l.w) l.failed) done;
  rest : done ++ flat_map (digest_line (any_view l.image).bytes) (to_come (any_view l.image) l.walk)
      ≡ digest_text (any_view l.image).bytes (any_view l.image).tree;
}

abbrev pub decreases-loop-failed : goal.decreases-loop-failed
decreases-loop-failed g l = length (to_come (any_view l.image) l.walk)
