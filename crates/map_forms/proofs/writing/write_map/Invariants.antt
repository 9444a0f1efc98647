use Rattle.std.proofs.Common.{◌≡◌, ◌++◌, List, ℕ, false, length}
use Rattle.std.specs.List.{flat_map}
use Rattle.rom_fields.specs.Written.{Puts, sink}
use Rattle.rom_tree.specs.Names.{Name, names}
use Rattle.rom_tree.specs.Walks.{IsWalk, to_come}
use Rattle.map_forms.specs.Header.{name_macros}
use Rattle.map_forms.proofs.Headers.{most_text}
use Rattle.map_forms.proofs.writing.write_map.Given as goal

-- the head and the lines of the names before were put, and those of the names that are to come complete them
abbrev pub invariant-loop-failed : goal.invariant-loop-failed
invariant-loop-failed g l = record {
  walk : IsWalk (g.T.Viewed.image l.image) l.walk;
  before : List Name;
  names : before ++ to_come (g.T.Viewed.image l.image) l.walk ≡ names (g.T.Viewed.image l.image).tree;
  done : List ℕ;
  puts : Puts (sink (g.W.ByteWrite.output l.fn.w) false) (sink (g.W.ByteWrite.output l.w) l.failed) done;
  rest : done ++ flat_map (λ n. name_macros l.form (g.C.Choice.chosen l.choice) l.prefix l.base n)
      (to_come (g.T.Viewed.image l.image) l.walk)
      ≡ most_text l.form (g.C.Choice.chosen l.choice) l.prefix l.base (length (g.T.Viewed.image l.image).bytes)
      (g.T.Viewed.image l.image).tree;
}

abbrev pub decreases-loop-failed : goal.decreases-loop-failed
decreases-loop-failed g l = length (to_come (g.T.Viewed.image l.image) l.walk)
