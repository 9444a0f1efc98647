use Rattle.std.proofs.Common.{◌≡◌, ℕ, false, List, [], ◌++◌, length, map}
use Rattle.std.specs.List.{list_any}
use Rattle.rom_tree.specs.Names.{Name, names}
use Rattle.rom_tree.specs.Walks.{IsWalk, to_come}
use Rattle.image_manifest.specs.Composed.{path_by, ways_of}
use Rattle.image_manifest.specs.Open.{AreOpen, AreToCome}
use Rattle.image_manifest.specs.Firsts.{noted}
use Rattle.image_manifest.specs.Members.{all_behind, is_long, place_of, known_of}
use Rattle.image_manifest.proofs.naming.members.Given as goal

-- the names in `done` have members, and the map has the first of each of their nodes; `ways` are open
abbrev pub invariant-loop-node : goal.invariant-loop-node
invariant-loop-node g l = record {
  walk : IsWalk (g.T.Viewed.image l.image) l.walk;
  done : List Name;
  rest : done ++ to_come (g.T.Viewed.image l.image) l.walk ≡ names (g.T.Viewed.image l.image).tree;
  found : map known_of l.found.items ≡ all_behind [] done;
  firsts : (number : ℕ) → noted l.firsts number ≡ place_of number done;
  short : list_any is_long done ≡ false;
  paths : map path_by (ways_of l.found.items) ≡ map (λ n. n.path) done;
  ways : List (List ℕ);
  open_ways : AreOpen (ways_of l.found.items) l.on_way.items ways;
  below : AreToCome ways (to_come (g.T.Viewed.image l.image) l.walk);
}

abbrev pub decreases-loop-node : goal.decreases-loop-node
decreases-loop-node g l = length (to_come (g.T.Viewed.image l.image) l.walk)
