use Rattle.std.proofs.Common.{◌≡◌, string_bytes}
use Rattle.directory_walk.specs.Views.{names_of, paths_of}
use Rattle.directory_walk.proofs.Walks.{Walking, AreEntered}
use Rattle.directory_walk.proofs.walking.visit.Given as goal

abbrev pub invariant-loop : goal.invariant-loop
invariant-loop g l = record {
  walking : Walking (g.L.Lister.tree l.fn.lister) (names_of l.entries.items) (paths_of l.waiting.items);
  entered : AreEntered (string_bytes l.fn.top.path) (names_of l.entries.items) (paths_of l.directories.items)
      (paths_of l.waiting.items);
  same : g.L.Lister.tree l.lister ≡ g.L.Lister.tree l.fn.lister;
}
