use Rattle.std.proofs.Common.{◌≡◌, ℕ, ◌+◌, ◌*◌, ◌≤◌, length}
use Rattle.path_walk.specs.Resolution.{Trail, resolve, resolution}
use Rattle.path_walk.specs.Compared.{compared_by, names_compared, AreTakenFrom}
use Rattle.path_walk.specs.Graft.{MountedNode, graft}
use Rattle.path_walk.specs.Trails.{IsTrail, NoneEmpty, unread_components, unread_bytes}
use Rattle.path_walk.proofs.paths.find_place.Given as goal

abbrev pub invariant-loop-component : goal.invariant-loop-component
invariant-loop-component g l = record {
  held : g.G.Gathered.held l.images ≡ g.G.Gathered.held l.fn.images;
  trail : Trail MountedNode;
  is : IsTrail (g.G.Gathered.held l.fn.images).images l.mounts l.current l.ancestors.items trail;
  links : l.links ≤ 40;
  full : length l.unread.items + l.links ≤ 41;
  none_empty : NoneEmpty l.unread.items;
  rest : resolve (graft (g.G.Gathered.held l.fn.images).images l.mounts) l.fn.follow_last l.links trail
      (unread_components l.unread.items)
      ≡ resolution (graft (g.G.Gathered.held l.fn.images).images l.mounts) l.fn.path l.fn.follow_last;
  spent : ℕ;
  to_come : spent
      + compared_by (graft (g.G.Gathered.held l.fn.images).images l.mounts) l.fn.follow_last l.links trail
      (unread_components l.unread.items)
      ≡ names_compared (graft (g.G.Gathered.held l.fn.images).images l.mounts) l.fn.path l.fn.follow_last;
  taken : AreTakenFrom l.fn.purse l.purse spent;
}

abbrev pub decreases-loop-component : goal.decreases-loop-component
decreases-loop-component g l = l.links * 4096 + unread_bytes l.unread.items
