use Rattle.std.proofs.Common.{◌≡◌, ℕ, List, ◌++◌, length, map}
use Rattle.path_walk.specs.Graft.{AreShallow}
use Rattle.image_check.specs.Any.{any_view}
use Rattle.lookups.specs.Inner.{inner}
use Rattle.rom_commands.specs.Serving.{HoldAll}
use Rattle.rom_commands.proofs.several.check_all.Given as goal

-- the files behind the images that were found, and those that are left
abbrev pub invariant-loop-rest : goal.invariant-loop-rest
invariant-loop-rest l = record {
  done : List (List ℕ);
  split : map (λ f. f.items) l.initial.rest ≡ done ++ map (λ f. f.items) l.rest;
  held : HoldAll done (map (λ x. any_view (inner x)) l.images.items);
  shallow : AreShallow (map (λ x. any_view (inner x)) l.images.items);
}

abbrev pub decreases-loop-rest : goal.decreases-loop-rest
decreases-loop-rest l = length l.rest
