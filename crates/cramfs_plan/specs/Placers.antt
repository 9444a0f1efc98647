-- `StandsAt`: the code's state of the pass forwards is that of the definitions. `IsNear`: its
-- numbers are bounded. (This project's own.)
use Rattle.std.specs.Prelude.{◌≡◌, ℕ, ◌≤◌}
use Rattle.std.specs.List.{AllByRecursion as Every}
use Rattle.cramfs_plan.specs.declared.walk.Placer.{Placer}
use Rattle.cramfs_plan.specs.Entries.{Knows, AreNear}
use Rattle.cramfs_plan.specs.Passes.{Walk}

-- the code's state is that of the pass
pub record StandsAt (w : Walk) (p : Placer) : Type 0 where
  pub at : p.at ≡ w.state.at
  pub lists : p.lists ≡ w.lists
  pub tables : Knows w.state.tables p.tables

-- no number of the state is beyond `near`
pub record IsNear (near : ℕ) (p : Placer) : Type 0 where
  pub at : p.at ≤ near
  pub lists : Every (λ n. n ≤ near) p.lists
  pub tables : AreNear near p.tables
