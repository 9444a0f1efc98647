-- `HoldsRomfs`, `HoldsCramfs`: the facts of bytes for which a check returned an image, by its
-- format. (This project's own.)
use Rattle.std.specs.Prelude.{ℕ, ◌^◌, ◌≤◌, List, length}
use Rattle.record_forest.specs.Forest.{Forest, all_rows}
use Rattle.romfs_format.specs.Refers.{references}
use Rattle.romfs_format.specs.Superblock.{accessible}
use Rattle.romfs_format.specs.Tree.{IsSuperblock, IsTree}
use Rattle.cramfs_format.specs.declared.order.Order.{Order}
use Rattle.cramfs_format.specs.Refers.{references as cramfs_references}
use Rattle.cramfs_format.specs.Superblock.{accessible as cramfs_accessible}
use Rattle.cramfs_format.specs.Superblock.{IsSuperblock as IsCramfsSuperblock}
use Rattle.cramfs_format.specs.Tree.{IsTree as IsCramfsTree}

-- a romfs image whose root is at r
pub record HoldsRomfs (all : List ℕ) (r : ℕ) : Type 0 where
  pub superblock : IsSuperblock all (accessible all) r
  pub most : ℕ
  pub deepest : ℕ
  pub forest : Forest
  pub whole : IsTree (accessible all) r most deepest forest
  pub few : length (all_rows (references (accessible all) r) forest) ≤ 2 ^ 32

-- a cramfs image in this byte order
pub record HoldsCramfs (o : Order) (all : List ℕ) : Type 0 where
  pub superblock : IsCramfsSuperblock o all (cramfs_accessible o all)
  pub most : ℕ
  pub deepest : ℕ
  pub forest : Forest
  pub whole : IsCramfsTree o (cramfs_accessible o all) most deepest forest
  pub few : length (all_rows (cramfs_references o (cramfs_accessible o all)) forest) ≤ 2 ^ 32
