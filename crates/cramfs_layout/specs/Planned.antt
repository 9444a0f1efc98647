-- `IsPlanned`: a volume that can be laid out as a cramfs image. (This project's own. 2^20
-- references and 64 names are the usual limits of a check.)
use Rattle.std.specs.Prelude.{◌≢◌, ◌∷◌, ℕ, suc, ◌^◌, ◌≤◌, List, length}
use Rattle.record_forest.specs.Members.{Pairs}
use Rattle.manifest_tree.specs.Names.{Inode, Names}
use Rattle.manifest_tree.specs.Files.{height, files}
use Rattle.cramfs_layout.specs.Layout.{size_of, count}
use Rattle.cramfs_layout.specs.Wells.{IsDirectory, AreWell}

pub record IsPlanned (volume : List ℕ) (root : Inode) (n : Names)
    (contents : List (List ℕ)) : Type 0 where
  -- the volume's name
  pub short : length volume ≤ 16
  pub directory : IsDirectory root n
  pub well : AreWell contents n
  -- no line makes two files
  pub lines : Pairs (λ i j. i.line ≢ j.line) (root ∷ files n)
  -- the limits
  pub room : size_of n ≤ 2 ^ 28
  pub few : suc (count n) ≤ 2 ^ 20
  pub shallow : height n ≤ 64
