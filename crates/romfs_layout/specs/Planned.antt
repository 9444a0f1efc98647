-- `IsPlanned`: a volume that can be laid out as a romfs image. (This project's own. 2^20 references
-- and 64 names are the usual limits of a check.)
use Rattle.std.specs.Prelude.{◌≢◌, ℕ, ◌+◌, ◌^◌, ◌<◌, ◌≤◌, List, ◌∷◌, length}
use Rattle.std.specs.List.{AllByRecursion as Every}
use Rattle.record_forest.specs.Members.{Pairs}
use Rattle.manifest_tree.specs.Names.{Inode, Names}
use Rattle.manifest_tree.specs.Files.{files, height}
use Rattle.romfs_layout.specs.Layout.{root_at, ends, all_headers}
use Rattle.romfs_layout.specs.Wells.{IsDirectory, AreWell, AreLinks}

pub record IsPlanned (volume : List ℕ) (root : Inode) (n : Names)
    (contents : List (List ℕ)) : Type 0 where
  -- the volume's name
  pub short : length volume < 256
  pub no_zero : Every (λ x. x ≢ 0) volume
  pub directory : IsDirectory root
  pub well : AreWell contents n
  -- no line makes two files
  pub lines : Pairs (λ i j. i.line ≢ j.line) (root ∷ files n)
  pub links : AreLinks (files n) n
  -- the limits
  pub room : ends (root_at volume + 64) n ≤ 2 ^ 28
  pub few : length (all_headers (root_at volume) root n) ≤ 2 ^ 20
  pub shallow : height n ≤ 64
