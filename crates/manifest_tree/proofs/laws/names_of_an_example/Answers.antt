use Rattle.std.proofs.Common.{refl}
use Rattle.percent_encoding.specs.Percent.{percent_decode}
use Rattle.manifest.specs.Texts.{octal, decimal}
use Rattle.manifest.specs.Paths.{names_of, is_bad_name}
use Rattle.manifest.specs.Grammar.{numbers_of, fault_of, read, manifest_of}
use Rattle.manifest_tree.specs.Tree.{tree_of, file_at, inode_of}
use Rattle.manifest_tree.proofs.laws.names_of_an_example.Goals as goal

pub returns : goal.returns
unfolding manifest_of read numbers_of fault_of octal decimal names_of is_bad_name percent_decode tree_of file_at
    inode_of
returns c = refl
