use Rattle.std.proofs.Common.{◌≡◌, ◌-◌, Some}
use Rattle.rom_tree.specs.Tree.{Node, entries_of, drop_entries}
use Rattle.rom_tree.specs.Image.{image_node, find_entry}
use Rattle.library_tests.specs.SampleLaws.{sample}
use Rattle.library_tests.proofs.sample_image.SampleTreeImage.lookup.Given as goal

abbrev pub invariant-loop-entry : goal.invariant-loop-entry
invariant-loop-entry l = record {
  directory : Node;
  node : image_node sample l.d.0 ≡ Some directory;
  rest : find_entry (entries_of directory) l.name ≡ find_entry (drop_entries l.c.0 (entries_of directory)) l.name;
}

abbrev pub decreases-loop-entry : goal.decreases-loop-entry
decreases-loop-entry l = 7 - l.c.0
