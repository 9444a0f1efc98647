use Rattle.image_check.specs.Any.{any_view}
use Rattle.rom_c.proofs.Trees.{few_nodes}
use Rattle.rom_c.proofs.image.image_of.Goals as goal

pub returns-clause-few : goal.returns-clause-few
returns-clause-few c = few_nodes (any_view c.again-found.result).tree 4294967296 c.few_names.ensures
