use Rattle.open_files.specs.Slots.{image_view, stands}
use Rattle.open_files.proofs.Tables.{table-replicate, stand-replicate}
use Rattle.open_files.proofs.slot.Slots.new.Goals as goal

pub returns-clause-empty : goal.returns-clause-empty
returns-clause-empty g c = λ m. table-replicate (stands (image_view m)) g.row.N

pub returns-clause-sound : goal.returns-clause-sound
returns-clause-sound g c = λ m. stand-replicate (stands (image_view m)) g.row.N
