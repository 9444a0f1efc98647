use Rattle.std.proofs.Common.{ap, sym, ◌∙◌, List}
use Rattle.build_commands.specs.Fitting.{has_directory}
use Rattle.build_commands.specs.TableRow.{row_view}
use Rattle.build_commands.specs.declared.inventory.NamedFile.{NamedFile}
use Rattle.build_commands.proofs.Tabled.{kept_directories}
use Rattle.build_commands.proofs.device_table.add_row.Goals as goal

pub returns-in_ok-add_below-in-Below-clause-made : goal.returns-in_ok-add_below-in-Below-clause-made
returns-in_ok-add_below-in-Below-clause-made c = λ path.
    c.requires.made path
    ∙ sym (kept_directories (row_view c.args.row.now) path c.args.made.now.listing.files.items)
    ∙ ap (λ (fs : List NamedFile). has_directory fs path) (sym c.in_ok-add_below-in-Below.ensures.files)
