use Rattle.std.proofs.Common.{◌∙◌}
use Rattle.build_commands.proofs.Tabled.{same_directories}
use Rattle.build_commands.proofs.device_table.is_made.Goals as goal

pub returns : goal.returns
returns c =
    c.contains.ensures ∙ c.requires c.args.path.now
    ∙ same_directories c.args.made.now.listing.files.items c.args.path.now
