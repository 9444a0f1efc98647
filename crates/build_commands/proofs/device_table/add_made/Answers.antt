use Rattle.build_commands.proofs.Tabled.{made_more}
use Rattle.build_commands.proofs.device_table.add_made.Goals as goal

pub returns-clause-made : goal.returns-clause-made
returns-clause-made c =
    made_more c.args.made.now (record { listing = c.add_file.new.self; directories = c.insert.new.self }) c.args.path
    c.args.file c.requires.made c.in_ok-add_file.ensures.files c.requires.directory c.requires.path
    c.in_ok-insert.ensures.updates
