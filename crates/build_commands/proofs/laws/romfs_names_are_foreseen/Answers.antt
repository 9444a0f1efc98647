use Rattle.build_commands.proofs.Alike.{misread_alike}
use Rattle.build_commands.proofs.laws.romfs_names_are_foreseen.Goals as goal

pub returns : goal.returns
returns c = λ s contents lines sizes path own o x i h.
    misread_alike s contents lines sizes path own o x h (c.romfs_device_numbers.ensures s x i)
