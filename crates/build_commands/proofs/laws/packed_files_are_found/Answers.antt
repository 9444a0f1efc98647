use Rattle.build_commands.proofs.Packed.{found_again}
use Rattle.build_commands.proofs.laws.packed_files_are_found.Goals as goal

pub returns : goal.returns
returns c = λ format found volume image t contents m sizes v taken text meant alike.
    found_again format found volume image t contents m sizes taken alike
    (c.scans_are_manifests.ensures.all format found volume v taken) text meant
