use Rattle.image_extents.proofs.Having.{which_finds as shown}
use Rattle.image_extents.proofs.Inside.{cramfs_all_in, romfs_all_in}
use Rattle.image_extents.proofs.laws.which_finds.Goals as goal

pub returns-clause-romfs : goal.returns-clause-romfs
returns-clause-romfs c = λ all r e base file h a.
    shown base file e a.extents.sorted a.apart (romfs_all_in all r e h a)

pub returns-clause-cramfs : goal.returns-clause-cramfs
returns-clause-cramfs c = λ o all e base file h a.
    shown base file e a.blocks.extents.sorted a.apart (cramfs_all_in o all e h a)
