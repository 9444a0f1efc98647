use Rattle.image_compare.proofs.directories.+byte_of.Given as goal

abbrev pub decreases-byte_of : goal.decreases-byte_of
decreases-byte_of l = l.directory
