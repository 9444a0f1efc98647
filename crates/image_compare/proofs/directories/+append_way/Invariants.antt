use Rattle.image_compare.proofs.directories.+append_way.Given as goal

abbrev pub decreases-append_way : goal.decreases-append_way
decreases-append_way l = l.directory
