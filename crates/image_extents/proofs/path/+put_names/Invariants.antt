use Rattle.image_extents.proofs.path.+put_names.Given as goal

abbrev pub decreases-put_names : goal.decreases-put_names
decreases-put_names g l = l.most
