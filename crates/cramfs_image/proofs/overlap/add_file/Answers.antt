use Rattle.cramfs_image.proofs.overlap.add_file.Goals as goal

pub returns-clause-done : goal.returns-clause-done
returns-clause-done c = c.max.ensures
