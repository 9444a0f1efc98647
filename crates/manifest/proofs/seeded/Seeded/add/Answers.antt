use Rattle.manifest.proofs.seeded.Seeded.add.Goals as goal

pub returns : goal.returns
returns c = c.write.ensures
