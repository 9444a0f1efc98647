use Rattle.cramfs_write.proofs.form.CramfsFormSegmented.fill_head.Goals as goal

pub returns : goal.returns
returns c = c.fill_super.ensures
