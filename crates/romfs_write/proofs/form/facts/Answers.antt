use Rattle.romfs_write.proofs.Facts.{plan_known}
use Rattle.romfs_write.proofs.form.facts.Goals as goal

pub returns-clause-plan : goal.returns-clause-plan
returns-clause-plan c = plan_known c.fitting_is_planned.ensures c.args.plan.now c.image_len.ensures.planned c.requires
