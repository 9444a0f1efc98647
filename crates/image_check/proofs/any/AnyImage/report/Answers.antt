use Rattle.image_check.proofs.any.AnyImage.report.Goals as goal

pub returns-in-Cramfs : goal.returns-in-Cramfs
returns-in-Cramfs c = rw c.in-Cramfs.is c.report-in-Cramfs.ensures
