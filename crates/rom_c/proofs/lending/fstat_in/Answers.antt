use Rattle.std.proofs.Common.{refl, ap, ◌∙◌}
use Rattle.rom_c.specs.Reported.{stat_reported}
use Rattle.rom_c.proofs.lending.fstat_in.Goals as goal

pub fstat-requires : goal.fstat-requires
fstat-requires c κs = ((refl, tt), c.requires)

pub returns : goal.returns
returns c = λ o h. c.shown.ensures ∙ ap stat_reported (c.fstat.ensures o h)
