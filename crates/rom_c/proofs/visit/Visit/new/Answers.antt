use Rattle.std.proofs.Common.{refl}
use Rattle.rom_c.proofs.Visits.{no_places}
use Rattle.rom_c.proofs.visit.Visit.new.Goals as goal

pub returns-clause-visit : goal.returns-clause-visit
returns-clause-visit c = λ m l.
    record {
      depth = l;
      places = no_places m c.new.result.items c.new.ensures;
      fresh = λ e. c.new.ensures;
    }

pub returns-clause-all : goal.returns-clause-all
returns-clause-all c = λ m. refl
