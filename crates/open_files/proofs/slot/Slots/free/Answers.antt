use Rattle.std.proofs.Common.{rules, tests}
use Rattle.std.proofs.lemmas.Iterator.{YieldsList-from_slice}
use Rattle.std.proofs.lemmas.Iterator.Search.{position_from_yields_List}
use Rattle.open_files.proofs.slot.Slots.free.Goals as goal

pub returns-clause-first : goal.returns-clause-first
returns-clause-first g c = position_from_yields_List _ _ _ _ c.position.ensures.ran
    (YieldsList-from_slice c.args.self.now.slots c.iter.ensures.rest) (λ x b q k. search (rules, tests))
