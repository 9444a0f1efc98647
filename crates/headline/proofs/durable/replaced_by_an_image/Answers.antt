use Rattle.std.proofs.Common.{[], Some}
use Rattle.headline.proofs.BuiltFiles.{seen, crashed}
use Rattle.headline.proofs.durable.replaced_by_an_image.Goals as goal

pub returns-clause-seen : goal.returns-clause-seen
returns-clause-seen c = λ names text p known old log is moment.
    seen known p old log (λ now w. c.streamed_is_accepted.ensures.faultless text p known (Some []) now is w) names
    moment

pub returns-clause-crashed : goal.returns-clause-crashed
returns-clause-crashed c = λ names text p known old log place is moment may.
    crashed known p old log (λ now w. c.streamed_is_accepted.ensures.faultless text p known (Some []) now is w) names
    place moment may
