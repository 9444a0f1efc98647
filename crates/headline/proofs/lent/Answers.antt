use Rattle.headline.specs.Lent.{open_after}
use Rattle.headline.proofs.Lines.{after_lines}
use Rattle.headline.proofs.Replies.{lend_gives, map_gives, readlink_gives}
use Rattle.headline.proofs.Whole.{whole_gives}
use Rattle.headline.proofs.lent.Goals as goal

pub returns-clause-lend : goal.returns-clause-lend
returns-clause-lend c = λ m lines. lend_gives m (open_after m lines) (after_lines m lines)

pub returns-clause-map : goal.returns-clause-map
returns-clause-map c = λ m lines. map_gives m (open_after m lines) (after_lines m lines)

pub returns-clause-link : goal.returns-clause-link
returns-clause-link c = λ all limits m lines path l h. readlink_gives m (open_after m lines) all limits h path l

pub returns-clause-whole : goal.returns-clause-whole
returns-clause-whole c = λ m lines. whole_gives m (open_after m lines)
