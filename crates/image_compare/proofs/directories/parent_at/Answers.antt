use Rattle.std.proofs.Common.{sym, ◌∷◌}
use Rattle.image_compare.proofs.Directed.{root_front}
use Rattle.image_compare.proofs.directories.parent_at.Goals as goal

pub returns-in-Some-clause-earlier : goal.returns-in-Some-clause-earlier
returns-in-Some-clause-earlier c =
    (c.requires.known.1.each c.args.at c.in-Some.directory (sym c.in-Some.ensures)).earlier c.requires.below

pub returns-in-Some-clause-front : goal.returns-in-Some-clause-front
returns-in-Some-clause-front c = λ ws h.
    let d = c.in-Some.directory in
    (47 ∷ d.name.now, (h.each c.args.at d (sym c.in-Some.ensures)).below c.requires.below)

pub returns-in-None-clause-front : goal.returns-in-None-clause-front
returns-in-None-clause-front c = λ ws h. root_front c.args.directories.now ws h c.args.at
