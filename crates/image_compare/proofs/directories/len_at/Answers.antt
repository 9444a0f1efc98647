use Rattle.std.proofs.Common.{ap, sym, length, List, ℕ}
use Rattle.image_compare.proofs.Directed.{way_none}
use Rattle.image_compare.proofs.directories.len_at.Goals as goal

pub returns-in-Some-clause-size : goal.returns-in-Some-clause-size
returns-in-Some-clause-size c = λ ws h. sym (h.each c.args.at c.in-Some.directory (sym c.in-Some.ensures)).size

pub returns-in-Some-clause-short : goal.returns-in-Some-clause-short
returns-in-Some-clause-short c = (c.requires.1.each c.args.at c.in-Some.directory (sym c.in-Some.ensures)).short

pub returns-in-None-clause-size : goal.returns-in-None-clause-size
returns-in-None-clause-size c = λ ws h.
    ap (λ (v : List ℕ). length v) (sym (way_none c.args.directories.now ws h c.args.at c.in-None.ensures))
