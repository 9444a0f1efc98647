use Rattle.std.proofs.Common.{subst, reverse}
use Rattle.std.proofs.lemmas.Option.{slice_get_past}
use Rattle.manifest.specs.Lines.{led}
use Rattle.plan_rows.specs.Files.{IsIndexOf}
use Rattle.plan_rows.proofs.Knowing.{got}
use Rattle.build_commands.proofs.Owned.{no_own, own_past, own_is}
use Rattle.build_commands.proofs.planned.own_line.Goals as goal

pub returns-in_default : goal.returns-in_default
returns-in_default c = λ sizes h.
    let all = c.args.manifest.now.lines in
    let path = c.args.path.now in
    no_own all (led (reverse all) path) (subst (λ o. IsIndexOf all o (led (reverse all) path)) c.in_default.is
    (c.line.ensures all sizes h))

pub returns-in-None : goal.returns-in-None
returns-in-None c = λ sizes h.
    let all = c.args.manifest.now.lines in
    let i = c.in-Some.index in
    let past = c.in-None.ensures.lookup.3 in
    own_past all i (led (reverse all) c.args.path.now) (c.in-Some.ensures all sizes h)
    (slice_get_past all i (rw c.lines.ensures.lines at past))

pub returns-in-Some-get : goal.returns-in-Some-get
returns-in-Some-get c = λ sizes h.
    let all = c.args.manifest.now.lines in
    let i = c.in-Some.index in
    let l = c.in-Some-get.line.now in
    let below = c.in-Some-get.ensures.lookup.3.0 in
    let is = c.in-Some-get.ensures.lookup.1 in
    own_is all i l (led (reverse all) c.args.path.now) (c.in-Some.ensures all sizes h)
    (got all i l l (rw c.lines.ensures.lines at below) (rw c.lines.ensures.lines at is))
