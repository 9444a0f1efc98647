use Rattle.std.proofs.Common.{◌∙◌, sym}
use Rattle.program_report.proofs.NodeNeeds.{in_one_run, not_regular, scattered}
use Rattle.program_report.proofs.needs.needs_in.Goals as goal

pub returns-then-not-is_regular_at : goal.returns-then-not-is_regular_at
returns-then-not-is_regular_at g c = λ x e.
    not_regular (g.T.Viewed.image c.args.image.now) x c.nothing.result c.nothing.ensures
    (sym (c.is_regular_at.ensures x e) ∙ c.if-not-is_regular_at.true)

pub returns-then-bytes-stat : goal.returns-then-bytes-stat
returns-then-bytes-stat g c = λ x e.
    scattered (g.T.Viewed.image c.args.image.now) x c.nothing-then-bytes-stat.result c.stat-stat.result
    c.front_bytes-bytes.result.now c.nothing-then-bytes-stat.ensures
    (sym (c.is_regular_at.ensures x e) ∙ c.if-not-is_regular_at.false) (c.stat-stat.ensures x e)
    (c.front_bytes-bytes.ensures x e) c.if-bytes-stat.true

pub returns : goal.returns
returns g c = λ x e.
    in_one_run (g.T.Viewed.image c.args.image.now) x c.of.result c.stat-stat.result
    c.front_bytes-bytes.result.now c.may_execute.result c.of.ensures c.may_execute.ensures
    (sym (c.is_regular_at.ensures x e) ∙ c.if-not-is_regular_at.false) (c.stat-stat.ensures x e)
    (c.front_bytes-bytes.ensures x e) c.if-bytes-stat.false
