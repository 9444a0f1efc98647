use Rattle.std.proofs.Common.{sym, ap, ◌∙◌, ◌≡◌, arith, rules, take, ℕ}
use Rattle.build_commands.specs.TableRow.{trimmed}
use Rattle.build_commands.proofs.Words.{less_slash, no_slash}
use Rattle.build_commands.proofs.table_row.trimmed.Goals as goal
use Rattle.build_commands.proofs.table_row.trimmed.Goals.{then-loop-end-test+else-path-end-eq47, else-loop-end-test}

pub loop-end-preserved : goal.loop-end-preserved
loop-end-preserved c = record {
  fits = omega (arith, c.loop-end.invariant.fits);
  same = less_slash c.args.path.now c.loop-end.end (search rules) c.loop-end.invariant.fits (search rules)
      ∙ c.loop-end.invariant.same;
}

pub returns : goal.returns
returns c =
    elim c.loop-end-test.branch [
      | then-loop-end-test+else-path-end-eq47 w ↦
          no_slash c.args.path.now c.loop-end.end (search rules) c.loop-end.invariant.fits (search rules)
          ∙ c.loop-end.invariant.same
      | else-loop-end-test w ↦
          let e : c.loop-end.end ≡ 0 = omega (arith, w.loop-end-test.false) in
          ap (λ (k : ℕ). take k c.args.path.now) e
          ∙ ap (λ (k : ℕ). trimmed (take k c.args.path.now)) (sym e)
          ∙ c.loop-end.invariant.same
    ]
