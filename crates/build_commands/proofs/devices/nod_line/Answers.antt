use Rattle.std.proofs.Common.{◌∙◌, ap, sym, codes, ◌++◌, List, ℕ}
use Rattle.build_commands.proofs.Added.{regrouped}
use Rattle.build_commands.proofs.devices.nod_line.Goals as goal

pub returns : goal.returns
returns c =
    let d = c.args.words.now in
    c.in_ok-format.ensures.ok
    ∙ ap (λ (rest : List ℕ). codes "nod " ++ rest)
    (sym (regrouped d.0.now (codes " ") d.4.now (codes " 0 0 ") d.1.now (codes " ") d.2.now (codes " ") d.3.now
    (codes "\n")))
