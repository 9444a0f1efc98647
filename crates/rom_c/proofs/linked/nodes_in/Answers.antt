use Rattle.std.proofs.Common.{rules, ◌≡◌, ◌==◌, ℕ, length, drop, ap, ◌∙◌}
use Rattle.std.proofs.lemmas.List.{take_at}
use Rattle.std.specs.List.{count_by}
use Rattle.rom_c.proofs.linked.nodes_in.Goals as goal

pub returns-clause-links : goal.returns-clause-links
returns-clause-links c = λ r n.
    let l : length c.fill.new.numbers ≡ c.count_names-count.result = search rules in
    ap (count_by (λ (v : ℕ). v == n))
    (take_at c.fill.new.numbers (drop c.count_names-count.result c.args.numbers.now) c.count_names-count.result l)
    ∙ c.fill.ensures.links n
