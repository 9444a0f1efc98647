use Rattle.std.proofs.Common.{◌≡◌, ℕ, List, map, take, reverse}
use Rattle.plan_rows.specs.Entries.{entries_by}
use Rattle.plan_rows.specs.Files.{IsOf}
use Rattle.plan_rows.specs.Keyed.{listed}
use Rattle.plan_rows.proofs.Ordered.{by_key}
use Rattle.plan_rows.proofs.order.rows.Given as goal

abbrev pub invariant-loop-line : goal.invariant-loop-line
invariant-loop-line l = record {
  all : l.all ≡ l.m.lines;
  listed : (sizes : List ℕ) → IsOf l.m.lines sizes l.files
      → listed l.keyed ≡ map by_key (entries_by l.m.lines sizes (reverse (take l.line-index l.all)));
}
