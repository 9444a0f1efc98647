use Rattle.std.proofs.Common.{ap, map, ◌∙◌}
use Rattle.plan_rows.specs.Keyed.{keyed, listed, put_keyed, zeroed}
use Rattle.plan_rows.specs.Rows.{row_view}
use Rattle.plan_rows.proofs.Ordered.{listed_put}
use Rattle.plan_rows.proofs.keyed.put_row.Goals as goal

pub returns : goal.returns
returns c =
    let old = c.args.rows.now in
    let key = c.in_ok-key.key in
    let row = c.row_of.result in
    let path = c.args.line.now.path in
    ap (map (λ e. keyed e.0.items (row_view e.1))) c.in_ok-insert.ensures.entries
    ∙ listed_put old.entries key row
    ∙ ap (λ b. put_keyed (keyed b (row_view row)) (listed old)) (c.in_ok-key.ensures ∙ ap zeroed c.as_bytes.ensures)
    ∙ ap (λ r. put_keyed (keyed (zeroed path) r) (listed old)) c.row_of.ensures
