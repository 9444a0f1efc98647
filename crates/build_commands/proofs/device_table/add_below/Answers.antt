use Rattle.std.proofs.Common.{◌≡◌, ◌||◌, true, false, Ok, ap, ap₂, sym, ◌∙◌, refl}
use Rattle.std.specs.List.{list_any}
use Rattle.build_commands.specs.DeviceTable.{is_set_below, table}
use Rattle.build_commands.specs.TableRow.{row_view}
use Rattle.build_commands.proofs.Tabled.{as_table, entries_done, entries_none}
use Rattle.build_commands.proofs.device_table.add_below.Goals as goal

pub returns-then-is_found-is_made-clause-table : goal.returns-then-is_found-is_made-clause-table
returns-then-is_found-is_made-clause-table c =
    let there : list_any (is_set_below c.args.row.now.path.now) c.args.found.now
    || list_any (is_set_below c.args.row.now.path.now) c.set_found.new.listing.files.items ≡ true =
    ap₂ ◌||◌ (sym c.in_ok-is_found.ensures.there) (sym c.set_listed-is_made.ensures.there)
    ∙ c.if-is_found-is_made.true in
    rw c.in_ok-is_found.ensures.table
    (entries_done c.args.found.now (row_view c.args.row.now) (table c.set_found.new.listing)
    c.set_found.new.listing.files.items c.set_listed-is_made.new.listing.files.items refl
    c.set_listed-is_made.ensures.files there
    ∙ ap (λ cs. Ok (as_table c.set_listed-is_made.new.listing.files.items cs.items))
    (sym c.set_listed-is_made.ensures.changes))

pub returns-clause-table : goal.returns-clause-table
returns-clause-table c =
    let there : list_any (is_set_below c.args.row.now.path.now) c.args.found.now
    || list_any (is_set_below c.args.row.now.path.now) c.set_found.new.listing.files.items ≡ false =
    ap₂ ◌||◌ (sym c.in_ok-is_found.ensures.there) (sym c.set_listed-is_made.ensures.there)
    ∙ c.if-is_found-is_made.false in
    rw c.in_ok-is_found.ensures.table
    (rw c.refused.ensures (entries_none c.args.found.now (row_view c.args.row.now) (table c.set_found.new.listing)
    c.set_found.new.listing.files.items refl there))
