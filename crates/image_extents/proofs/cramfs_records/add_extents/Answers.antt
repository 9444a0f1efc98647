use Rattle.std.proofs.Common.{◌≡◌, ◌∙◌, ℕ, List, ap, sym, take, get_or, true, false}
use Rattle.image_extents.specs.declared.extent.Record.{Record}
use Rattle.image_extents.specs.declared.extent.Extent.{Extent}
use Rattle.image_extents.specs.Found.{table_in, with_contents, with_list, with_records}
use Rattle.image_extents.specs.Tables.{is_first}
use Rattle.image_extents.proofs.Blocks.{found_more, record_first, record_later}
use Rattle.image_extents.proofs.cramfs_records.add_extents.Goals as goal

abbrev none : Record
none = record { offset = 0; name = 0; length = 0; directory = 0 }

pub loop-number-preserved-then-not-is_first : goal.loop-number-preserved-then-not-is_first
loop-number-preserved-then-not-is_first c =
    let j = c.args.joined in
    let o = c.args.order in
    let b : List ℕ = c.args.b.now in
    let rs : List Record = c.args.records.now in
    let start : List Extent = c.args.extents.now.items in
    let i : ℕ = c.loop-number.number in
    let x : Record = get_or rs i none in
    let so_far : List Extent = with_records j o b rs start 0 (take i rs) in
    let more = found_more j o b rs start rs i none c.loop-number-test.true in
    let later : is_first (table_in o b) rs i x ≡ false = sym (c.is_first.ensures none) ∙ c.if-not-is_first.true in
    c.loop-number.invariant ∙ sym (more ∙ record_later j o b rs so_far i x later)

pub loop-number-preserved : goal.loop-number-preserved
loop-number-preserved c =
    let j = c.args.joined in
    let o = c.args.order in
    let b : List ℕ = c.args.b.now in
    let rs : List Record = c.args.records.now in
    let start : List Extent = c.args.extents.now.items in
    let i : ℕ = c.loop-number.number in
    let x : Record = get_or rs i none in
    let so_far : List Extent = with_records j o b rs start 0 (take i rs) in
    let more = found_more j o b rs start rs i none c.loop-number-test.true in
    let first : is_first (table_in o b) rs i x ≡ true = sym (c.is_first.ensures none) ∙ c.if-not-is_first.false in
    c.in_ok-add_record.ensures
    ∙ ap (λ (v : List Extent). with_contents j o b x.offset i (with_list o b x.offset i v)) c.loop-number.invariant
    ∙ sym (more ∙ record_first j o b rs so_far i x first)
