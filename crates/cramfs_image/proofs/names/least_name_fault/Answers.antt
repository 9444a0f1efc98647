use Rattle.std.proofs.Common.{◌≡◌, false, sym, take, get_or, ap, ◌∙◌, arith}
use Rattle.std.proofs.lemmas.List.{get_or_default}
use Rattle.record_forest.proofs.Listing.{marked_old, marked_new}
use Rattle.record_forest.proofs.Sweeps.{blank, sweep_well_at, sweep_fault_at}
use Rattle.cramfs_format.specs.Inode.{name_of}
use Rattle.cramfs_image.specs.Phases.{FindsEarlier, name_seen}
use Rattle.cramfs_image.proofs.Lasts.{last_more}
use Rattle.cramfs_image.proofs.Naming.{well_faultless}
use Rattle.cramfs_image.proofs.names.least_name_fault.Goals as goal
use Rattle.cramfs_image.proofs.names.least_name_fault.Goals.{in-Some, in_default}

pub loop-i-preserved : goal.loop-i-preserved
loop-i-preserved c =
    let b = c.args.b.now.bytes.now in
    let xs = c.args.rows.now in
    let i = c.loop-i.i in
    let names = c.in_ok-names_of.ensures in
    let marks = c.in_ok-repeated.repeated.items in
    let is : get_or marks i false ≡ c.index.result.now =
    get_or_default marks i false c.index.result.now
    (let k = c.in_ok-repeated.ensures.count in let l = names.count in let m = c.loop-i-test.true in omega arith)
    ∙ sym c.index.ensures in
    let finds : FindsEarlier c.args.b.now.order b (take i xs) (get_or xs i blank) c.index.result.now c.in_ok-last.last =
    record {
      old = λ e. marked_old (name_of c.args.b.now.order b) xs c.in_ok-names_of.field-0.items marks names
          c.in_ok-repeated.ensures i blank c.loop-i-test.true (is ∙ e);
      new = λ e. marked_new (name_of c.args.b.now.order b) xs c.in_ok-names_of.field-0.items marks names
          c.in_ok-repeated.ensures i blank c.loop-i-test.true (is ∙ e);
      last_is = ap name_seen c.in_ok-last.ensures.old ∙ c.loop-i.invariant.last.finds (get_or xs i blank).directory;
    } in
    record {
      last = last_more c.args.b.now.order b c.loop-i.last_names c.insert.new.self c.name_at-name.result xs i blank
          c.loop-i-test.true c.loop-i.invariant.last c.in_ok-last.ensures.updates c.name_at-name.ensures;
      noted = elim c.match-name_fault.branch [
        | in-Some w ↦ sweep_fault_at xs i w.in-Some.number _ _ c.loop-i-test.true
            (w.noted-is ∙ w.lesser_fault-noted.ensures) c.loop-i.invariant.noted
            (w.in-Some.ensures.fault (take i xs) finds)
        | in_default w ↦ sweep_well_at xs i _ _ c.loop-i-test.true w.noted-is c.loop-i.invariant.noted
            (w.in_default.ensures.well (take i xs) finds) (well_faultless (w.in_default.ensures.well (take i xs) finds))
      ];
    }
