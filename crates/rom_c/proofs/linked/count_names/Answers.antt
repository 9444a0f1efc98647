use Rattle.std.proofs.Common.{arith}
use Rattle.image_check.specs.Any.{any_view}
use Rattle.rom_c.specs.Visits.{to_visit}
use Rattle.rom_c.proofs.Visits.{fewer}
use Rattle.rom_c.proofs.Numbered.{counts_all, counts_one, counts_no_more, counts_room}
use Rattle.rom_c.proofs.linked.count_names.Goals as goal

pub names-init : goal.names-init
names-init c =
    let m = any_view c.args.image.now in
    record {
      visit = c.new-visit.ensures.visit m c.requires.shallow;
      count = counts_all m.tree (to_visit m c.new-visit.result) (c.new-visit.ensures.all m);
    }

pub overflow_add-count : goal.overflow_add-count
overflow_add-count c =
    let m = any_view c.args.image.now in
    let n = c.in-Some.ensures.given in
    let r = counts_room c.names.count m.tree n.node (to_visit m c.names.visit) (to_visit m c.next.new.self) n.first
    c.names.invariant.count in
    let f = c.requires.few in
    omega (arith, r, f)

pub names-smaller : goal.names-smaller
names-smaller c =
    let m = any_view c.args.image.now in
    let n = c.in-Some.ensures.given in
    fewer n.node (to_visit m c.names.visit) (to_visit m c.next.new.self) n.first

pub names-preserved : goal.names-preserved
names-preserved c =
    let m = any_view c.args.image.now in
    let n = c.in-Some.ensures.given in
    record {
      visit = c.in-Some.ensures.visit;
      count = counts_one c.names.count m.tree n.node (to_visit m c.names.visit) (to_visit m c.next.new.self) n.first
          c.names.invariant.count;
    }

pub returns : goal.returns
returns c =
    let m = any_view c.args.image.now in
    counts_no_more c.names.count m.tree (to_visit m c.names.visit) c.in_default.ensures.given c.names.invariant.count
