use Rattle.std.proofs.Common.{◌≡◌, ◌∙◌, arith}
use Rattle.std.proofs.lemmas.List.{length-set}
use Rattle.rom_tree.specs.Tree.{ino_of}
use Rattle.rom_tree.proofs.Named.{node_number}
use Rattle.image_check.specs.Any.{any_view}
use Rattle.rom_c.specs.Visits.{to_visit}
use Rattle.rom_c.proofs.Visits.{fewer}
use Rattle.rom_c.proofs.Numbered.{counts_all, counts_one, counts_no_more, counts_room}
use Rattle.rom_c.proofs.Numbered.{writes_all, writes_one, writes_no_more}
use Rattle.rom_c.proofs.linked.put_numbers.Goals as goal

pub loop-found-init : goal.loop-found-init
loop-found-init c =
    let m = any_view c.args.image.now in
    record {
      visit = c.new-visit.ensures.visit m c.requires.shallow;
      count = counts_all m.tree (to_visit m c.new-visit.result) (c.new-visit.ensures.all m);
      room = c.requires.room;
      written = writes_all m.tree (to_visit m c.new-visit.result) c.args.numbers.now (c.new-visit.ensures.all m);
    }

pub loop-found-smaller : goal.loop-found-smaller
loop-found-smaller c =
    let m = any_view c.args.image.now in
    let n = c.in-Some.ensures.given in
    fewer n.node (to_visit m c.loop-found.visit) (to_visit m c.next.new.self) n.first

pub returns : goal.returns
returns c =
    let m = any_view c.args.image.now in
    let i = c.loop-found.invariant in
    let all = counts_no_more c.loop-found.at m.tree (to_visit m c.loop-found.visit) c.in_default.ensures.given
    i.count in
    let room = i.room in
    writes_no_more c.loop-found.at m.tree (to_visit m c.loop-found.visit) c.loop-found.numbers
    c.in_default.ensures.given (omega (arith, all, room)) i.written

pub loop-found-preserved : goal.loop-found-preserved
loop-found-preserved c =
    let m = any_view c.args.image.now in
    let i = c.loop-found.invariant in
    let n = c.in-Some.ensures.given in
    let e : ino_of n.node ≡ c.in-Some.found.0 = node_number m c.in-Some.found.0 n.node n.at in
    let room = i.room in
    let less = counts_room c.loop-found.at m.tree n.node (to_visit m c.loop-found.visit) (to_visit m c.next.new.self)
    n.first i.count in
    record {
      visit = c.in-Some.ensures.visit;
      count = counts_one c.loop-found.at m.tree n.node (to_visit m c.loop-found.visit) (to_visit m c.next.new.self)
          n.first i.count;
      room = length-set c.loop-found.numbers c.loop-found.at c.in-Some.found.0 ∙ room;
      written = writes_one c.loop-found.at c.in-Some.found.0 m.tree n.node (to_visit m c.loop-found.visit)
          (to_visit m c.next.new.self) c.loop-found.numbers n.first e (omega (arith, less, room)) i.written;
    }
