use Rattle.std.proofs.Common.{◌≡◌, sym, ◌∙◌, arith}
use Rattle.rom_tree.specs.Tree.{ino_of}
use Rattle.rom_tree.proofs.Named.{node_number}
use Rattle.image_check.specs.Any.{any_view}
use Rattle.rom_c.specs.Visits.{to_visit}
use Rattle.rom_c.proofs.Visits.{fewer}
use Rattle.rom_c.proofs.Walked.{all_count, has_room, met_it, met_other, no_more}
use Rattle.rom_c.proofs.linked.links_in.Goals as goal

pub loop-found-init : goal.loop-found-init
loop-found-init c =
    let m = any_view c.args.image.now in
    record {
      visit = c.new-visit.ensures.visit m c.requires.shallow;
      count = all_count m.tree (to_visit m c.new-visit.result) c.args.node.0 (c.new-visit.ensures.all m);
    }

pub overflow_add-links : goal.overflow_add-links
overflow_add-links c =
    let m = any_view c.args.image.now in
    let r = has_room c.loop-found.links c.args.node.0 m.tree (to_visit m c.loop-found.visit) c.requires.few
    c.loop-found.invariant.count in
    omega (arith, r)

pub loop-found-smaller : goal.loop-found-smaller
loop-found-smaller c =
    let m = any_view c.args.image.now in
    let n = c.in-Some.ensures.given in
    fewer n.node (to_visit m c.loop-found.visit) (to_visit m c.next.new.self) n.first

pub loop-found-preserved-then-found-node : goal.loop-found-preserved-then-found-node
loop-found-preserved-then-found-node c =
    let m = any_view c.args.image.now in
    let i = c.loop-found.invariant in
    let n = c.in-Some.ensures.given in
    let e : ino_of n.node ≡ c.in-Some.found.0 = node_number m c.in-Some.found.0 n.node n.at in
    record {
      visit = c.in-Some.ensures.visit;
      count =
          met_it c.loop-found.links c.args.node.0 m.tree n.node (to_visit m c.loop-found.visit)
          (to_visit m c.next.new.self) n.first (e ∙ c.if-found-node.true) i.count;
    }

pub loop-found-preserved : goal.loop-found-preserved
loop-found-preserved c =
    let m = any_view c.args.image.now in
    let i = c.loop-found.invariant in
    let n = c.in-Some.ensures.given in
    let e : ino_of n.node ≡ c.in-Some.found.0 = node_number m c.in-Some.found.0 n.node n.at in
    record {
      visit = c.in-Some.ensures.visit;
      count =
          met_other c.loop-found.links c.args.node.0 m.tree n.node (to_visit m c.loop-found.visit)
          (to_visit m c.next.new.self) n.first (λ h. c.if-found-node.false (sym e ∙ h)) i.count;
    }

pub returns : goal.returns
returns c =
    let m = any_view c.args.image.now in
    no_more c.loop-found.links c.args.node.0 m.tree (to_visit m c.loop-found.visit) c.in_default.ensures.given
    c.loop-found.invariant.count
