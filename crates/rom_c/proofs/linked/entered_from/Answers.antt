use Rattle.std.proofs.Common.{◌≡◌, sym, ap, ◌∙◌}
use Rattle.rom_tree.specs.Tree.{ino_of}
use Rattle.rom_tree.proofs.Named.{node_number, has_node}
use Rattle.image_check.specs.Any.{any_view}
use Rattle.rom_c.specs.Reported.{found_reported}
use Rattle.rom_c.specs.Visits.{to_visit}
use Rattle.rom_c.proofs.Visits.{fewer}
use Rattle.rom_c.proofs.Walked.{none_yet, none_left, passes, found}
use Rattle.rom_c.proofs.linked.entered_from.Goals as goal

pub loop-found-init : goal.loop-found-init
loop-found-init c =
    let m = any_view c.args.image.now in
    record {
      visit = c.new-visit.ensures.visit m c.requires;
      none = none_yet m.tree (to_visit m c.new-visit.result) c.args.node.0 (c.new-visit.ensures.all m);
    }

pub leads_to-requires : goal.leads_to-requires
leads_to-requires c =
    let m = any_view c.args.image.now in
    let n = c.in-Some.ensures.given in
    has_node m c.in-Some.found.0 n.node n.at

pub loop-found-smaller : goal.loop-found-smaller
loop-found-smaller c =
    let m = any_view c.args.image.now in
    let n = c.in-Some.ensures.given in
    fewer n.node (to_visit m c.loop-found.visit) (to_visit m c.next.new.self) n.first

pub loop-found-preserved : goal.loop-found-preserved
loop-found-preserved c =
    let m = any_view c.args.image.now in
    let n = c.in-Some.ensures.given in
    record {
      visit = c.in-Some.ensures.visit;
      none =
          passes m.tree n.node (to_visit m c.loop-found.visit) (to_visit m c.next.new.self) c.args.node.0 n.first
          (sym (c.leads_to.ensures n.node n.at) ∙ c.if-leads_to.false) c.loop-found.invariant.none;
    }

pub returns-then-leads_to : goal.returns-then-leads_to
returns-then-leads_to c =
    let m = any_view c.args.image.now in
    let n = c.in-Some.ensures.given in
    let e : ino_of n.node ≡ c.in-Some.found.0 = node_number m c.in-Some.found.0 n.node n.at in
    let f = found m.tree n.node (to_visit m c.loop-found.visit) (to_visit m c.next.new.self) c.args.node.0 n.first
    (sym (c.leads_to.ensures n.node n.at) ∙ c.if-leads_to.true) c.loop-found.invariant.none in
    rw f (rw e)

pub returns : goal.returns
returns c =
    let m = any_view c.args.image.now in
    let z = none_left m.tree (to_visit m c.loop-found.visit) c.args.node.0 c.in_default.ensures.given
    c.loop-found.invariant.none in
    c.no_node.ensures ∙ ap found_reported (sym z)
