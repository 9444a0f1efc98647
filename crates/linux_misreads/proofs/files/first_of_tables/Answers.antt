use Rattle.rom_tree.specs.Names.{names}
use Rattle.rom_tree.specs.Walks.{to_come}
use Rattle.rom_tree.proofs.Named.{has_node}
use Rattle.rom_tree.proofs.Listed.{fewer}
use Rattle.linux_misreads.specs.Tables.{view}
use Rattle.linux_misreads.proofs.Firsts.{more_firsts, no_firsts, all_firsts}
use Rattle.linux_misreads.proofs.files.first_of_tables.Goals as goal

pub loop-node-init : goal.loop-node-init
loop-node-init c = record {
  walk = c.new-walk.ensures.walk (view c.args.image.now) c.requires;
  firsts = no_firsts c.args.image.now c.new-first.result (names (view c.args.image.now).tree)
      (to_come (view c.args.image.now) c.new-walk.result) c.new-first.ensures.empty
      (c.new-walk.ensures.all (view c.args.image.now));
}

pub note-requires : goal.note-requires
note-requires c =
    let n = c.in-Some.ensures.given in has_node (view c.args.image.now) c.in-Some.node.0 n.name.node n.node

pub loop-node-preserved : goal.loop-node-preserved
loop-node-preserved c =
    let n = c.in-Some.ensures.given in
    record {
      walk = c.in-Some.ensures.walk;
      firsts = more_firsts c.args.image.now c.loop-node.first c.note.new.first
          (names (view c.args.image.now).tree) n.name (to_come (view c.args.image.now) c.loop-node.walk)
          (to_come (view c.args.image.now) c.next.new.self) n.first
          (c.in_ok-note.ensures n.name.node n.node) c.loop-node.invariant.firsts;
    }

pub loop-node-smaller : goal.loop-node-smaller
loop-node-smaller c =
    let n = c.in-Some.ensures.given in
    fewer n.name (to_come (view c.args.image.now) c.loop-node.walk)
    (to_come (view c.args.image.now) c.next.new.self) n.first

pub returns : goal.returns
returns c = all_firsts c.args.image.now c.loop-node.first (names (view c.args.image.now).tree)
    (to_come (view c.args.image.now) c.loop-node.walk) c.in_default.ensures.given.before c.loop-node.invariant.firsts
