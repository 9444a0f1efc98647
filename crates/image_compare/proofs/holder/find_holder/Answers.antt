use Rattle.std.proofs.Common.{◌∷◌, [], ◌++◌, List, sym, ap, ◌∙◌, append_assoc}
use Rattle.rom_tree.specs.Image.{Image}
use Rattle.rom_tree.specs.Names.{Name}
use Rattle.rom_tree.specs.Walks.{to_come}
use Rattle.image_compare.proofs.Held.{none_more}
use Rattle.image_compare.proofs.holder.find_holder.Goals as goal

pub returns-then-is_holder-clause-found : goal.returns-then-is_holder-clause-found
returns-then-is_holder-clause-found g c =
    let m : Image = g.T.Viewed.image c.args.image.now in
    let i = c.loop-node.invariant in
    let n = c.in-Some.ensures.given in
    record {
      before = i.before;
      name = n.name;
      after = to_come m c.next.new.self;
      is = sym (ap (λ (v : List Name). i.before ++ v) (sym n.first) ∙ i.names);
      path = n.path;
      holds = c.if-is_holder.ensures.found n.name.node n.node;
      first = i.none;
    }

pub loop-node-preserved : goal.loop-node-preserved
loop-node-preserved g c =
    let m : Image = g.T.Viewed.image c.args.image.now in
    let i = c.loop-node.invariant in
    let n = c.in-Some.ensures.given in
    record {
      walk = c.in-Some.ensures.walk;
      before = i.before ++ n.name ∷ [];
      names = append_assoc i.before (n.name ∷ []) (to_come m c.next.new.self)
          ∙ (ap (λ (v : List Name). i.before ++ v) (sym n.first) ∙ i.names);
      none = none_more i.before n.name c.args.place i.none (c.if-is_holder.ensures.none n.name.node n.node);
    }
