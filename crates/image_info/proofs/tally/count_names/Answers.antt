use Rattle.std.proofs.Common.{◌≡◌, ◌∷◌, [], ◌∙◌, ℕ, ap, subst, not, arith}
use Rattle.rom_tree.specs.declared.types.Stat.{Stat}
use Rattle.rom_tree.specs.Tree.{ino_of}
use Rattle.rom_tree.specs.Image.{Image, stat_of}
use Rattle.rom_tree.specs.Names.{names}
use Rattle.rom_tree.specs.Walks.{to_come}
use Rattle.image_info.specs.Tallies.{is_among}
use Rattle.image_info.proofs.Counted.{HoldsNumbers, holds_none, holds_more, started, fewer_than, has_room, counts_more}
use Rattle.image_info.proofs.Counted.{all_counted}
use Rattle.image_info.proofs.tally.count_names.Goals as goal

pub loop-node-init : goal.loop-node-init
loop-node-init g c =
    let m : Image = g.T.Viewed.image c.args.image.now in
    record {
      walk = c.new-walk.ensures.walk m c.requires.depth;
      ks = [];
      holds = holds_none c.new-met.result c.new-met.ensures.empty;
      counts = started (to_come m c.new-walk.result) (names m.tree) (c.new-walk.ensures.all m) c.requires.few;
    }

pub counted-tally-requires-clause-few : goal.counted-tally-requires-clause-few
counted-tally-requires-clause-few g c =
    let n = c.in-Some.ensures.given in
    fewer_than c.loop-node.invariant.counts n.name (to_come (g.T.Viewed.image c.args.image.now) c.next.new.self) n.first

pub counted-tally-requires-clause-room : goal.counted-tally-requires-clause-room
counted-tally-requires-clause-room g c =
    let n = c.in-Some.ensures.given in
    let s = c.stat-stat.type_inv in
    has_room c.loop-node.invariant.counts n.name
    (to_come (g.T.Viewed.image c.args.image.now) c.next.new.self) n.first c.stat-stat.result.size (omega (arith, s))

pub loop-node-preserved : goal.loop-node-preserved
loop-node-preserved g c =
    let m : Image = g.T.Viewed.image c.args.image.now in
    let i = c.loop-node.invariant in
    let n = c.in-Some.ensures.given in
    let e : c.stat-stat.result ≡ stat_of n.name.node = c.stat-stat.ensures n.name.node n.node in
    let number : c.stat-stat.result.ino ≡ ino_of n.name.node = ap (λ (s : Stat). s.ino) e in
    let s = c.stat-stat.type_inv in
    let fresh : c.in_ok-fresh.fresh ≡ not (is_among i.ks (ino_of n.name.node)) =
    c.in_ok-fresh.ensures.added ∙ (ap not (i.holds c.stat-stat.result.ino)
    ∙ ap (λ (v : ℕ). not (is_among i.ks v)) number) in
    let k = c.counted-tally.ensures in
    record {
      walk = c.in-Some.ensures.walk;
      ks = ino_of n.name.node ∷ i.ks;
      holds =
          subst (λ (v : ℕ). HoldsNumbers (v ∷ i.ks) c.insert.new.self) number
          (holds_more i.ks c.stat-stat.result.ino c.loop-node.met c.insert.new.self i.holds
          c.in_ok-fresh.ensures.updates);
      counts =
          counts_more i.counts n.name (to_come m c.next.new.self) n.first c.stat-stat.result c.in_ok-fresh.fresh
          c.counted-tally.result e (omega (arith, s)) fresh
          k.files k.directories k.links k.others k.contents;
    }

pub returns : goal.returns
returns g c =
    let m : Image = g.T.Viewed.image c.args.image.now in
    let i = c.loop-node.invariant in
    all_counted i.ks c.loop-node.tally (to_come m c.loop-node.walk)
    (names m.tree) i.counts c.in_default.ensures.given.before
