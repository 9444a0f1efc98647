use Rattle.std.proofs.Common.{ℕ, List, [], ◌≡◌, ◌<◌, ◌-◌, ◌∷◌, ◌++◌, Option, length, map, refl, ap, sym, subst, ◌∙◌}
use Rattle.std.proofs.Common.{arith}
use Rattle.std.specs.List.{list_any}
use Rattle.std.proofs.lemmas.Grind.{common_steps}
use Rattle.rom_tree.specs.Image.{Image}
use Rattle.rom_tree.specs.Names.{Name, names}
use Rattle.rom_tree.specs.Walks.{given_path, to_come}
use Rattle.rom_tree.proofs.Named.{node_number}
use Rattle.image_manifest.specs.declared.naming.Member.{Member}
use Rattle.image_manifest.specs.declared.naming.Open.{Open}
use Rattle.image_manifest.specs.Composed.{path_by, way_with, ways_of}
use Rattle.image_manifest.specs.Firsts.{noted}
use Rattle.image_manifest.specs.Members.{all_behind, is_long, members_of, known_of}
use Rattle.image_manifest.specs.Open.{AreOpen, AreToCome, parent_in}
use Rattle.image_manifest.proofs.Behind.{as_many, first_as, firsts_more, none_left, none_long, one_more, pushed}
use Rattle.image_manifest.proofs.Behind.{known_as}
use Rattle.image_manifest.proofs.Entering.{IsEntered, entered, many_ways, names_stand, paths_pushed, ways_pushed}
use Rattle.image_manifest.proofs.naming.members.Goals as goal
use Rattle.image_manifest.proofs.naming.members.Goals.{then-is_empty, else-is_empty}

pub loop-node-init : goal.loop-node-init
unfolding ways_of AreOpen
loop-node-init g c =
    let m : Image = g.T.Viewed.image c.args.image.now in
    record {
      walk = c.new-walk.ensures.walk m c.requires;
      done = [];
      rest = c.new-walk.ensures.all m;
      found = ap (map known_of) c.new-found.ensures.items;
      firsts = grind (arith, common_steps);
      short = refl;
      paths = ap (λ (v : List Member). map path_by (ways_of v)) c.new-found.ensures.items;
      ways = [];
      open_ways = subst (λ (v : List Open). AreOpen (ways_of c.new-found.result.items) v [])
          (sym c.new-on_way.ensures.items) tt;
      below = subst (λ (v : List Name). AreToCome [] v) (sym (c.new-walk.ensures.all m)) (names_stand m.tree);
    }

pub loop-node-preserved : goal.loop-node-preserved
loop-node-preserved g c =
    let m : Image = g.T.Viewed.image c.args.image.now in
    let i = c.loop-node.invariant in
    let n = c.in-Some.ensures.given in
    let node : ℕ = c.in-Some.node.0 in
    let x : Member = record {
      parent = c.close-parent.result;
      name = c.name-name.result;
      node = c.in-Some.node;
      first = c.first_noted-first.result;
    } in
    let is = sym (node_number m node n.name.node n.node) in
    let first = first_as n.name.node i.done node c.first_noted-first.result (noted c.loop-node.firsts node)
    (c.first_noted-first.ensures n.name.node n.node) (i.firsts node) is in
    let items = c.loop-node.found.items in
    let all : List (List ℕ) = ways_of items in
    let os : List Open = c.loop-node.on_way.items in
    let rest : List Name = to_come m c.next.new.self in
    let new : Open = record { index = c.len-index.result; len = c.if-is_empty.new } in
    let name : List ℕ = c.name-name.result.now in
    let k : ℕ = c.saturating_sub-in-Some.result in
    let last : name ≡ n.name.last = c.name-name.ensures ∙ n.last in
    let len : c.in_ok-len.len ≡ length n.name.path = c.in_ok-len.ensures.path ∙ ap length n.path in
    let above : k ≡ length n.name.path - length name - 1 =
    omega (arith, len, c.saturating_sub.ensures, c.saturating_sub-in-Some.ensures) in
    let index : new.index ≡ length all = c.len-index.ensures ∙ c.loop-node.found.ok.0 ∙ sym (many_ways items) in
    let none : length os ≡ 0 → new.len ≡ 0 = λ h.
    elim c.if-is_empty.branch [
      | then-is_empty w ↦ w.new-is
      | else-is_empty w ↦ absurd (grind (arith, common_steps))
    ] in
    let some : 0 < length os → new.len ≡ length n.name.path = λ h.
    elim c.if-is_empty.branch [
      | then-is_empty w ↦ absurd (grind (arith, common_steps))
      | else-is_empty w ↦ w.new-is ∙ len
    ] in
    let E : List Open → Option ℕ → Type 0 = λ a b. IsEntered all a b name n.name rest in
    let raw = entered all os i.ways n.name rest k new name i.open_ways
    (subst (λ (v : List Name). AreToCome i.ways v) n.first i.below) last above index none some in
    let left = c.close-parent.ensures.left new ∙ sym c.in-Ok.ensures.items in
    let e : IsEntered all c.push.new.self.items c.close-parent.result name n.name rest =
    subst (λ (b : Option ℕ). E c.push.new.self.items b) (sym c.close-parent.ensures.parent)
    (subst (λ (a : List Open). E a (parent_in k os)) left raw) in
    let more = ways_pushed items c.push-in-Some.new.self.items x c.in-Ok-push.ensures.items in
    record {
      walk = c.in-Some.ensures.walk;
      done = i.done ++ n.name ∷ [];
      rest = one_more i.done (to_come m c.loop-node.walk) rest (names m.tree) n.name n.first i.rest;
      found = pushed items c.push-in-Some.new.self.items x i.done n.name c.in-Ok-push.ensures.items i.found
          (known_as x i.done n.name is first);
      firsts = λ number. firsts_more i.done n.name node c.len-index.result number (noted c.loop-node.firsts number)
          (noted c.note_first.new.firsts number)
          (c.in_ok-note_first.ensures.ok number) (i.firsts number) is
          (c.len-index.ensures ∙ c.loop-node.found.ok.0 ∙ as_many items i.done i.found);
      short = none_long i.done n.name (given_path c.next.new.self) n.path i.short c.in_ok-len.ensures.short;
      paths = paths_pushed all (ways_of c.push-in-Some.new.self.items)
          (way_with all x.parent x.name.now) i.done n.name more i.paths e.path;
      ways = e.ways;
      open_ways = subst (λ (v : List (List ℕ)). AreOpen v c.push.new.self.items e.ways) (sym more) e.are;
      below = e.below;
    }

pub returns-clause-known : goal.returns-clause-known
unfolding members_of
returns-clause-known g c =
    let m : Image = g.T.Viewed.image c.args.image.now in
    let i = c.loop-node.invariant in
    let whole = none_left i.done (to_come m c.loop-node.walk) (names m.tree) c.in_default.ensures.given.before i.rest in
    record {
      known = i.found ∙ ap (all_behind []) whole;
      paths = i.paths ∙ ap (λ (v : List Name). map (λ (n : Name). n.path) v) whole;
      short = ap (list_any is_long) (sym whole) ∙ i.short;
    }
