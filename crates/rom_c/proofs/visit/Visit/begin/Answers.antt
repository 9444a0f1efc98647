use Rattle.std.proofs.Common.{◌≡◌, ◌∷◌, [], ◌++◌, List, refl, sym, ap, ◌∙◌}
use Rattle.rom_tree.specs.Image.{Image}
use Rattle.rom_tree.proofs.Named.{root_node, has_node, has_directory}
use Rattle.image_check.specs.Any.{any_view}
use Rattle.rom_c.specs.declared.visit.Place.{Place}
use Rattle.rom_c.proofs.Visits.{entered, root_visited, root_left, leaf_left, root_places}
use Rattle.rom_c.proofs.visit.Visit.begin.Goals as goal

pub is_directory_at-requires : goal.is_directory_at-requires
is_directory_at-requires c κs =
    let m : Image = any_view c.args.image.now in
    ((refl, tt), has_node m c.root-root.result.0 m.tree (root_node m c.root-root.result.0 c.root-root.ensures))

pub returns-then-is_directory_at-clause-visit : goal.returns-then-is_directory_at-clause-visit
returns-then-is_directory_at-clause-visit c =
    let m : Image = any_view c.args.image.now in
    let n = c.root-root.result in
    let x = root_node m n.0 c.root-root.ensures in
    let s : c.push.new.self.items ≡ [] ++ entered n ∷ [] =
    c.push.ensures.items ∙ ap (λ (v : List Place). v ++ entered n ∷ []) (c.requires.visit.fresh c.requires.fresh) in
    record {
      depth = c.requires.visit.depth;
      places = root_places m n c.push.new.self.items x
          (has_directory m n.0 m.tree x (sym (c.is_directory_at.ensures m.tree x) ∙ c.if-is_directory_at.true))
          c.requires.visit.depth s;
      fresh = λ e. absurd cc;
    }

pub returns-then-is_directory_at-clause-given : goal.returns-then-is_directory_at-clause-given
returns-then-is_directory_at-clause-given c =
    let m : Image = any_view c.args.image.now in
    let n = c.root-root.result in
    let x = root_node m n.0 c.root-root.ensures in
    let s : c.push.new.self.items ≡ [] ++ entered n ∷ [] =
    c.push.ensures.items ∙ ap (λ (v : List Place). v ++ entered n ∷ []) (c.requires.visit.fresh c.requires.fresh) in
    root_visited m c.args.self.now _ n.0 c.requires.fresh refl x (root_left m n c.push.new.self.items x s)

pub returns-else-is_directory_at-clause-given : goal.returns-else-is_directory_at-clause-given
returns-else-is_directory_at-clause-given c =
    let m : Image = any_view c.args.image.now in
    let n = c.root-root.result in
    let x = root_node m n.0 c.root-root.ensures in
    root_visited m c.args.self.now _ n.0 c.requires.fresh refl x
    (leaf_left m _ (c.requires.visit.fresh c.requires.fresh)
    (sym c.if-is_directory_at.false ∙ c.is_directory_at.ensures m.tree x))
