use Rattle.std.proofs.Common.{◌≡◌, ◌∷◌, [], ◌++◌, List, None, refl, sym, ap, ◌∙◌, subst}
use Rattle.rom_tree.specs.Image.{Image, HasDirectory}
use Rattle.rom_tree.specs.Frames.{AreFrames, pending}
use Rattle.rom_tree.specs.declared.frame.Frame.{Frame}
use Rattle.rom_tree.proofs.Named.{root_node, has_node, has_directory}
use Rattle.rom_tree.proofs.Stacks.{one, root_frame, root_names, leaf_names}
use Rattle.rom_tree.proofs.Walks.{root_given}
use Rattle.rom_tree.proofs.frame.Walk.begin.Goals as goal

pub is_directory_at-self-requires : goal.is_directory_at-self-requires
is_directory_at-self-requires g c κs = let m : Image =
    g.T.Viewed.image c.args.image.now in
    ((refl, tt), has_node m c.root-root.result.0 m.tree (root_node m c.root-root.result.0 c.root-root.ensures))

pub returns-then-self-clause-walk : goal.returns-then-self-clause-walk
returns-then-self-clause-walk g c =
    let m : Image = g.T.Viewed.image c.args.image.now in
    let f : Frame = record { directory = c.root-root.result; cursor = record { 0 = 0 }; name = None } in
    let x = root_node m c.root-root.result.0 c.root-root.ensures in
    let fresh = c.requires.walk.fresh c.requires.fresh in
    let s : c.push.new.self.items ≡ [] ++ f ∷ [] =
    c.push.ensures.items ∙ ap (λ (v : List Frame). v ++ f ∷ []) fresh.0 in
    let d : HasDirectory m c.root-root.result.0 =
    has_directory m c.root-root.result.0 m.tree x
    (sym (c.is_directory_at-self.ensures m.tree x) ∙ c.if-self.true) in
    let P : List Frame → Type 0 = λ v. AreFrames m 0 v in
    record {
      depth = c.requires.walk.depth;
      frames = subst P (sym s) (root_frame m f x refl d c.requires.walk.depth);
      fresh = λ e. absurd cc;
    }

pub returns-then-self-clause-given : goal.returns-then-self-clause-given
returns-then-self-clause-given g c =
    let m : Image = g.T.Viewed.image c.args.image.now in
    let f : Frame = record { directory = c.root-root.result; cursor = record { 0 = 0 }; name = None } in
    let x = root_node m c.root-root.result.0 c.root-root.ensures in
    let fresh = c.requires.walk.fresh c.requires.fresh in
    let s : c.push.new.self.items ≡ [] ++ f ∷ [] =
    c.push.ensures.items ∙ ap (λ (v : List Frame). v ++ f ∷ []) fresh.0 in
    root_given m c.args.self.now _ c.root-root.result.0 c.requires.fresh refl fresh.1 x
    (ap (λ (v : List Frame). one (47 ∷ []) [] m.tree ++ pending m [] v) s ∙ root_names m f x refl refl)

pub returns-else-self-clause-given : goal.returns-else-self-clause-given
returns-else-self-clause-given g c =
    let m : Image = g.T.Viewed.image c.args.image.now in
    let x = root_node m c.root-root.result.0 c.root-root.ensures in
    let fresh = c.requires.walk.fresh c.requires.fresh in
    root_given m c.args.self.now _ c.root-root.result.0 c.requires.fresh refl fresh.1 x
    (ap (λ (v : List Frame). one (47 ∷ []) [] m.tree ++ pending m [] v) fresh.0
    ∙ leaf_names m (sym c.if-self.false ∙ c.is_directory_at-self.ensures m.tree x))
