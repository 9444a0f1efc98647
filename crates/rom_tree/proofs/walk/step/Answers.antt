use Rattle.std.proofs.Common.{◌≡◌, refl, sym, ap, ◌∙◌, subst, ℕ, ◌∷◌, [], ◌++◌, List, Bool, length, lit<, ◌<◌, true}
use Rattle.std.specs.Borrow.{Bor}
use Rattle.arrayvec.specs.ArrayVec.{ArrayVec}
use Rattle.rom_tree.specs.Tree.{is_directory}
use Rattle.rom_tree.specs.Image.{Image}
use Rattle.rom_tree.specs.Frames.{IsFrame, Gives}
use Rattle.rom_tree.specs.declared.frame.Frame.{Frame}
use Rattle.rom_tree.specs.declared.types.NodeId.{NodeId}
use Rattle.rom_tree.proofs.Named.{has_node}
use Rattle.rom_tree.proofs.Stacks.{frame_fits, last_frame}
use Rattle.rom_tree.proofs.Turns.{moved, entered, Turn, turn, ends, gives_leaf, gives_entered}
use Rattle.rom_tree.proofs.walk.step.Goals as goal
use Rattle.rom_tree.proofs.walk.step.Goals.{then-entered, else-entered}

-- two pushes in a row
two : (a b c : List Frame) (f k : Frame) → a ≡ b ++ k ∷ [] → b ≡ c ++ f ∷ [] → a ≡ (c ++ f ∷ []) ++ k ∷ []
two a b c f k p q = p ∙ ap (λ (v : List Frame). v ++ k ∷ []) q

pub entry-requires : goal.entry-requires
entry-requires g c κs =
    let m : Image = g.T.Viewed.image c.args.image.now in
    let fs : List Frame = c.pop.new.self.items in
    let f : Frame = c.in-Some.frame in
    let i : IsFrame m (length fs) f =
    last_frame m c.args.stack.now.items fs f c.in-Some.ensures.items c.requires.frames in
    ((refl, tt), (i.directory, i.cursor))

pub push-requires : goal.push-requires
push-requires g c =
    let m : Image = g.T.Viewed.image c.args.image.now in
    let fs : List Frame = c.pop.new.self.items in
    let f : Frame = c.in-Some.frame in (
      lit< tt,
      frame_fits m (length fs) f
          (last_frame m c.args.stack.now.items fs f c.in-Some.ensures.items c.requires.frames),
    )

pub returns-in_default-entry : goal.returns-in_default-entry
returns-in_default-entry g c =
    let m : Image = g.T.Viewed.image c.args.image.now in
    ends m c.args.stack.now.items c.pop.new.self.items c.in-Some.frame c.in-Some.ensures.items c.requires.frames
    c.in_default-entry.ensures

pub is_directory_at-entered-requires : goal.is_directory_at-entered-requires
is_directory_at-entered-requires g c κs =
    let m : Image = g.T.Viewed.image c.args.image.now in
    let all : List Frame = c.args.stack.now.items in
    let fs : List Frame = c.pop.new.self.items in
    let f : Frame = c.in-Some.frame in
    let name : Bor (List ℕ) = c.in-Some-entry.entry.name in
    let n : NodeId = c.in-Some-entry.entry.node in
    let f' : Frame = moved f c.in-Some-entry.entry.cursor in
    let t : Turn m all fs f' name n = turn m all fs f name n c.in-Some-entry.entry.cursor c.in-Some.ensures.items
    c.requires.frames c.in-Some-entry.ensures in
    ((refl, tt), has_node m n.0 t.target t.node)

pub push-requires-then-entered : goal.push-requires-then-entered
push-requires-then-entered g c =
    let m : Image = g.T.Viewed.image c.args.image.now in
    let all : List Frame = c.args.stack.now.items in
    let fs : List Frame = c.pop.new.self.items in
    let f : Frame = c.in-Some.frame in
    let name : Bor (List ℕ) = c.in-Some-entry.entry.name in
    let n : NodeId = c.in-Some-entry.entry.node in
    let f' : Frame = moved f c.in-Some-entry.entry.cursor in
    let t : Turn m all fs f' name n = turn m all fs f name n c.in-Some-entry.entry.cursor c.in-Some.ensures.items
    c.requires.frames c.in-Some-entry.ensures in
    let directory : is_directory t.target ≡ true =
    sym (c.is_directory_at-entered.ensures t.target t.node) ∙ c.if-entered.true in
    let P : List Frame → Type 0 = λ v. length v < 65 in
    (lit< tt, subst P (sym c.push.ensures.items) (t.deeper directory))

pub returns : goal.returns
returns g c =
    let m : Image = g.T.Viewed.image c.args.image.now in
    let all : List Frame = c.args.stack.now.items in
    let fs : List Frame = c.pop.new.self.items in
    let f : Frame = c.in-Some.frame in
    let name : Bor (List ℕ) = c.in-Some-entry.entry.name in
    let n : NodeId = c.in-Some-entry.entry.node in
    let f' : Frame = moved f c.in-Some-entry.entry.cursor in
    let t : Turn m all fs f' name n = turn m all fs f name n c.in-Some-entry.entry.cursor c.in-Some.ensures.items
    c.requires.frames c.in-Some-entry.ensures in
    let is : c.is_directory_at-entered.result ≡ is_directory t.target =
    c.is_directory_at-entered.ensures t.target t.node in
    let P : Bool → Type 0 = λ v. Gives m all c.if-entered.stack.items name n.0 v in
    elim c.if-entered.branch [
      | then-entered w ↦
          let pushed : c.if-entered.stack.items ≡ (fs ++ f' ∷ []) ++ entered n name ∷ [] =
          two c.if-entered.stack.items c.push.new.self.items fs f' (entered n name)
          (ap (λ (v : ArrayVec Frame). v.items) w.stack-is
          ∙ w.push-then-entered.ensures.items) c.push.ensures.items in
          subst P (sym w.if-entered.true) (gives_entered m all fs c.if-entered.stack.items f' name n t pushed
          (sym is ∙ w.if-entered.true))
      | else-entered w ↦
          let pushed : c.if-entered.stack.items ≡ fs ++ f' ∷ [] =
          ap (λ (v : ArrayVec Frame). v.items) w.stack-is ∙ c.push.ensures.items in
          subst P (sym w.if-entered.false) (gives_leaf m all fs c.if-entered.stack.items f' name n t pushed
          (sym w.if-entered.false ∙ is))
    ]
