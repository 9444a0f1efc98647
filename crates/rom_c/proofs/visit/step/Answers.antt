use Rattle.std.proofs.Common.{◌≡◌, refl, sym, ap, ◌∙◌, subst, ◌∷◌, [], ◌++◌, List, length, lit<, ◌<◌, true}
use Rattle.arrayvec.specs.ArrayVec.{ArrayVec}
use Rattle.rom_tree.specs.Tree.{is_directory}
use Rattle.rom_tree.specs.Image.{Image}
use Rattle.rom_tree.specs.declared.types.NodeId.{NodeId}
use Rattle.rom_tree.proofs.Named.{has_node}
use Rattle.image_check.specs.Any.{any_view}
use Rattle.rom_c.specs.declared.visit.Place.{Place}
use Rattle.rom_c.proofs.Visits.{moved, entered, last_place, placed, Turn, turn, ends, yields_leaf, yields_entered}
use Rattle.rom_c.proofs.visit.step.Goals as goal
use Rattle.rom_c.proofs.visit.step.Goals.{then-is_directory_at, else-is_directory_at}

-- two pushes in a row
two : (a b c : List Place) (p q : Place) → a ≡ b ++ q ∷ [] → b ≡ c ++ p ∷ [] → a ≡ (c ++ p ∷ []) ++ q ∷ []
two a b c p q e f = e ∙ ap (λ (v : List Place). v ++ q ∷ []) f

pub entry-requires : goal.entry-requires
entry-requires c =
    let m : Image = any_view c.args.image.now in
    let i = last_place m c.args.stack.now.items c.pop.new.self.items c.in-Some.place c.in-Some.ensures.items
    c.requires.places in
    record { directory = i.directory; cursor = i.cursor }

pub push-requires : goal.push-requires
push-requires c =
    let m : Image = any_view c.args.image.now in
    let t = placed m c.args.stack.now.items c.pop.new.self.items c.in-Some.place c.in-Some.ensures.items
    c.requires.places in
    (lit< tt, t)

pub returns-in_default-entry : goal.returns-in_default-entry
returns-in_default-entry c =
    let m : Image = any_view c.args.image.now in
    ends m c.args.stack.now.items c.pop.new.self.items c.in-Some.place c.in-Some.ensures.items c.requires.places
    c.in_default-entry.ensures

pub is_directory_at-requires : goal.is_directory_at-requires
is_directory_at-requires c κs =
    let m : Image = any_view c.args.image.now in
    let n : NodeId = c.in-Some-entry.entry.node in
    let t = turn m c.args.stack.now.items c.pop.new.self.items c.in-Some.place c.in-Some-entry.entry.name.now n
    c.in-Some-entry.entry.cursor c.in-Some.ensures.items c.requires.places c.in-Some-entry.ensures in
    ((refl, tt), has_node m n.0 t.target t.node)

pub push-requires-then-is_directory_at : goal.push-requires-then-is_directory_at
push-requires-then-is_directory_at c =
    let m : Image = any_view c.args.image.now in
    let n : NodeId = c.in-Some-entry.entry.node in
    let t = turn m c.args.stack.now.items c.pop.new.self.items c.in-Some.place c.in-Some-entry.entry.name.now n
    c.in-Some-entry.entry.cursor c.in-Some.ensures.items c.requires.places c.in-Some-entry.ensures in
    let directory : is_directory t.target ≡ true =
    sym (c.is_directory_at.ensures t.target t.node) ∙ c.if-is_directory_at.true in
    let P : List Place → Type 0 = λ v. length v < 65 in
    (lit< tt, subst P (sym c.push.ensures.items) (t.deeper directory))

pub returns : goal.returns
returns c =
    let m : Image = any_view c.args.image.now in
    let all : List Place = c.args.stack.now.items in
    let ps : List Place = c.pop.new.self.items in
    let n : NodeId = c.in-Some-entry.entry.node in
    let p : Place = moved c.in-Some.place c.in-Some-entry.entry.cursor in
    let t : Turn m all ps p n = turn m all ps c.in-Some.place c.in-Some-entry.entry.name.now n
    c.in-Some-entry.entry.cursor c.in-Some.ensures.items c.requires.places c.in-Some-entry.ensures in
    let is : c.is_directory_at.result ≡ is_directory t.target = c.is_directory_at.ensures t.target t.node in
    elim c.if-is_directory_at.branch [
      | then-is_directory_at w ↦
          let pushed : c.if-is_directory_at.stack.items ≡ (ps ++ p ∷ []) ++ entered n ∷ [] =
          two c.if-is_directory_at.stack.items c.push.new.self.items ps p (entered n)
          (ap (λ (v : ArrayVec Place). v.items) w.stack-is
          ∙ w.push-then-is_directory_at.ensures.items) c.push.ensures.items in
          yields_entered m all ps c.if-is_directory_at.stack.items p n t pushed (sym is ∙ w.if-is_directory_at.true)
      | else-is_directory_at w ↦
          let pushed : c.if-is_directory_at.stack.items ≡ ps ++ p ∷ [] =
          ap (λ (v : ArrayVec Place). v.items) w.stack-is ∙ c.push.ensures.items in
          yields_leaf m all ps c.if-is_directory_at.stack.items p n t pushed (sym w.if-is_directory_at.false ∙ is)
    ]
