use Rattle.std.proofs.Common.{◌≡◌, Some, true, refl, sym, ◌∙◌}
use Rattle.std.specs.Prelude.{◌||◌}
use Rattle.rom_tree.specs.Tree.{is_directory, is_regular}
use Rattle.rom_tree.specs.Image.{Image}
use Rattle.open_files.specs.declared.slot.OpenNode.{OpenNode}
use Rattle.open_files.specs.Slots.{View, IsImage, stands}
use Rattle.open_files.proofs.Standing.{open_start}
use Rattle.open_files.proofs.Tables.{open_full, open_lowest, open_sound}
use Rattle.open_files.proofs.calls.open.Goals as goal

pub returns-in_default-clause-reply : goal.returns-in_default-clause-reply
returns-in_default-clause-reply g c = λ x e.
    let v : View g.I.Served.Place = g.I.Served.view c.args.images.now in
    let b : true ≡ (is_directory (v.names.node x) || is_regular (v.names.node x)) =
    sym c.if-not-is_openable.false ∙ c.is_openable.ensures (v.names.node x)
    (c.image.ensures.node c.args.node.0 x e) in
    open_full v c.args.slots.now.slots x (is_directory (v.names.node x) || is_regular (v.names.node x)) c.requires.sound
    (sym b) c.in_default.ensures.first

pub returns-clause-reply : goal.returns-clause-reply
returns-clause-reply g c = λ x e.
    let v : View g.I.Served.Place = g.I.Served.view c.args.images.now in
    let m : Image = g.T.Viewed.image c.image.result.now in
    let i : IsImage v c.args.image m = c.image.ensures in
    let b : true ≡ (is_directory (v.names.node x) || is_regular (v.names.node x)) =
    sym c.if-not-is_openable.false ∙ c.is_openable.ensures (v.names.node x) (i.node c.args.node.0 x e) in
    let s : OpenNode = record { image = c.args.image; node = c.args.node; position = 0 } in
    let k : stands v s ≡ Some (record { place = x; position = 0 }) = open_start v s x m i e b refl in
    open_lowest v c.args.slots.now.slots c.set.new.self.slots x
    (is_directory (v.names.node x) || is_regular (v.names.node x)) c.in-Some.i s c.requires.sound
    (sym b) c.in-Some.ensures.first c.set.ensures k

pub returns-clause-sound : goal.returns-clause-sound
returns-clause-sound g c =
    let v : View g.I.Served.Place = g.I.Served.view c.args.images.now in
    let m : Image = g.T.Viewed.image c.image.result.now in
    let i : IsImage v c.args.image m = c.image.ensures in
    let x = c.requires.place.0 in
    let e = c.requires.place.1 in
    let b : true ≡ (is_directory (v.names.node x) || is_regular (v.names.node x)) =
    sym c.if-not-is_openable.false ∙ c.is_openable.ensures (v.names.node x) (i.node c.args.node.0 x e) in
    let s : OpenNode = record { image = c.args.image; node = c.args.node; position = 0 } in
    let k : stands v s ≡ Some (record { place = x; position = 0 }) = open_start v s x m i e b refl in
    open_sound v c.args.slots.now.slots c.set.new.self.slots c.in-Some.i s
    (record { place = x; position = 0 }) c.set.ensures k c.requires.sound
