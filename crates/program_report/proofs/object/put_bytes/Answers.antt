use Rattle.std.proofs.Common.{ℕ, List, subst}
use Rattle.rom_fields.specs.Texts.{escaped}
use Rattle.rom_fields.specs.Written.{Puts, sink}
use Rattle.rom_fields.proofs.Joins.{puts_nothing}
use Rattle.rom_tree.specs.Image.{Image}
use Rattle.rom_tree.specs.Tree.{places_of}
use Rattle.rom_tree.specs.Walks.{given_path}
use Rattle.rom_tree.proofs.Named.{node_by}
use Rattle.image_check.specs.Any.{any_view}
use Rattle.program_report.proofs.Objects.{object_none, object_some, run_begins}
use Rattle.program_report.proofs.object.put_bytes.Goals as goal

pub put_object-requires-clause-within : goal.put_object-requires-clause-within
put_object-requires-clause-within g c =
    let m : Image = any_view c.args.image.now in
    let h = node_by m c.args.n.0 c.requires.node in
    run_begins m c.args.n.0 h.0 c.in-Some.run' h.1 (c.in-Some.ensures.row h.0 h.1)

pub returns-in-Some : goal.returns-in-Some
returns-in-Some g c = λ x e.
    let P : List ℕ → Type 0 = λ v. Puts (sink (g.W.ByteWrite.output c.args.w.now) c.args.failed.now)
    (sink (g.W.ByteWrite.output c.put_object.new.w) c.put_object.new.failed) v in
    subst P
    (object_some c.args.image.now c.args.question.now (escaped (given_path c.args.walk.now)) (places_of x)
    c.in-Some.run' (c.in-Some.ensures.row x e)) c.put_object.ensures

pub returns-in_default : goal.returns-in_default
returns-in_default g c = λ x e.
    let s = sink (g.W.ByteWrite.output c.args.w.now) c.args.failed.now in
    let P : List ℕ → Type 0 = λ v. Puts s s v in
    subst P
    (object_none c.args.image.now c.args.question.now (escaped (given_path c.args.walk.now)) (places_of x)
    (c.in_default.ensures.row x e)) (puts_nothing s)
