use Rattle.std.proofs.Common.{sym, subst, ℕ, ◌∷◌, [], Bool, refl, List}
use Rattle.std.specs.Prelude.{if◌then◌else◌}
use Rattle.rom_fields.specs.Texts.{escaped}
use Rattle.rom_fields.specs.Written.{Puts, Sink, sink}
use Rattle.rom_fields.proofs.Joins.{puts_nothing, chain}
use Rattle.rom_tree.specs.Image.{Image, contents_of}
use Rattle.rom_tree.proofs.Named.{node_by, has_link}
use Rattle.rom_tree.proofs.line.put_target.Goals as goal

pub link_text-requires : goal.link_text-requires
link_text-requires g c κs =
    let m : Image = g.T.Viewed.image c.args.image.now in
    let node = node_by m c.args.n.0 c.requires in
    ((refl, tt), has_link m c.args.n.0 node.0 node.1 (sym (c.if-is_link_at.ensures node.0 node.1)))

pub returns-then-is_link_at : goal.returns-then-is_link_at
returns-then-is_link_at g c = λ x e.
    let m : Image = g.T.Viewed.image c.args.image.now in
    let from : Sink = sink (g.W.ByteWrite.output c.args.w.now) c.args.failed.now in
    let to : Sink = sink (g.W.ByteWrite.output c.put_escaped.new.w) c.put_escaped.new.failed in
    let P : Bool → Type 0 = λ v. Puts from to (if v then 32 ∷ escaped (contents_of m.bytes x) else []) in
    let Q : List ℕ → Type 0 = λ v. Puts from to (32 ∷ escaped v) in
    subst P (c.if-is_link_at.ensures x e)
    (subst Q (c.link_text.ensures x e) (chain c.put.ensures c.put_escaped.ensures))

pub returns-else-is_link_at : goal.returns-else-is_link_at
returns-else-is_link_at g c = λ x e.
    let m : Image = g.T.Viewed.image c.args.image.now in
    let from : Sink = sink (g.W.ByteWrite.output c.args.w.now) c.args.failed.now in
    let P : Bool → Type 0 = λ v. Puts from from (if v then 32 ∷ escaped (contents_of m.bytes x) else []) in
    subst P (c.if-is_link_at.ensures x e) (puts_nothing from)
