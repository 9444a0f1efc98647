use Rattle.std.proofs.Common.{◌∷◌, [], ◌++◌, subst}
use Rattle.manifest.specs.declared.line.Line.{Line}
use Rattle.manifest.specs.Printed.{line_text}
use Rattle.rom_fields.specs.Written.{Puts, sink}
use Rattle.rom_tree.specs.Image.{Image}
use Rattle.image_manifest.specs.Lines.{file_align}
use Rattle.image_manifest.proofs.Lined.{link_line, other_line}
use Rattle.image_manifest.proofs.line.put_node.Goals as goal

pub returns-in-Symlink : goal.returns-in-Symlink
returns-in-Symlink g c = λ x e.
    let m : Image = g.T.Viewed.image c.args.image.now in
    subst (λ (l : Line). Puts (sink (g.W.ByteWrite.output c.args.w.now) c.args.failed.now)
    (sink (g.W.ByteWrite.output c.put_other.new.w) c.put_other.new.failed) (line_text l ++ 10 ∷ []))
    (link_line m c.args.rules c.args.path.now c.link_text.result.now c.stat-stat.result x (c.stat-stat.ensures x e)
    c.in-Symlink.is (c.link_text.ensures x e))
    (c.put_other.ensures (file_align m c.args.rules x))

pub returns-in_default : goal.returns-in_default
returns-in_default g c = λ x e.
    let m : Image = g.T.Viewed.image c.args.image.now in
    subst (λ (l : Line). Puts (sink (g.W.ByteWrite.output c.args.w.now) c.args.failed.now)
    (sink (g.W.ByteWrite.output c.put_other-in_default.new.w) c.put_other-in_default.new.failed)
    (line_text l ++ 10 ∷ []))
    (other_line m c.args.rules c.args.path.now c.stat-stat.result x (c.stat-stat.ensures x e)
    c.in_default.not-Symlink c.in_default.not-Regular)
    (c.put_other-in_default.ensures (file_align m c.args.rules x))
