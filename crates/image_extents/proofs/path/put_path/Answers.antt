use Rattle.std.proofs.Common.{◌∙◌, ℕ, List, ap, sym, subst}
use Rattle.rom_fields.specs.Texts.{escaped}
use Rattle.rom_fields.specs.Written.{Puts, sink}
use Rattle.rom_tree.proofs.Paths.{escaped_slash}
use Rattle.image_extents.proofs.Texts.{path_slash, path_below}
use Rattle.image_extents.proofs.path.put_path.Goals as goal

pub returns-then-number-eq0 : goal.returns-then-number-eq0
returns-then-number-eq0 g c =
    let P : List ℕ → Type 0 = λ v. Puts (sink (g.W.ByteWrite.output c.args.w.now) c.args.failed.now)
    (sink (g.W.ByteWrite.output c.put.new.w) c.put.new.failed) v in
    subst P (sym (ap escaped (path_slash c.args.bytes.now c.args.records.now c.args.number c.if-number-eq0.true)
    ∙ escaped_slash)) c.put.ensures

pub returns-else-number-eq0 : goal.returns-else-number-eq0
returns-else-number-eq0 g c =
    let P : List ℕ → Type 0 = λ v. Puts (sink (g.W.ByteWrite.output c.args.w.now) c.args.failed.now)
    (sink (g.W.ByteWrite.output c.put_names.new.w) c.put_names.new.failed) v in
    subst P (sym (ap escaped (path_below c.args.bytes.now c.args.records.now c.args.number c.if-number-eq0.false)))
    c.put_names.ensures
