use Rattle.std.proofs.Common.{◌≡◌, ◌∙◌, List, subst, sym, false}
use Rattle.rom_fields.specs.Texts.{escaped}
use Rattle.rom_fields.specs.Written.{Puts, sink}
use Rattle.image_extents.specs.Listed.{path_of}
use Rattle.image_extents.specs.Lines.{is_super}
use Rattle.image_extents.specs.declared.extent.Record.{Record}
use Rattle.image_extents.proofs.lines.put_owner.Goals as goal

pub returns-else-is_super : goal.returns-else-is_super
returns-else-is_super g c =
    let P : List Record → Type 0 = λ v. Puts (sink (g.W.ByteWrite.output c.args.w.now) c.args.failed.now)
    (sink (g.W.ByteWrite.output c.put_path.new.w) c.put_path.new.failed)
    (escaped (path_of c.args.found.now.bytes.now v c.args.x.owner)) in
    let e : is_super c.args.x.kind ≡ false = sym c.is_super.ensures ∙ c.if-is_super.false in
    rw e (subst P c.deref.ensures.value c.put_path.ensures)
