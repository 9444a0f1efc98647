use Rattle.std.proofs.Common.{◌∙◌, ℕ, List, subst, sym}
use Rattle.rom_fields.specs.Written.{Puts, sink}
use Rattle.rom_fields.proofs.Joins.{puts_nothing}
use Rattle.image_extents.specs.declared.extent.Extent.{Extent}
use Rattle.image_extents.specs.declared.extent.Kind.TheVariants.{Super}
use Rattle.image_extents.proofs.Texts.{run_many, run_none, run_one}
use Rattle.image_extents.proofs.lines.put_run.Goals as goal

abbrev none : Extent
none = record { kind = Super; start = 0; len = 0; offset = 0; owner = 0 }

pub returns-then-is_empty : goal.returns-then-is_empty
returns-then-is_empty g c =
    let P : List ℕ → Type 0 = λ v. Puts (sink (g.W.ByteWrite.output c.args.w.now) c.args.failed.now)
    (sink (g.W.ByteWrite.output c.args.w.now) c.args.failed.now) v in
    subst P (run_none c.args.base c.args.found.now c.args.at c.args.run.now
    (sym c.is_empty.ensures ∙ c.if-is_empty.true))
    (puts_nothing (sink (g.W.ByteWrite.output c.args.w.now) c.args.failed.now))

pub returns-then-have_owner : goal.returns-then-have_owner
returns-then-have_owner g c =
    let P : List ℕ → Type 0 = λ v. Puts (sink (g.W.ByteWrite.output c.args.w.now) c.args.failed.now)
    (sink (g.W.ByteWrite.output c.put_by.new.w) c.put_by.new.failed) v in
    subst P (run_one c.args.base c.args.found.now c.args.at c.args.run.now none
    (sym c.is_empty.ensures ∙ c.if-is_empty.false) (sym c.have_owner.ensures ∙ c.if-have_owner.true)) c.put_by.ensures

pub returns-else-have_owner : goal.returns-else-have_owner
returns-else-have_owner g c =
    let P : List ℕ → Type 0 = λ v. Puts (sink (g.W.ByteWrite.output c.args.w.now) c.args.failed.now)
    (sink (g.W.ByteWrite.output c.put_each.new.w) c.put_each.new.failed) v in
    subst P (run_many c.args.base c.args.found.now c.args.at c.args.run.now none
    (sym c.is_empty.ensures ∙ c.if-is_empty.false) (sym c.have_owner.ensures ∙ c.if-have_owner.false))
    c.put_each.ensures
