use Rattle.std.proofs.Common.{◌∙◌, sym}
use Rattle.image_extents.specs.declared.extent.Extent.{Extent}
use Rattle.image_extents.specs.declared.extent.Kind.TheVariants.{Super}
use Rattle.image_extents.proofs.Texts.{owner_more, owner_end}
use Rattle.image_extents.proofs.lines.have_owner.Goals as goal

abbrev none : Extent
none = record { kind = Super; start = 0; len = 0; offset = 0; owner = 0 }

pub loop-x-preserved : goal.loop-x-preserved
loop-x-preserved c =
    owner_more c.args.owner c.args.run.now c.loop-x.x-index none c.loop-x-test.true c.if-x-owner.false
    ∙ c.loop-x.invariant

pub returns : goal.returns
returns c = sym (owner_end c.args.owner c.args.run.now c.loop-x.x-index c.loop-x-test.false) ∙ c.loop-x.invariant
