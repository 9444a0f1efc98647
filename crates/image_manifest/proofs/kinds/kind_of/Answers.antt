use Rattle.std.proofs.Common.{true, IsSome, refl, sym, ap, subst, ◌∙◌}
use Rattle.rom_tree.specs.Image.{Image}
use Rattle.image_manifest.specs.ExtractedMembers.{members_in}
use Rattle.tree_extract.specs.Members.{kind_at}
use Rattle.image_manifest.proofs.Known.{kind_made, known, root_nothing}
use Rattle.image_manifest.proofs.kinds.kind_of.Goals as goal

pub returns-then-index-eq0 : goal.returns-then-index-eq0
returns-then-index-eq0 g c = λ giving.
    let m : Image = g.T.Viewed.image c.args.image.now in
    sym (ap (kind_at (members_in giving m)) c.if-index-eq0.true ∙ root_nothing giving m)

pub stat-requires : goal.stat-requires
stat-requires g c κs =
    let it = known (record { owners = true; masked = 0 }) (g.T.Viewed.image c.args.image.now) c.args.members.now
    c.args.index _ c.requires.are c.requires.within c.if-index-eq0.false in
    ((refl, tt), subst IsSome (sym it.at) refl)

pub returns : goal.returns
returns g c = λ giving.
    c.made_of.ensures ∙ kind_made giving (g.T.Viewed.image c.args.image.now) c.args.members.now c.args.index _
    c.stat.result c.requires.are c.requires.within c.if-index-eq0.false c.stat.ensures
