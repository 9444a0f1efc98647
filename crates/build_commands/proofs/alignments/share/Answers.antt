use Rattle.std.proofs.Common.{ap, ◌∙◌, refl, rules}
use Rattle.build_commands.specs.Alignments.{shared_by}
use Rattle.build_commands.proofs.Attributed.{item_is}
use Rattle.build_commands.proofs.Mapped.{mapping_all, mapping_more}
use Rattle.build_commands.proofs.alignments.share.Goals as goal

pub loop-index-preserved : goal.loop-index-preserved
loop-index-preserved c =
    let item = c.index-found-index.result in
    let same = item_is c.loop-index.found c.loop-index.index _ item (search rules) c.index-found-index.is in
    mapping_more (λ j. shared_by c.args.largest.now) c.args.found.now c.loop-index.found _ c.loop-index.index item
    c.share_one.new.file (search rules) c.index-found-index.is refl
    (c.share_one.ensures ∙ ap (shared_by c.args.largest.now) same) c.loop-index.invariant

pub returns : goal.returns
returns c =
    mapping_all (shared_by c.args.largest.now) c.args.found.now c.loop-index.found c.loop-index.index (search rules)
    c.loop-index.invariant
