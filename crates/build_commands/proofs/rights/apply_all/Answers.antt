use Rattle.std.proofs.Common.{◌≡◌, ap, refl, ◌∙◌, rules}
use Rattle.build_commands.specs.Noting.{applied, noted}
use Rattle.build_commands.proofs.Attributed.{applying_now, item_is}
use Rattle.build_commands.proofs.rights.apply_all.Goals as goal

pub loop-index-preserved : goal.loop-index-preserved
loop-index-preserved c =
    let known : c.copied-noted.result ≡ noted c.args.notes.now c.key_of.result =
    c.copied-noted.ensures ∙ c.get.ensures.value
    in
    applying_now c.args.notes.now c.args.found.now c.loop-index.found _ c.loop-index.index c.index-found-index.result
    c.apply.new.file c.copied-noted.result c.key_of.result (search rules) c.index-found-index.is known
    (search rules) (c.apply.ensures ∙ ap (applied c.copied-noted.result)
    (item_is c.loop-index.found c.loop-index.index _ c.index-found-index.result (search rules) c.index-found-index.is))
    refl c.loop-index.invariant
