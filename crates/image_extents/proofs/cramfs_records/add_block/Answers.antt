use Rattle.std.proofs.Common.{◌∙◌, ◌∷◌, [], ◌++◌, List, sym, ap}
use Rattle.image_extents.specs.declared.extent.Extent.{Extent}
use Rattle.image_extents.specs.Found.{with_block}
use Rattle.image_extents.proofs.Blocks.{block_joined, block_apart}
use Rattle.image_extents.proofs.cramfs_records.add_block.Goals as goal

pub returns-then-is_joined : goal.returns-then-is_joined
returns-then-is_joined c =
    c.in_ok-push-2.ensures.items
    ∙ sym (block_joined c.args.joined c.pop.new.self.items c.in-Some.last c.args.block
    (sym c.is_joined.ensures ∙ c.if-is_joined.true))
    ∙ ap (λ (v : List Extent). with_block c.args.joined v c.args.block) (sym c.in-Some.ensures.items)

pub returns : goal.returns
returns c =
    c.in_ok-push-4.ensures.items
    ∙ ap (λ (v : List Extent). v ++ c.args.block ∷ []) c.in_ok-push-3.ensures.items
    ∙ sym (block_apart c.args.joined c.pop.new.self.items c.in-Some.last c.args.block
    (sym c.is_joined.ensures ∙ c.if-is_joined.false))
    ∙ ap (λ (v : List Extent). with_block c.args.joined v c.args.block) (sym c.in-Some.ensures.items)
