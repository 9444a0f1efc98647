use Rattle.std.proofs.Common.{◌≡◌, ◌<◌, ℕ, List, sym, ap, subst, ◌∙◌}
use Rattle.std.proofs.lemmas.Bool.{false≢true}
use Rattle.cramfs_format.specs.declared.order.Order.{Order}
use Rattle.cramfs_format.specs.Inode.{size_of, block_count}
use Rattle.cramfs_image.proofs.Faults.{run_there, other_there, outside_there, more_there}
use Rattle.cramfs_image.proofs.soundness.pointer_fault.Goals as goal

within : (o : Order) (b : List ℕ) (p i size count : ℕ) → size ≡ size_of o b p → count ≡ block_count size → i < count
    → i < block_count (size_of o b p)
within o b p i size count e f l = subst (λ (n : ℕ). i < n) (f ∙ ap block_count e) l

pub loop-i-init : goal.loop-i-init
loop-i-init c = run_there c.args.b.now.order c.args.b.now.bytes.now c.args.at c.offset_at-table.result
    c.whole_pointers-whole.result c.offset_at-table.ensures.offset c.whole_pointers-whole.ensures.whole

pub returns-then-not-is_plain-clause-least : goal.returns-then-not-is_plain-clause-least
returns-then-not-is_plain-clause-least c =
    other_there c.args.b.now.order c.args.b.now.bytes.now c.args.at c.loop-i.i
    (sym c.has_contents.ensures ∙ c.if-not-has_contents.false) (c.table_lies.ensures.0 c.if-not-table_lies.false)
    (let n = c.blocks_of-i-end.ensures in let s = c.size_at-size.ensures.size in let l = c.loop-i-test.true in within
    c.args.b.now.order c.args.b.now.bytes.now c.args.at c.loop-i.i c.size_at-size.result _ s n l) c.loop-i.invariant
    c.offset_at-table.result c.word-pointer.result c.offset_at-table.ensures.offset c.word-pointer.ensures
    (λ h. false≢true (sym c.if-not-is_plain.true ∙ c.is_plain.ensures.1 h))

pub returns-then-not-lies-clause-least : goal.returns-then-not-lies-clause-least
returns-then-not-lies-clause-least c =
    outside_there c.args.b.now.order c.args.b.now.bytes.now c.args.at c.loop-i.i
    (sym c.has_contents.ensures ∙ c.if-not-has_contents.false) (c.table_lies.ensures.0 c.if-not-table_lies.false)
    (let n = c.blocks_of-i-end.ensures in let s = c.size_at-size.ensures.size in let l = c.loop-i-test.true in within
    c.args.b.now.order c.args.b.now.bytes.now c.args.at c.loop-i.i c.size_at-size.result _ s n l) c.loop-i.invariant
    c.offset_at-table.result c.word-pointer.result c.size_at-size.result c.start_of-start.result c.len_of_block.result
    c.offset_at-table.ensures.offset c.word-pointer.ensures c.size_at-size.ensures.size c.start_of-start.ensures
    c.len_of_block.ensures
    (c.is_plain.ensures.0 c.if-not-is_plain.false) (λ h. false≢true (sym c.if-not-lies.true ∙ c.lies.ensures.1 h))

pub loop-i-preserved : goal.loop-i-preserved
loop-i-preserved c = more_there c.args.b.now.order c.args.b.now.bytes.now c.args.at c.loop-i.i
    c.offset_at-table.result c.word-pointer.result c.size_at-size.result c.start_of-start.result c.len_of_block.result
    c.loop-i.invariant c.offset_at-table.ensures.offset c.word-pointer.ensures c.size_at-size.ensures.size
    c.start_of-start.ensures c.len_of_block.ensures
    (c.is_plain.ensures.0 c.if-not-is_plain.false) (c.lies.ensures.0 c.if-not-lies.false)
