use Rattle.std.proofs.Common.{◌≡◌, ◌+◌, ◌-◌, ℕ, List, length, take, drop, get_or, ap, ◌∙◌, arith}
use Rattle.cramfs_write.specs.Form.{inode_bytes}
use Rattle.cramfs_write.proofs.form.fill_record.Goals as goal

pub returns : goal.returns
returns c =
    let xs = c.copy_from_slice.new.self in
    let words = c.args.item.now.words in
    let len = c.copy_from_slice.ensures.len in
    let same : (c.args.from + length c.args.out.now) - c.args.from ≡ length xs = omega arith in
    c.copy_from_slice.ensures.after ∙ ap
    (λ (k : ℕ). take k (drop c.args.from (take c.put_inode-end.result c.put_inode-end.new.out))) same
    ∙ ap (λ (v : List ℕ). take (length xs) (drop c.args.from v)) (c.put_inode-end.ensures.put
    ∙ ap (λ (v : List ℕ). inode_bytes c.args.order (get_or words 0 0) (get_or words 1 0)
    (get_or words 2 0) v) c.as_bytes.ensures)
