use Rattle.cramfs_format.specs.Inode.{block_count}
use Rattle.cramfs_write.proofs.Puts.{table_filled}
use Rattle.cramfs_write.proofs.form.fill_table.Goals as goal

pub returns : goal.returns
returns c =
    let i = c.args.item.now in
    let q = c.requires in
    table_filled c.args.order i.start (block_count i.len) c.args.from c.args.out.now c.put_pointers.new.out q.from_word
    q.words q.within c.put_pointers.ensures
