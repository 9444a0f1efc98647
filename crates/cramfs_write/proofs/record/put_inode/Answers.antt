use Rattle.std.proofs.Common.{arith, rules}
use Rattle.cramfs_write.proofs.record.put_inode.Goals as goal

pub returns-clause-end : goal.returns-clause-end
returns-clause-end c =
    let a = c.put_words-at.ensures.end in
    let b = c.put-at.ensures.end in
    let z = c.put_zeros.ensures.end in
    omega arith

pub returns-clause-put : goal.returns-clause-put
returns-clause-put c = let z = c.put_zeros.ensures.put in search rules
