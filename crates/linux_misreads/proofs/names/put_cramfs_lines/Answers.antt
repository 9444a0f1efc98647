use Rattle.linux_misreads.proofs.Printed.{prints_chain}
use Rattle.linux_misreads.proofs.names.put_cramfs_lines.Goals as goal

pub returns : goal.returns
returns g c =
    prints_chain c.put_line.ensures (prints_chain c.put_line-2.ensures
    (prints_chain c.put_line-3.ensures (prints_chain c.put_line-4.ensures
    (prints_chain c.put_line-5.ensures c.put_line-6.ensures))))
