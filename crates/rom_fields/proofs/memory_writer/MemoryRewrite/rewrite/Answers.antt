use Rattle.std.proofs.Common.{arith}
use Rattle.rom_fields.proofs.Replaced.{rewrites_at}
use Rattle.rom_fields.proofs.memory_writer.MemoryRewrite.rewrite.Goals as goal

pub returns-clause-text : goal.returns-clause-text
returns-clause-text c =
    let n = c.len-len.ensures in
    let within = c.if-back-len.false in
    rewrites_at c.args.self.now.bytes.items c.put_at.new.self.bytes.items c.args.b.now _ c.args.back (omega arith)
    (omega arith) c.put_at.ensures.bytes
