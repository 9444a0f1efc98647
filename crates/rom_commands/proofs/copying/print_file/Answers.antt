use Rattle.rom_fields.specs.Written.{Output, output_of}
use Rattle.rom_commands.proofs.Copies.{reported}
use Rattle.rom_commands.proofs.copying.print_file.Goals as goal

pub returns-clause-ends : goal.returns-clause-ends
returns-clause-ends g c =
    let old : Output =
    output_of (g.X.Write.contents c.args.out.now.inner) c.args.out.now.failures c.args.out.now.flushes in
    let mid : Output =
    output_of (g.X.Write.contents c.copy-ending.new.w.inner) c.copy-ending.new.w.failures c.copy-ending.new.w.flushes in
    let new : Output =
    output_of (g.X.Write.contents c.closed.new.out.inner) c.closed.new.out.failures c.closed.new.out.flushes in
    (reported c.args.bytes.now c.args.path.now old mid new (g.E.ByteWrite.output c.args.err.now)
    (g.E.ByteWrite.output c.closed.new.err) c.closed.result c.requires c.closed.ensures.kept c.copy-ending.result
    c.copy-ending.ensures c.closed.ensures.ends).ends

pub returns-clause-handed : goal.returns-clause-handed
returns-clause-handed g c =
    let old : Output =
    output_of (g.X.Write.contents c.args.out.now.inner) c.args.out.now.failures c.args.out.now.flushes in
    let mid : Output =
    output_of (g.X.Write.contents c.copy-ending.new.w.inner) c.copy-ending.new.w.failures c.copy-ending.new.w.flushes in
    let new : Output =
    output_of (g.X.Write.contents c.closed.new.out.inner) c.closed.new.out.failures c.closed.new.out.flushes in
    (reported c.args.bytes.now c.args.path.now old mid new (g.E.ByteWrite.output c.args.err.now)
    (g.E.ByteWrite.output c.closed.new.err) c.closed.result c.requires c.closed.ensures.kept c.copy-ending.result
    c.copy-ending.ensures c.closed.ensures.ends).handed

pub returns-clause-said : goal.returns-clause-said
returns-clause-said g c =
    let old : Output =
    output_of (g.X.Write.contents c.args.out.now.inner) c.args.out.now.failures c.args.out.now.flushes in
    let mid : Output =
    output_of (g.X.Write.contents c.copy-ending.new.w.inner) c.copy-ending.new.w.failures c.copy-ending.new.w.flushes in
    let new : Output =
    output_of (g.X.Write.contents c.closed.new.out.inner) c.closed.new.out.failures c.closed.new.out.flushes in
    (reported c.args.bytes.now c.args.path.now old mid new (g.E.ByteWrite.output c.args.err.now)
    (g.E.ByteWrite.output c.closed.new.err) c.closed.result c.requires c.closed.ensures.kept c.copy-ending.result
    c.copy-ending.ensures c.closed.ensures.ends).said
