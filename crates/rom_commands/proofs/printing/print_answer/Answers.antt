use Rattle.std.proofs.Common.{Bool, subst}
use Rattle.rom_fields.specs.Written.{Output, output_of}
use Rattle.rom_commands.specs.Answers.{Closes, has_text}
use Rattle.rom_commands.proofs.Printed.{reported}
use Rattle.rom_commands.proofs.printing.print_answer.Goals as goal

pub returns-clause-ends : goal.returns-clause-ends
returns-clause-ends g c bytes a =
    let old : Output =
    output_of (g.X.Write.contents c.args.out.now.inner) c.args.out.now.failures c.args.out.now.flushes in
    let mid : Output =
    output_of (g.X.Write.contents c.show_answer-ending.new.w.inner) c.show_answer-ending.new.w.failures
    c.show_answer-ending.new.w.flushes in
    let new : Output =
    output_of (g.X.Write.contents c.closed.new.out.inner) c.closed.new.out.failures c.closed.new.out.flushes in
    let err : Output = g.E.ByteWrite.output c.args.err.now in
    let err' : Output = g.E.ByteWrite.output c.closed.new.err in
    let P : Bool → Type 0 = λ b. Closes (has_text c.show_answer-ending.result b) mid new err err'
    c.show_answer-ending.result c.closed.result in
    (reported bytes c.args.asked old mid new err err' c.closed.result c.requires.fresh c.closed.ensures.kept
    c.show_answer-ending.result (c.show_answer-ending.ensures bytes a)
    (subst P c.takes_fault.ensures c.closed.ensures.ends)).ends

pub returns-clause-handed : goal.returns-clause-handed
returns-clause-handed g c bytes a =
    let old : Output =
    output_of (g.X.Write.contents c.args.out.now.inner) c.args.out.now.failures c.args.out.now.flushes in
    let mid : Output =
    output_of (g.X.Write.contents c.show_answer-ending.new.w.inner) c.show_answer-ending.new.w.failures
    c.show_answer-ending.new.w.flushes in
    let new : Output =
    output_of (g.X.Write.contents c.closed.new.out.inner) c.closed.new.out.failures c.closed.new.out.flushes in
    let err : Output = g.E.ByteWrite.output c.args.err.now in
    let err' : Output = g.E.ByteWrite.output c.closed.new.err in
    let P : Bool → Type 0 = λ b. Closes (has_text c.show_answer-ending.result b) mid new err err'
    c.show_answer-ending.result c.closed.result in
    (reported bytes c.args.asked old mid new err err' c.closed.result c.requires.fresh c.closed.ensures.kept
    c.show_answer-ending.result (c.show_answer-ending.ensures bytes a)
    (subst P c.takes_fault.ensures c.closed.ensures.ends)).handed

pub returns-clause-said : goal.returns-clause-said
returns-clause-said g c bytes a =
    let old : Output =
    output_of (g.X.Write.contents c.args.out.now.inner) c.args.out.now.failures c.args.out.now.flushes in
    let mid : Output =
    output_of (g.X.Write.contents c.show_answer-ending.new.w.inner) c.show_answer-ending.new.w.failures
    c.show_answer-ending.new.w.flushes in
    let new : Output =
    output_of (g.X.Write.contents c.closed.new.out.inner) c.closed.new.out.failures c.closed.new.out.flushes in
    let err : Output = g.E.ByteWrite.output c.args.err.now in
    let err' : Output = g.E.ByteWrite.output c.closed.new.err in
    let P : Bool → Type 0 = λ b. Closes (has_text c.show_answer-ending.result b) mid new err err'
    c.show_answer-ending.result c.closed.result in
    (reported bytes c.args.asked old mid new err err' c.closed.result c.requires.fresh c.closed.ensures.kept
    c.show_answer-ending.result (c.show_answer-ending.ensures bytes a)
    (subst P c.takes_fault.ensures c.closed.ensures.ends)).said
