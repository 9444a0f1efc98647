use Rattle.std.proofs.Common.{arith, ◌<◌, ◌/◌}
use Rattle.cramfs_format.proofs.Trees.{known, named}
use Rattle.cramfs_format.proofs.Contents.{file_size, byte_within, made_link}
use Rattle.cramfs_image.proofs.Calls.{run_is, no_run, run_block, run_whole, pointer_within, pointer_is}
use Rattle.cramfs_image.proofs.image.CramfsTreeImage.run.Goals as goal

pub file_len-size-requires : goal.file_len-size-requires
file_len-size-requires c = (known c.args.self.now.sound c.args.n.0 c.requires).header

pub returns-then-off-from-clause-row : goal.returns-then-off-from-clause-row
returns-then-off-from-clause-row c =
    λ x e. no_run c.args.self.now.accessible.order c.args.self.now.accessible.bytes.now c.args.self.now.references
    c.args.n.0 c.args.off c.file_len-size.result x (named c.args.self.now.sound c.args.n.0 x e).0
    (let f = c.from.ensures in let l = c.if-off-from.true in omega arith) c.file_len-size.ensures

pub offset_at-table-requires : goal.offset_at-table-requires
offset_at-table-requires c = (known c.args.self.now.sound c.args.n.0 c.requires).header

pub word-pointer-requires : goal.word-pointer-requires
word-pointer-requires c =
    let b = c.args.self.now.accessible.bytes.now in
    let small : c.args.off < file_size c.args.self.now.accessible.order b c.args.n.0 =
    let e = c.file_len-size.ensures in omega arith in
    let w = pointer_within c.args.self.now.accessible.order b c.args.n.0 c.args.off
    (known c.args.self.now.sound c.args.n.0 c.requires).body small in
    let t = c.offset_at-table.ensures.offset in
    omega arith

pub overflow_add-place : goal.overflow_add-place
overflow_add-place c =
    let b = c.args.self.now.accessible.bytes.now in
    let small : c.args.off < file_size c.args.self.now.accessible.order b c.args.n.0 =
    let e = c.file_len-size.ensures in omega arith in
    let start = pointer_is c.args.self.now.accessible.order b c.args.n.0
    (c.args.off / 4096) c.offset_at-table.result c.word-pointer.result c.start_of.result
    c.offset_at-table.ensures.offset c.word-pointer.ensures c.start_of.ensures in
    let w = byte_within c.args.self.now.accessible.order b c.args.n.0 c.args.off
    (known c.args.self.now.sound c.args.n.0 c.requires).body small in
    let s = c.args.self.now.sound.small in
    omega arith

pub returns-clause-row : goal.returns-clause-row
returns-clause-row c =
    let b = c.args.self.now.accessible.bytes.now in
    let start = pointer_is c.args.self.now.accessible.order b c.args.n.0
    (c.args.off / 4096) c.offset_at-table.result c.word-pointer.result c.start_of.result
    c.offset_at-table.ensures.offset c.word-pointer.ensures c.start_of.ensures in
    λ x e. run_is c.args.self.now.accessible.order b c.args.self.now.references c.args.n.0 c.args.off
    c.file_len-size.result c.start_of.result c.min-len.result x (named c.args.self.now.sound c.args.n.0 x e).0
    (let f = c.from.ensures in let l = c.if-off-from.false in omega arith) c.file_len-size.ensures start
    c.min-len.ensures

pub returns-clause-whole : goal.returns-clause-whole
returns-clause-whole c =
    let b = c.args.self.now.accessible.bytes.now in
    let k = known c.args.self.now.sound c.args.n.0 c.requires in
    λ x e l z.
    let m = (named c.args.self.now.sound c.args.n.0 x e).0 in
    run_whole c.args.self.now.accessible.order b c.args.self.now.references c.args.n.0 c.args.off c.file_len-size.result
    c.min-len.result x m k.body (made_link c.args.self.now.accessible.order b c.args.self.now.references c.args.n.0
    (rw (← m) l)) z c.file_len-size.ensures c.min-len.ensures

pub returns-clause-block : goal.returns-clause-block
returns-clause-block c = λ x e. run_block c.args.self.now.accessible.order c.args.self.now.accessible.bytes.now
    c.args.self.now.references c.args.n.0 c.args.off c.file_len-size.result c.min-len.result x
    (named c.args.self.now.sound c.args.n.0 x e).0 c.file_len-size.ensures c.min-len.ensures
