use Rattle.std.proofs.Common.{arith, ◌+◌, ◌<◌, ◌≤◌, length}
use Rattle.romfs_format.specs.Record.{end_of}
use Rattle.romfs_format.proofs.Trees.{known, named}
use Rattle.romfs_image.proofs.Calls.{run_is, no_run, run_whole, run_rest, file_size_is}
use Rattle.romfs_format.proofs.Contents.{file_fits}
use Rattle.romfs_image.proofs.image.RomfsTreeImage.run.Goals as goal

pub word-t-requires : goal.word-t-requires
word-t-requires c = let h = (known c.args.self.now.sound c.args.n.0 c.requires).sound.header in omega arith

pub word-requires : goal.word-requires
word-requires c = let h = (known c.args.self.now.sound c.args.n.0 c.requires).sound.header in omega arith

pub returns-then-off-from-clause-row : goal.returns-then-off-from-clause-row
returns-then-off-from-clause-row c =
    let z = file_size_is c.args.self.now.accessible.bytes.now c.args.n.0 _ _ c.file_at-size.result c.word-t.ensures
    c.word.ensures c.file_at-size.ensures in
    let q : c.file_at-size.result ≤ c.args.off = omega arith in
    λ x e. no_run c.args.self.now.accessible.bytes.now c.args.self.now.accessible.root c.args.self.now.references
    c.args.n.0 c.args.off _ x (named c.args.self.now.sound c.args.n.0 x e).0 q z

pub end_at-requires : goal.end_at-requires
end_at-requires c = (known c.args.self.now.sound c.args.n.0 c.requires).sound

pub overflow_add-place : goal.overflow_add-place
overflow_add-place c =
    let z = file_size_is c.args.self.now.accessible.bytes.now c.args.n.0 _ _ c.file_at-size.result c.word-t.ensures
    c.word.ensures c.file_at-size.ensures in
    let f = file_fits c.args.self.now.accessible.bytes.now c.args.self.now.accessible.root c.args.n.0
    (known c.args.self.now.sound c.args.n.0 c.requires).sound in
    let g : end_of c.args.self.now.accessible.bytes.now c.args.n.0 + c.file_at-size.result
    ≤ length c.args.self.now.accessible.bytes.now = rw z f in
    let s = c.args.self.now.sound.small in omega arith

pub returns-clause-row : goal.returns-clause-row
returns-clause-row c =
    let z = file_size_is c.args.self.now.accessible.bytes.now c.args.n.0 _ _ c.file_at-size.result c.word-t.ensures
    c.word.ensures c.file_at-size.ensures in
    let q : c.args.off < c.file_at-size.result = omega arith in
    λ x e. run_is c.args.self.now.accessible.bytes.now c.args.self.now.accessible.root c.args.self.now.references
    c.args.n.0 c.args.off _ _ x (named c.args.self.now.sound c.args.n.0 x e).0 q z c.end_at.ensures.value

pub returns-clause-whole : goal.returns-clause-whole
returns-clause-whole c =
    let z = file_size_is c.args.self.now.accessible.bytes.now c.args.n.0 _ _ c.file_at-size.result c.word-t.ensures
    c.word.ensures c.file_at-size.ensures in
    λ x e l o. run_whole c.args.self.now.accessible.bytes.now c.args.self.now.accessible.root c.args.self.now.references
    c.args.n.0 c.args.off _ x (named c.args.self.now.sound c.args.n.0 x e).0 o z

pub returns-clause-rest : goal.returns-clause-rest
returns-clause-rest c =
    let z = file_size_is c.args.self.now.accessible.bytes.now c.args.n.0 _ _ c.file_at-size.result c.word-t.ensures
    c.word.ensures c.file_at-size.ensures in
    λ x e. run_rest c.args.self.now.accessible.bytes.now c.args.self.now.accessible.root c.args.self.now.references
    c.args.n.0 c.args.off _ x (named c.args.self.now.sound c.args.n.0 x e).0 z
