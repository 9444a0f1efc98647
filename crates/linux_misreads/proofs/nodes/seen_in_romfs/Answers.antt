use Rattle.std.proofs.Common.{◌≡◌, ◌+◌, ◌/◌, ◌%◌, ◌∙◌, ap, sym, ℕ, List, length, arith}
use Rattle.rom_fields.specs.Words.{word_be}
use Rattle.rom_tree.specs.Tree.{ino_of}
use Rattle.rom_tree.proofs.Named.{node_number}
use Rattle.romfs_format.proofs.Trees.{known}
use Rattle.linux_misreads.specs.Tables.{romfs_view}
use Rattle.linux_misreads.specs.Readers.{device_number, romfs_device}
use Rattle.linux_misreads.specs.Seen.{seen_of}
use Rattle.linux_misreads.proofs.nodes.seen_in_romfs.Goals as goal

pub word-spec-requires : goal.word-spec-requires
word-spec-requires c =
    let h = (known c.args.image.now.sound c.args.n.0 c.requires).sound.header in
    let w = c.args.image.now.within in
    let e : length c.bytes.result.now ≡ length c.args.image.now.all.now = ap length c.bytes.ensures in
    omega (arith, h, w, e)

pub returns : goal.returns
returns c = λ x e.
    let n : c.args.n.0 ≡ ino_of x = sym (node_number (romfs_view c.args.image.now) c.args.n.0 x e) in
    let w : c.word-spec.result ≡ word_be c.args.image.now.all.now (ino_of x + 4) =
    c.word-spec.ensures ∙ (ap (λ (v : List ℕ). word_be v (c.args.n.0 + 4)) c.bytes.ensures
    ∙ ap (λ (v : ℕ). word_be c.args.image.now.all.now (v + 4)) n) in
    let p : c.device_number.result ≡ romfs_device c.args.image.now.all.now (ino_of x) =
    c.device_number.ensures ∙ ap (λ (v : ℕ). device_number (v / 65536) (v % 65536)) w in
    c.seen_at.ensures x e ∙ ap (λ (v : ℕ). seen_of v x) p
