use Rattle.std.proofs.Common.{refl, ◌+◌, length, take}
use Rattle.rom_tree.specs.Tree.{places_of}
use Rattle.open_files.proofs.Copies.{read_within, read_gives, copied_rest}
use Rattle.open_files.proofs.OneNode.{node_here, refuses_directory, moves_file}
use Rattle.open_files.proofs.opened.read.Goals as goal

pub returns-then-is_directory_at-clause-moves : goal.returns-then-is_directory_at-clause-moves
returns-then-is_directory_at-clause-moves g c = λ o e.
    let m = g.T.Viewed.image c.args.image.now in (
      refuses_directory m c.args.opened.now o e c.is_directory_at.ensures c.if-is_directory_at.true
          (read_within m.bytes (places_of o.place) o.position (length c.args.buf.now)),
      refl,
    )

pub returns-clause-moves : goal.returns-clause-moves
returns-clause-moves g c = λ o e.
    let m = g.T.Viewed.image c.args.image.now in
    let start = c.args.opened.now.position in
    let count = c.copy_bytes-count.result in
    let copied = c.copy_bytes-count.ensures in
    let here = node_here m c.args.opened.now o e in
    moves_file m c.args.opened.now o e c.is_directory_at.ensures c.if-is_directory_at.false
    (λ p. read_within m.bytes (places_of o.place) p (length c.args.buf.now))
    (take count c.copy_bytes-count.new.buf) (start + count)
    (read_gives m.bytes (places_of o.place) c.args.buf.now c.copy_bytes-count.new.buf start (length c.args.buf.now)
    count (copied.count o.place here) (copied.bytes o.place here))

pub returns-clause-rest : goal.returns-clause-rest
returns-clause-rest g c =
    let m = g.T.Viewed.image c.args.image.now in
    let x = c.requires.0.place in
    let here = node_here m c.args.opened.now c.requires.0 c.requires.1 in
    copied_rest m.bytes (places_of x) c.args.buf.now c.copy_bytes-count.new.buf c.args.opened.now.position
    (length c.args.buf.now) c.copy_bytes-count.result (c.copy_bytes-count.ensures.count x here)
    (c.copy_bytes-count.ensures.bytes x here)
