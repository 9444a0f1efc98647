use Rattle.std.proofs.Common.{refl, ◌+◌, ap, arith, rules, length}
use Rattle.rom_tree.specs.Tree.{places_of}
use Rattle.open_files.specs.Lending.{lent_of}
use Rattle.open_files.proofs.Following.{lend_within, lend_gives}
use Rattle.open_files.proofs.OneNode.{node_here, front_end, refuses_directory, moves_file}
use Rattle.open_files.proofs.opened.lend.Goals as goal

pub returns-then-is_directory_at : goal.returns-then-is_directory_at
returns-then-is_directory_at g c = λ o j e.
    let m = g.T.Viewed.image c.args.image.now in (
      refuses_directory m c.args.opened.now o e c.is_directory_at.ensures c.if-is_directory_at.true
          (lend_within j m.bytes (places_of o.place) o.position c.args.max),
      refl,
    )

pub overflow_add-opened : goal.overflow_add-opened
overflow_add-opened g c =
    let here = node_here (g.T.Viewed.image c.args.image.now) c.args.opened.now c.requires.0 c.requires.1 in
    let run = c.longest_run-place.ensures c.requires.0.place here in
    let small = run.small in
    search rules

pub bytes_at-requires : goal.bytes_at-requires
bytes_at-requires g c =
    let m = g.T.Viewed.image c.args.image.now in
    let run = c.longest_run-place.ensures c.requires.0.place (node_here m c.args.opened.now c.requires.0 c.requires.1)
    in
    omega (arith, front_end m c.args.opened.now c.requires.0 c.requires.1 run, ap length c.bytes-bytes.ensures)

pub returns : goal.returns
returns g c = λ o j e.
    let m = g.T.Viewed.image c.args.image.now in
    let start = c.args.opened.now.position in
    let place = c.longest_run-place.result.0 in
    let len = c.longest_run-place.result.1 in
    let run = c.longest_run-place.ensures o.place (node_here m c.args.opened.now o e) in
    moves_file m c.args.opened.now o e c.is_directory_at.ensures c.if-is_directory_at.false
    (λ p. lend_within j m.bytes (places_of o.place) p c.args.max)
    (j, lent_of place c.bytes_at.result.now) (start + len)
    (lend_gives (places_of o.place) start c.args.max j m.bytes c.bytes-bytes.result.now c.bytes_at.result.now place len
    run (front_end m c.args.opened.now o e run) c.bytes-bytes.ensures c.bytes_at.ensures)
