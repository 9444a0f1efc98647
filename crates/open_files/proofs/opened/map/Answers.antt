use Rattle.std.proofs.Common.{◌<◌, ap, arith, length}
use Rattle.rom_tree.specs.Tree.{places_of}
use Rattle.open_files.specs.Machine.{map_within}
use Rattle.open_files.proofs.Following.{map_none, map_past, map_apart, map_whole}
use Rattle.open_files.proofs.OneNode.{node_here, size_here, front_end, refuses_directory, answers_file}
use Rattle.open_files.proofs.opened.map.Goals as goal

pub returns-then-is_directory_at : goal.returns-then-is_directory_at
returns-then-is_directory_at g c = λ o j e.
    let m = g.T.Viewed.image c.args.image.now in
    refuses_directory m c.args.opened o e c.is_directory_at.ensures c.if-is_directory_at.true
    (map_within j m.bytes o.position (places_of o.place) c.args.off c.args.len)

pub returns-then-len-eq0 : goal.returns-then-len-eq0
returns-then-len-eq0 g c = λ o j e.
    let m = g.T.Viewed.image c.args.image.now in
    answers_file m c.args.opened o e c.is_directory_at.ensures c.if-is_directory_at.false
    (map_none j m.bytes o.position (places_of o.place) c.args.off c.args.len c.if-len-eq0.true)

pub returns-then-off-size : goal.returns-then-off-size
returns-then-off-size g c = λ o j e.
    let m = g.T.Viewed.image c.args.image.now in
    let size = size_here m c.args.opened o e c.from-size.ensures
    (c.stat.ensures o.place (node_here m c.args.opened o e)) in
    let some : 0 < c.args.len = omega (arith, c.if-len-eq0.false) in
    answers_file m c.args.opened o e c.is_directory_at.ensures c.if-is_directory_at.false
    (map_past j m.bytes o.position (places_of o.place) c.args.off c.args.len some (omega (arith, size)))

pub returns-then-len-size : goal.returns-then-len-size
returns-then-len-size g c = λ o j e.
    let m = g.T.Viewed.image c.args.image.now in
    let size = size_here m c.args.opened o e c.from-size.ensures
    (c.stat.ensures o.place (node_here m c.args.opened o e)) in
    let some : 0 < c.args.len = omega (arith, c.if-len-eq0.false) in
    answers_file m c.args.opened o e c.is_directory_at.ensures c.if-is_directory_at.false
    (map_past j m.bytes o.position (places_of o.place) c.args.off c.args.len some (omega (arith, size)))

pub returns-then-run-len : goal.returns-then-run-len
returns-then-run-len g c = λ o j e.
    let m = g.T.Viewed.image c.args.image.now in
    let here = node_here m c.args.opened o e in
    let size = size_here m c.args.opened o e c.from-size.ensures (c.stat.ensures o.place here) in
    let some : 0 < c.args.len = omega (arith, c.if-len-eq0.false) in
    answers_file m c.args.opened o e c.is_directory_at.ensures c.if-is_directory_at.false
    (map_apart j m.bytes o.position (places_of o.place) c.args.off c.args.len c.longest_run-place.result.0
    c.longest_run-place.result.1 (c.longest_run-place.ensures o.place here) c.if-run-len.true some
    (omega (arith, size)))

pub bytes_at-requires : goal.bytes_at-requires
bytes_at-requires g c =
    let m = g.T.Viewed.image c.args.image.now in
    let o = c.requires.0 in
    let run = c.longest_run-place.ensures o.place (node_here m c.args.opened o c.requires.1) in
    let fits = run.fits in
    omega (arith, fits, front_end m c.args.opened o c.requires.1 run, ap length c.bytes-bytes.ensures)

pub returns : goal.returns
returns g c = λ o j e.
    let m = g.T.Viewed.image c.args.image.now in
    let here = node_here m c.args.opened o e in
    let size = size_here m c.args.opened o e c.from-size.ensures (c.stat.ensures o.place here) in
    let some : 0 < c.args.len = omega (arith, c.if-len-eq0.false) in
    let run = c.longest_run-place.ensures o.place here in
    answers_file m c.args.opened o e c.is_directory_at.ensures c.if-is_directory_at.false
    (map_whole j m.bytes o.position (places_of o.place) c.args.off c.args.len c.longest_run-place.result.0
    c.longest_run-place.result.1 c.bytes-bytes.result.now c.bytes_at.result.now run c.if-run-len.false some
    (omega (arith, size)) (front_end m c.args.opened o e run) c.bytes-bytes.ensures c.bytes_at.ensures)
