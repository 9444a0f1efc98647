use Rattle.std.proofs.Common.{arith, ap, ◌≡◌}
use Rattle.rom_tree.specs.Tree.{entry_count}
use Rattle.image_check.specs.Any.{any_view}
use Rattle.rom_c.specs.Directories.{entries_after}
use Rattle.rom_c.proofs.Entries.{is_next, is_last, one_less}
use Rattle.rom_c.proofs.directories.count_from.Goals as goal

pub overflow_add-count : goal.overflow_add-count
overflow_add-count c =
    let m = any_view c.args.image.now in
    let i = c.loop-entry.invariant in
    let e = c.in-Some.entry in
    let n = is_next m c.args.directory.0 c.loop-entry.at.0 e c.requires.directory i.cursor c.in-Some.ensures in
    let l = one_less m c.args.directory.0 c.loop-entry.at.0 e n in
    let s = i.count in
    let f = c.requires.few in
    omega (arith, l, s, f)

pub loop-entry-smaller : goal.loop-entry-smaller
loop-entry-smaller c =
    let m = any_view c.args.image.now in
    let i = c.loop-entry.invariant in
    let e = c.in-Some.entry in
    let n = is_next m c.args.directory.0 c.loop-entry.at.0 e c.requires.directory i.cursor c.in-Some.ensures in
    let l = one_less m c.args.directory.0 c.loop-entry.at.0 e n in
    omega (arith, l)

pub loop-entry-preserved : goal.loop-entry-preserved
loop-entry-preserved c =
    let m = any_view c.args.image.now in
    let i = c.loop-entry.invariant in
    let e = c.in-Some.entry in
    let n = is_next m c.args.directory.0 c.loop-entry.at.0 e c.requires.directory i.cursor c.in-Some.ensures in
    let l = one_less m c.args.directory.0 c.loop-entry.at.0 e n in
    let s = i.count in
    record { cursor = n.cursor; count = omega (arith, l, s) }

pub returns : goal.returns
returns c =
    let m = any_view c.args.image.now in
    let i = c.loop-entry.invariant in
    let z = is_last m c.args.directory.0 c.loop-entry.at.0 c.requires.directory i.cursor c.in_default.ensures in
    let l : entry_count (entries_after m c.args.directory.0 c.loop-entry.at.0) ≡ 0 = ap entry_count z in
    let s = i.count in
    omega (arith, l, s)
