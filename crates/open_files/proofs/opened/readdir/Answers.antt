use Rattle.std.proofs.Common.{◌+◌, Some, None, refl, ap}
use Rattle.rom_tree.specs.Tree.{entries_of, entry_at}
use Rattle.open_files.specs.Machine.{named, next_entry}
use Rattle.open_files.proofs.OneNode.{node_here, refuses_file, moves_directory, index_here, entry_asks, entry_gives}
use Rattle.open_files.proofs.opened.readdir.Goals as goal

pub returns-then-not-is_directory_at-clause-moves : goal.returns-then-not-is_directory_at-clause-moves
returns-then-not-is_directory_at-clause-moves g c = λ o j e. (
  refuses_file (g.T.Viewed.image c.args.image.now) c.args.opened.now o e c.is_directory_at.ensures
      c.if-not-is_directory_at.true (next_entry j o.position (entry_at (entries_of o.place) o.position)),
  refl,
)

pub entry-requires : goal.entry-requires
entry-requires g c κs = (
  (refl, tt),
  entry_asks (g.T.Viewed.image c.args.image.now) c.args.opened.now c.requires.0 c.requires.1 c.is_directory_at.ensures
      c.if-not-is_directory_at.false,
)

pub returns-in_default-clause-moves : goal.returns-in_default-clause-moves
returns-in_default-clause-moves g c = λ o j e.
    let m = g.T.Viewed.image c.args.image.now in
    let index = index_here m c.args.opened.now o e c.is_directory_at.ensures c.if-not-is_directory_at.false in
    moves_directory m c.args.opened.now o e c.is_directory_at.ensures c.if-not-is_directory_at.false
    (next_entry j o.position (entry_at (entries_of o.place) o.position)) None c.args.opened.now.position o.position
    index
    (ap (next_entry j o.position) (c.in_default.ensures o.place o.position (node_here m c.args.opened.now o e) index))

pub returns-clause-moves : goal.returns-clause-moves
returns-clause-moves g c = λ o j e.
    let m = g.T.Viewed.image c.args.image.now in
    let entry = c.in-Some.ensures o.place o.position (node_here m c.args.opened.now o e)
    (index_here m c.args.opened.now o e c.is_directory_at.ensures c.if-not-is_directory_at.false) in
    moves_directory m c.args.opened.now o e c.is_directory_at.ensures c.if-not-is_directory_at.false
    (next_entry j o.position (entry_at (entries_of o.place) o.position))
    (Some (j, named c.in-Some.entry.name.now c.in-Some.entry.node.0)) c.in-Some.entry.cursor.0 (o.position + 1)
    entry.next (entry_gives entry j)

pub returns-clause-lies : goal.returns-clause-lies
returns-clause-lies g c =
    let m = g.T.Viewed.image c.args.image.now in
    let o = c.requires.0 in
    let entry = c.in-Some.ensures o.place o.position (node_here m c.args.opened.now o c.requires.1)
    (index_here m c.args.opened.now o c.requires.1 c.is_directory_at.ensures c.if-not-is_directory_at.false) in
    entry.lies

pub returns-clause-cursor : goal.returns-clause-cursor
returns-clause-cursor g c = refl
