use Rattle.std.proofs.Common.{refl, Ok}
use Rattle.open_files.proofs.OneNode.{refuses_file, moves_directory}
use Rattle.open_files.proofs.opened.rewind.Goals as goal

pub returns-then-not-is_directory_at : goal.returns-then-not-is_directory_at
returns-then-not-is_directory_at g c = λ o e. (
  refuses_file (g.T.Viewed.image c.args.image.now) c.args.opened.now o e c.is_directory_at.ensures
      c.if-not-is_directory_at.true (Ok (tt, 0)),
  refl,
)

pub returns : goal.returns
returns g c = λ o e.
    let m = g.T.Viewed.image c.args.image.now in
    moves_directory m c.args.opened.now o e c.is_directory_at.ensures c.if-not-is_directory_at.false
    (Ok (tt, 0)) tt 0 0 (m.starts c.args.opened.now.node.0) refl
