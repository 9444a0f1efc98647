use Rattle.std.proofs.Common.{refl, Ok}
use Rattle.open_files.proofs.OneNode.{refuses_directory, moves_file}
use Rattle.open_files.proofs.opened.seek.Goals as goal

pub returns-then-is_directory_at : goal.returns-then-is_directory_at
returns-then-is_directory_at g c = λ o e. (
  refuses_directory (g.T.Viewed.image c.args.image.now) c.args.opened.now o e c.is_directory_at.ensures
      c.if-is_directory_at.true (Ok (tt, c.args.position)),
  refl,
)

pub returns : goal.returns
returns g c = λ o e.
    moves_file (g.T.Viewed.image c.args.image.now) c.args.opened.now o e c.is_directory_at.ensures
    c.if-is_directory_at.false (λ p. Ok (tt, c.args.position)) tt c.args.position refl
