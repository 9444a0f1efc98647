use Rattle.image_compare.proofs.Due.{lines_due}
use Rattle.image_compare.proofs.Merged.{all_held, lines_at, merged, paths_rise, sorted_rise, told}
use Rattle.image_compare.specs.Paths.{at_path}
use Rattle.image_compare.proofs.laws.lines_are_due.Goals as goal

pub returns : goal.returns
returns c = λ places a b s t xs ys h k own other.
    let r = sorted_rise s xs h own in
    let q = sorted_rise t ys k other in
    let m = merged places a b xs ys r q in
    record {
      paths = m.0;
      rise = paths_rise places a b m.1 r q;
      all = all_held places a b xs ys m.0 _ m.1;
      lines = lines_at places a b xs ys;
      is = told places a b m.1 r q;
      each = λ path. lines_due places a b path (at_path xs path) (at_path ys path);
    }
