use Rattle.image_manifest.proofs.Fit.{by_paths}
use Rattle.image_manifest.proofs.laws.described_whole.Goals as goal

pub returns : goal.returns
returns c = λ m volume rules v f h.
    let t = c.lines_are_taken.ensures m volume rules h f in record {
      read = c.lines_are_read_back.ensures m volume rules v t;
      means = c.means_its_tree.ensures m volume rules t (by_paths m h);
      sources = c.sources_are_files.ensures m volume rules;
    }
