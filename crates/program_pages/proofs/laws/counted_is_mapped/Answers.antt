use Rattle.std.proofs.Common.{length}
use Rattle.rom_tree.specs.Tree.{ino_of, places_of}
use Rattle.program_pages.proofs.Linux.{all_mapped}
use Rattle.program_pages.proofs.laws.counted_is_mapped.Goals as goal

pub returns : goal.returns
returns c = λ o bytes rest most deepest start t x f b h n tree small e a i r run.
    all_mapped o f (ino_of x) start (length (places_of x))
    (λ m. c.run_is_mapped.ensures o bytes rest most deepest start t x f m tree small e a i r run) b h n
