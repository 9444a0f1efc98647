-- `seed_of`: the state of SipHash-1-3 with which hashes begin. `behind`: that state after the
-- paths of some lines, which seeds the hashes of paths. (This project's own.)
use Rattle.std.specs.Prelude.{List}
use Rattle.std.specs.List.{fold}
use Rattle.std.specs.Hash.DefaultHasher.{initial, write}
use Rattle.std.specs.declared.hash.DefaultHasher.{DefaultHasher}
use Rattle.manifest.specs.declared.line.Line.{Line}
use Rattle.manifest.specs.declared.seeded.Seeded.{Seeded}

-- the state with which each hash begins
abbrev pub seed_of : Seeded → DefaultHasher
seed_of s = s.begun

-- the state of the hash after the paths of these lines
abbrev pub behind : List Line → DefaultHasher
behind lines = fold (λ s l. write s l.path) initial lines
