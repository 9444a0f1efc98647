use Rattle.std.proofs.Common.{◌≡◌, ◌∷◌, [], arith}
use Rattle.std.proofs.lemmas.Grind.{common_steps}
use Rattle.manifest.specs.Paths.{is_bad_name}
use Rattle.manifest.proofs.path.is_bad_name.Goals.{then-is_empty-via-then-is_empty}
use Rattle.manifest.proofs.path.is_bad_name.Goals.{then-is_empty-via-else-is_empty+then-eq}
use Rattle.manifest.proofs.path.is_bad_name.Goals.{then-is_empty-via-else-is_empty+else-eq+then-eq-2}
use Rattle.manifest.proofs.path.is_bad_name.Goals as goal

pub returns-then-is_empty : goal.returns-then-is_empty
unfolding is_bad_name
returns-then-is_empty c = elim c.then-is_empty.branch [
  | then-is_empty-via-then-is_empty w ↦ grind (arith, common_steps)
  | then-is_empty-via-else-is_empty+then-eq w ↦ let dot : w.as_slice.result.now ≡ 46 ∷ [] =
      w.as_slice.ensures in grind (arith, common_steps)
  | then-is_empty-via-else-is_empty+else-eq+then-eq-2 w ↦ grind (arith, common_steps)
]

pub returns : goal.returns
unfolding is_bad_name
returns c = let dot : c.as_slice.result.now ≡ 46 ∷ [] = c.as_slice.ensures in grind (arith, common_steps)
