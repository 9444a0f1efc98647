use Rattle.std.proofs.Common.{◌≡◌, ℕ, List, [], arith}
use Rattle.std.proofs.lemmas.Grind.{common_steps}
use Rattle.record_forest.specs.declared.listed.ListedName.{ListedName}
use Rattle.record_forest.specs.Listed.{AreNames}
use Rattle.romfs_format.specs.Record.{name_of}
use Rattle.romfs_image.proofs.names.names_of.Goals as goal

none_named : (name : ℕ → List ℕ) (xs : List ListedName) → xs ≡ [] → AreNames name [] xs
none_named name xs e = grind (arith, common_steps)

pub loop-index-init : goal.loop-index-init
loop-index-init c = none_named (name_of c.args.b.now.bytes.now) c.new-names.result.items c.new-names.ensures.items

pub loop-index-preserved : goal.loop-index-preserved
loop-index-preserved c = grind (arith, common_steps)
