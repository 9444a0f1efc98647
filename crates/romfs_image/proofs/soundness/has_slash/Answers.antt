use Rattle.std.proofs.Common.{◌≡◌, ℕ, Bool, List, rules}
use Rattle.std.specs.Prelude.{◌↔◌, IsTrue, nat_eq}
use Rattle.std.specs.List.{Contains, IsAnyAnswer}
use Rattle.romfs_image.proofs.soundness.has_slash.Goals as goal

slash : (name : List ℕ) (r : Bool) → IsAnyAnswer (λ y b. nat_eq y 47 ≡ b) name r → IsTrue r ↔ Contains name 47
slash name r h = search rules

pub returns : goal.returns
returns c = slash c.args.name.now c.contains.result c.contains.ensures.cases
