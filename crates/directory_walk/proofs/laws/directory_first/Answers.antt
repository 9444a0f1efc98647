use Rattle.std.proofs.Common.{◌≡◌, ℕ, List, [], ◌∷◌, ◌++◌, refl, ◌∙◌, ap, rules}
use Rattle.std.specs.Cmp.Lexicographic.{slice_cmp}
use Rattle.std.specs.Ordering.{nat_cmp, ordering_then}
use Rattle.std.specs.declared.cmp.Ordering.{Ordering}
use Rattle.std.specs.declared.cmp.Ordering.TheVariants.{Less, Equal}
use Rattle.directory_walk.proofs.laws.directory_first.Goals as goal

same : (x : ℕ) → nat_cmp x x ≡ Equal
same x = search rules

less : (path name : List ℕ) → slice_cmp nat_cmp path (path ++ 47 ∷ name) ≡ Less
less [] name = refl
less (x ∷ path) name =
    ap (λ (o : Ordering). ordering_then o (slice_cmp nat_cmp path (path ++ 47 ∷ name))) (same x) ∙ less path name

pub returns : goal.returns
returns c = λ path name. less path name
