use Rattle.std.proofs.Common.{◌≡◌, ℕ, Bool, List, take, rules}
use Rattle.std.specs.Prelude.{◌↔◌, IsTrue, nat_eq}
use Rattle.std.specs.Cmp.Lexicographic.{pointwise}
use Rattle.romfs_format.specs.Tree.{magic}
use Rattle.romfs_format.proofs.superblock.begins.Goals as goal

same : (xs ys zs : List ℕ) (r : Bool) → r ≡ pointwise nat_eq xs ys → ys ≡ zs → IsTrue r ↔ (xs ≡ zs)
same xs ys zs r e m = search rules

pub returns-then-bytes-ge8 : goal.returns-then-bytes-ge8
returns-then-bytes-ge8 c =
    same (take 8 c.args.bytes.now) c.as_slice.result.now magic c.eq.result c.eq.ensures c.as_slice.ensures
