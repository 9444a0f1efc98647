use Rattle.std.proofs.Common.{◌≡◌, ℕ, ◌≤◌, List, length, take, refl, sym, subst}
use Rattle.std.proofs.lemmas.List.{length-take-le}
use Rattle.romfs_image.proofs.superblock.accessible_bytes.Goals as goal

pub slice_bounds-result-end : goal.slice_bounds-result-end
slice_bounds-result-end c = sym (length-take-le c.stated_size-size.result c.args.bytes.now c.if-bytes-size.false)

pub returns-clause-part : goal.returns-clause-part
returns-clause-part c =
    let bytes : List ℕ = c.args.bytes.now in
    let n : ℕ = c.stated_size-size.result in
    let P : ℕ → Type 0 = λ m. ((32 ≤ m) × (m ≤ length bytes)) × (take n bytes ≡ take m bytes) in
    subst P c.stated_size-size.ensures ((c.if-size-lt32.false, c.if-bytes-size.false), refl)
