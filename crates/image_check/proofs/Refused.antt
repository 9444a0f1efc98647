-- The sum of a romfs image is over its first 512 bytes: if it is wrong there, so is the image.
use Rattle.std.proofs.Common.{◌≡◌, ℕ, ◌≤◌, min, List, length, take, refl, sym, ap, ◌∙◌, arith, length-take, take-take}
use Rattle.std.proofs.Common.{inl, inr}
use Rattle.rom_tree.specs.Tree.{Node}
use Rattle.rom_tree.specs.declared.types.Limits.{Limits}
use Rattle.rom_fields.specs.FaultNumbers.{SUM}
use Rattle.rom_fields.specs.declared.check_error.CheckError.TheVariants.{Fault}
use Rattle.rom_fields.specs.Words.{words_sum}
use Rattle.romfs_format.specs.Superblock.{accessible, HasSum, bad_sum}
use Rattle.romfs_format.specs.Faults.{whole}
use Rattle.romfs_format.specs.Tree.{full_size}
use Rattle.image_check.specs.Checked.{HasTree, IsLeastFaultUnder, least_of_romfs}
use Rattle.image_check.proofs.Formats.{apart}
use Rattle.formats.specs.Reach.{IsSumRefused}
use Rattle.image_check.proofs.Fronts.{front_be, front_romfs}

-- the size is that of the whole
whole_size : (all : List ℕ) → full_size (take 512 all) ≡ full_size all
whole_size all = front_be all 512 8 (omega arith)

-- what is summed of the front is what is summed of the accessible bytes
same_part : (all : List ℕ) (n : ℕ) → n ≤ length all
    → take (min 512 (length (take n all))) (take n all) ≡ take (min 512 n) (take 512 all)
same_part all n l =
    let e : length (take n all) ≡ n = length-take n all ∙ (let k = l in omega arith) in
    ap (λ (k : ℕ). take (min 512 k) (take n all)) e ∙ take-take (min 512 n) n all (omega arith)
    ∙ sym (take-take (min 512 n) 512 all (omega arith))

pub no_sum : (all : List ℕ) → IsSumRefused (take 512 all) (length all) → HasSum (accessible all) → ⊥
no_sum all h s =
    let size : full_size (take 512 all) ≡ full_size all = whole_size all in
    let m = h.most in
    let same = same_part all (full_size all) (omega arith) in
    h.sum (ap (λ (k : ℕ). words_sum (take (min 512 k) (take 512 all))) size ∙ ap words_sum (sym same) ∙ s)

pub no_tree : (all : List ℕ) (limits : Limits) → IsSumRefused (take 512 all) (length all) → (t : Node)
    → HasTree all limits t → ⊥
no_tree all limits h t x =
    let begins = (front_romfs all 512 (omega arith)).1 h.begins in
    elim x [
      | inl r ↦ no_sum all h (ap (λ (b : List ℕ). words_sum (take (min 512 (length b)) b)) (sym r.super.cut)
          ∙ r.super.sum)
      | inr r ↦ apart r.0 all begins r.1.super.begins
    ]

pub least : (all : List ℕ) (limits : Limits) → IsSumRefused (take 512 all) (length all)
    → IsLeastFaultUnder all limits (Fault SUM 12)
least all limits h =
    let e = length-take 512 all in
    let l = h.long in
    let size : full_size (take 512 all) ≡ full_size all = whole_size all in
    let low = h.least in
    let high = h.most in
    let begins = (front_romfs all 512 (omega arith)).1 h.begins in
    least_of_romfs begins (whole (bad_sum (omega arith) begins ((omega arith), (omega arith)) (no_sum all h) refl))
