-- What is known of an image holds of one with the same numbers.
use Rattle.std.proofs.Common.{◌≡◌, ℕ, List, subst}
use Rattle.rom_c.specs.declared.image.RomtoolImage.{RomtoolImage}

pub again : (P : List ℕ → ℕ → ℕ → ℕ → ℕ → ℕ → Type 0) (i : RomtoolImage) (all : List ℕ)
    (format accessible root references depth : ℕ)
    → i.bytes.now ≡ all → i.format ≡ format → i.accessible ≡ accessible → i.root ≡ root → i.references ≡ references
    → i.depth ≡ depth
    → P i.bytes.now i.format i.accessible i.root i.references i.depth
    → P all format accessible root references depth
again P i all format accessible root references depth e f a r n d h =
    subst (λ v. P all format accessible root references v) d
    (subst (λ v. P all format accessible root v i.depth) n
    (subst (λ v. P all format accessible v i.references i.depth) r
    (subst (λ v. P all format v i.root i.references i.depth) a
    (subst (λ v. P all v i.accessible i.root i.references i.depth) f
    (subst (λ v. P v i.format i.accessible i.root i.references i.depth) e h)))))
