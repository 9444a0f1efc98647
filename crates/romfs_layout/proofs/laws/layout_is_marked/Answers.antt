use Rattle.std.proofs.Common.{◌≡◌, ℕ, ◌+◌, ◌/◌, ◌%◌, true, false, eqb, if◌then◌else◌, refl}
use Rattle.rom_tree.specs.declared.types.Kind.{Kind}
use Rattle.rom_tree.specs.declared.types.Kind.TheVariants.{Directory, Regular, Symlink, Block, Character, Socket, Fifo}
use Rattle.romfs_layout.specs.Layout.{mode_bit, number_of}
use Rattle.romfs_layout.specs.Marked.{is_executable}
use Rattle.romfs_layout.proofs.Image.{tree_in, has_tree}
use Rattle.romfs_layout.proofs.Marked.{are_marked}
use Rattle.romfs_layout.proofs.Shaped.{bytes_in}
use Rattle.romfs_layout.proofs.laws.layout_is_marked.Goals as goal

pub returns : goal.returns
returns c = λ volume root n contents h. (
  tree_in (bytes_in volume root n contents) volume n,
  has_tree volume root n contents h,
  are_marked volume root n contents bits h,
)
  where
    bits : (k : Kind) (m : ℕ) → eqb ((number_of k + mode_bit k m) / 8 % 2) 1 ≡ is_executable k m
    bits Directory m = elim (eqb m 493) as (λ t. eqb ((1 + (if t then 8 else 0)) / 8 % 2) 1 ≡ t)
        [ true ↦ refl | false ↦ refl ]
    bits Regular m = elim (eqb m 493) as (λ t. eqb ((2 + (if t then 8 else 0)) / 8 % 2) 1 ≡ t)
        [ true ↦ refl | false ↦ refl ]
    bits Symlink m = refl
    bits Block m = refl
    bits Character m = refl
    bits Socket m = refl
    bits Fifo m = refl
