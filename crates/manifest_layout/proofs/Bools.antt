-- Small facts on tests and options.
use Rattle.std.proofs.Common.{◌≡◌, ◌||◌, Bool, true, false, Some, refl}
use Rattle.manifest.specs.declared.line.Word.{Word}
use Rattle.manifest.specs.declared.line.Word.TheVariants.{Dir, File, Slink, Block, Character, Fifo, Socket, Hard, Same}
use Rattle.manifest.specs.Lines.{is_dir, is_hard}

pub same_some : {X : Type 0} {x y : X} → Some x ≡ Some y → x ≡ y
same_some e = cc

pub or_false : (a b : Bool) → (a || b) ≡ false → (a ≡ false) × (b ≡ false)
or_false true b h = absurd (cc)
or_false false b h = (refl, h)

pub true_is_not_false : (b : Bool) → b ≡ true → b ≡ false → ⊥
true_is_not_false b h g = cc

-- a `dir` line is no `hard` line
pub dir_not_hard : (w : Word) → is_dir w ≡ true → is_hard w ≡ false
dir_not_hard Dir e = refl
dir_not_hard File e = refl
dir_not_hard Slink e = refl
dir_not_hard Block e = refl
dir_not_hard Character e = refl
dir_not_hard Fifo e = refl
dir_not_hard Socket e = refl
dir_not_hard Hard e = absurd (cc)
dir_not_hard Same e = refl
