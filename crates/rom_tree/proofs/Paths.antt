-- The paths of a walk, escaped.
use Rattle.std.proofs.Common.{◌≡◌, ℕ, zero, suc, ◌+◌, ◌<◌, ◌≤◌, ◌∷◌, [], ◌++◌, List, length, take, get_or, refl, arith}
use Rattle.std.proofs.Common.{length-append}
use Rattle.std.proofs.lemmas.Grind.{flat_map-append}
use Rattle.rom_fields.specs.Texts.{escaped, escaped_byte}
use Rattle.rom_tree.specs.declared.frame.Frame.{Frame}
use Rattle.rom_tree.specs.Frames.{name_text, path_text}

pub escaped_none : escaped [] ≡ []
unfolding escaped
escaped_none = refl

pub escaped_both : (a b : List ℕ) → escaped (a ++ b) ≡ escaped a ++ escaped b
unfolding escaped
escaped_both a b = flat_map-append escaped_byte a b

-- a slash is not escaped
pub escaped_slash : escaped (47 ∷ []) ≡ 47 ∷ []
unfolding escaped
escaped_slash = refl

pub escaped_below : (name : List ℕ) → escaped (47 ∷ name) ≡ 47 ∷ escaped name
unfolding escaped
escaped_below name = refl

-- a path is as long as its front at least
path_front : (p : List ℕ) (fs : List Frame) → length p ≤ length (path_text p fs)
unfolding path_text
path_front p [] = omega arith
path_front p (f ∷ fs) =
    let h = path_front (p ++ name_text f.name) fs in omega (arith, h, length-append p (name_text f.name))

-- and as one name more of it
pub path_within : (p : List ℕ) (fs : List Frame) (i : ℕ) (d : Frame) → i < length fs
    → length (path_text p (take i fs)) + length (name_text (get_or fs i d).name) ≤ length (path_text p fs)
unfolding path_text
path_within p [] i d h = absurd (omega (arith, h))
path_within p (f ∷ fs) zero d h =
    let k = path_front (p ++ name_text f.name) fs in omega (arith, k, length-append p (name_text f.name))
path_within p (f ∷ fs) (suc i) d h = path_within (p ++ name_text f.name) fs i d (omega (arith, h))
