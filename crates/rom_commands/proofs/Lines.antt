-- The lines of some addresses, one after the other.
use Rattle.std.proofs.Common.{◌≡◌, ◌<◌, ◌≤◌, ℕ, ◌+◌, List, [], ◌∷◌, ◌++◌, length, get_or, take, drop, refl, sym}
use Rattle.std.proofs.Common.{ap, ◌∙◌, true, false, Bool, append-nil}
use Rattle.std.proofs.lemmas.Grind.{flat_map-append}
use Rattle.std.proofs.lemmas.List.{take_more, take_all, take-append-drop}
use Rattle.std.specs.Prelude.{◌&&◌}
use Rattle.std.specs.List.{flat_map}
use Rattle.std.specs.List.Sorted.{IsNonDecreasingBy}
use Rattle.image_check.specs.declared.any.AnyImage.{AnyImage}
use Rattle.image_check.specs.declared.any.AnyImage.TheVariants.{Romfs, Cramfs}
use Rattle.image_extents.specs.declared.extent.Extents.{Extents}
use Rattle.image_extents.specs.Apart.{AreApart}
use Rattle.image_extents.specs.Sorted.{AreOf, start_of}
use Rattle.image_extents.specs.Which.{is_inside, which_text}
use Rattle.rom_commands.specs.Texts.{are_inside, places_text}

-- the extents of an image are in order, and apart
pub in_order : (a : AnyImage) (e : Extents) → AreOf a e → IsNonDecreasingBy start_of e.extents.items
in_order (Romfs s) e h = h.extents.sorted
in_order (Cramfs s) e h = h.blocks.extents.sorted

pub are_apart : (a : AnyImage) (e : Extents) → AreOf a e → AreApart e.extents.items
are_apart (Romfs s) e h = h.apart
are_apart (Cramfs s) e h = h.apart

module _ (base file : ℕ) (e : Extents) (xs : List ℕ) where
  pub places_none : places_text base file e [] ≡ []
  unfolding places_text
  places_none = refl

  pub places_more : (i : ℕ) → i < length xs
      → places_text base file e (take i xs) ++ which_text base file e (get_or xs i 0)
      ≡ places_text base file e (take (i + 1) xs)
  unfolding places_text
  places_more i h =
      let f : ℕ → List ℕ = λ a. which_text base file e a in
      sym (ap (flat_map f) (take_more xs i 0 h) ∙ flat_map-append f (take i xs) (get_or xs i 0 ∷ [])
      ∙ ap (λ (v : List ℕ). flat_map f (take i xs) ++ v) (append-nil (f (get_or xs i 0))))

  pub places_end : (i : ℕ) → length xs ≤ i → places_text base file e (take i xs) ≡ places_text base file e xs
  places_end i h = ap (places_text base file e) (take_all i xs h)

  -- the lines up to one of the addresses are a front of all
  pub places_front : (i : ℕ) → places_text base file e (take i xs) ++ places_text base file e (drop i xs)
      ≡ places_text base file e xs
  unfolding places_text
  places_front i =
      let f : ℕ → List ℕ = λ a. which_text base file e a in
      sym (flat_map-append f (take i xs) (drop i xs)) ∙ ap (flat_map f) (take-append-drop i xs)

and_true : (a : Bool) → (a && true) ≡ (true && a)
and_true true = refl
and_true false = refl

and_assoc : (a b c : Bool) → (a && (b && c)) ≡ ((a && b) && c)
and_assoc true b c = refl
and_assoc false b c = refl

inside_push : (base file : ℕ) (e : Extents) (xs : List ℕ) (a : ℕ)
    → are_inside base file e (xs ++ a ∷ []) ≡ (are_inside base file e xs && is_inside base file e a)
inside_push base file e [] a = and_true (is_inside base file e a)
inside_push base file e (x ∷ xs) a =
    ap (λ (v : Bool). is_inside base file e x && v) (inside_push base file e xs a)
    ∙ and_assoc (is_inside base file e x) (are_inside base file e xs) (is_inside base file e a)

pub inside_more : (base file : ℕ) (e : Extents) (xs : List ℕ) (i : ℕ) → i < length xs
    → (are_inside base file e (take i xs) && is_inside base file e (get_or xs i 0))
    ≡ are_inside base file e (take (i + 1) xs)
inside_more base file e xs i h =
    sym (ap (are_inside base file e) (take_more xs i 0 h) ∙ inside_push base file e (take i xs) (get_or xs i 0))

pub inside_end : (base file : ℕ) (e : Extents) (xs : List ℕ) (i : ℕ) → length xs ≤ i
    → are_inside base file e (take i xs) ≡ are_inside base file e xs
inside_end base file e xs i h = ap (are_inside base file e) (take_all i xs h)
