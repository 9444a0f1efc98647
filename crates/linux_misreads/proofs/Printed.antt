-- Lines that are told one after the other.
use Rattle.std.proofs.Common.{◌≡◌, ◌∙◌, ◌||◌, ◌∷◌, [], ◌++◌, ℕ, Bool, true, false, List, refl, ap, subst}
use Rattle.rom_fields.specs.Texts.{escaped}
use Rattle.rom_fields.specs.Written.{Sink}
use Rattle.rom_fields.proofs.Joins.{chain}
use Rattle.linux_misreads.specs.Misreads.{is_printed, misread_line, Prints}

-- a line is one
pub printed_line : (text path : List ℕ) → is_printed (misread_line text path) ≡ true
printed_line (x ∷ text) path = refl
printed_line [] path = last (escaped path)
  where
    last : (v : List ℕ) → is_printed (v ++ 10 ∷ []) ≡ true
    last [] = refl
    last (x ∷ v) = refl

or_more : (t : Bool) (a b : List ℕ) → ((t || is_printed a) || is_printed b) ≡ (t || is_printed (a ++ b))
or_more true a b = refl
or_more false [] b = refl
or_more false (x ∷ a) b = refl

pub or_none : (t : Bool) → t ≡ (t || false)
or_none true = refl
or_none false = refl

pub or_one : (t : Bool) → true ≡ (t || true)
or_one true = refl
or_one false = refl

-- some lines and then others
pub prints_chain : {r s t : Sink} {x y z : Bool} {a b : List ℕ} → Prints r s x y a → Prints s t y z b
    → Prints r t x z (a ++ b)
prints_chain {r} {s} {t} {x} {y} {z} {a} {b} h k = record {
  puts = chain h.puts k.puts;
  printed = k.printed ∙ (ap (λ (v : Bool). v || is_printed b) h.printed ∙ or_more x a b);
}

-- lines that were told for one value were told for an equal one
pub prints_by : {A : Type 0} {s t : Sink} {x y : Bool} (f : A → List ℕ) {u v : A} → u ≡ v → Prints s t x y (f u)
    → Prints s t x y (f v)
prints_by {A} {s} {t} {x} {y} f {u} {v} e h = subst (λ (w : A). Prints s t x y (f w)) e h

-- what was told of lines that were done, and of those behind them
pub printed_more : (done lines : List ℕ) (x y : Bool) → x ≡ is_printed done → y ≡ (x || is_printed lines)
    → y ≡ is_printed (done ++ lines)
printed_more done lines x y h k = k ∙ (ap (λ (v : Bool). v || is_printed lines) h ∙ both done)
  where
    both : (v : List ℕ) → (is_printed v || is_printed lines) ≡ is_printed (v ++ lines)
    both [] = refl
    both (z ∷ v) = refl
