-- Texts between spaces, and lines one after the other, as they are put.
use Rattle.std.proofs.Common.{◌≡◌, ℕ, ◌+◌, ◌<◌, ◌≤◌, List, [], ◌∷◌, ◌++◌, length, map, take, get_or, refl, sym, ap}
use Rattle.std.proofs.Common.{subst, ◌∙◌, append_assoc, append-nil, arith}
use Rattle.std.proofs.lemmas.List.{take_more}
use Rattle.std.specs.Prelude.{codes}
use Rattle.std.specs.List.{join_with_byte}
use Rattle.manifest.specs.declared.line.Line.{Line}
use Rattle.manifest.specs.declared.line.Word.{Word}
use Rattle.rom_fields.specs.Written.{Puts, Sink}
use Rattle.rom_fields.proofs.Joins.{chain}
use Rattle.manifest.specs.Printed.{texts_by, line_text, lines_text, volume_text, volume_line}
use Rattle.manifest.specs.Entries.{line_of}
use Rattle.manifest.specs.declared.entry.Entry.{Entry}

joined : (x : List ℕ) (xs : List (List ℕ)) (y : List ℕ) (ys : List (List ℕ))
    → join_with_byte 32 ((x ∷ xs) ++ y ∷ ys) ≡ join_with_byte 32 (x ∷ xs) ++ 32 ∷ join_with_byte 32 (y ∷ ys)
joined x [] y ys = refl
joined x (z ∷ xs) y ys =
    ap (λ (t : List ℕ). x ++ 32 ∷ t) (joined z xs y ys)
    ∙ sym (append_assoc x (32 ∷ join_with_byte 32 (z ∷ xs)) (32 ∷ join_with_byte 32 (y ∷ ys)))

-- some fields, a space, and more fields
pub and_fields : {r s t : Sink} (x : List ℕ) (xs : List (List ℕ)) (y : List ℕ) (ys : List (List ℕ))
    → Puts r s (join_with_byte 32 (x ∷ xs)) → Puts s t (32 ∷ join_with_byte 32 (y ∷ ys))
    → Puts r t (join_with_byte 32 ((x ∷ xs) ++ y ∷ ys))
and_fields {r} {s} {t} x xs y ys h k =
    let P : List ℕ → Type 0 = λ v. Puts r t v in subst P (sym (joined x xs y ys)) (chain h k)

-- the fields of a word are the line's text
pub of_word : {s t : Sink} (l : Line) (w : Word) → l.word ≡ w → Puts s t (join_with_byte 32 (texts_by w l))
    → Puts s t (line_text l)
unfolding line_text
of_word {s} {t} l w e h = let P : Word → Type 0 = λ v. Puts s t (join_with_byte 32 (texts_by v l)) in subst P (sym e) h

pushed : (es : List Entry) (e : Entry)
    → lines_text (map line_of (es ++ e ∷ [])) ≡ lines_text (map line_of es) ++ (line_text (line_of e) ++ codes "\n")
pushed [] e = append-nil (line_text (line_of e) ++ codes "\n")
pushed (x ∷ es) e =
    ap (λ (t : List ℕ). (line_text (line_of x) ++ codes "\n") ++ t) (pushed es e)
    ∙ sym (append_assoc (line_text (line_of x) ++ codes "\n") (lines_text (map line_of es))
    (line_text (line_of e) ++ codes "\n"))

-- the lines up to the next one
pub next_line : (es : List Entry) (i : ℕ) (d : Entry) → i < length es
    → lines_text (map line_of (take (i + 1) es))
    ≡ lines_text (map line_of (take i es)) ++ (line_text (line_of (get_or es i d)) ++ codes "\n")
next_line es i d h =
    ap (λ (xs : List Entry). lines_text (map line_of xs)) (take_more es i d h) ∙ pushed (take i es) (get_or es i d)

-- a name has a line
pub of_name : {s t : Sink} (name : List ℕ) → 1 ≤ length name → Puts s t (volume_text name ++ codes "\n")
    → Puts s t (volume_line name)
of_name [] h k = absurd (omega (arith, h))
of_name (b ∷ bs) h k = k

pub and_line : {s t : Sink} (es : List Entry) (i : ℕ) (d : Entry) → i < length es
    → Puts s t (lines_text (map line_of (take i es)) ++ (line_text (line_of (get_or es i d)) ++ codes "\n"))
    → Puts s t (lines_text (map line_of (take (i + 1) es)))
and_line {s} {t} es i d h k = let P : List ℕ → Type 0 = λ v. Puts s t v in subst P (sym (next_line es i d h)) k
