-- What a plain scan prints is the text of lines, and is read as its entries.
use Rattle.std.proofs.Common.{◌≡◌, ℕ, ◌+◌, ◌<◌, List, [], ◌∷◌, ◌++◌, codes, refl, sym, ap, subst, ◌∙◌, arith, Ok}
use Rattle.std.proofs.lemmas.Fmt.{decimal_digit}
use Rattle.std.proofs.lemmas.List.Elements.{All-nil}
use Rattle.rom_fields.specs.Texts.{octal}
use Rattle.rom_fields.specs.Written.{Puts, Sink}
use Rattle.manifest.specs.Grammar.{manifest_of}
use Rattle.manifest.specs.declared.line.Line.{Line}
use Rattle.manifest.specs.Printed as printed
use Rattle.manifest.specs.Printed.{IsSpelled, IsVolume, as_read, first_number, line_text, lines_text}
use Rattle.manifest.specs.Printed.{manifest_text, numbered_from}
use Rattle.build_commands.specs.Scanned.{Entry, directory, file, IsNamed, AreTaken, directory_text, file_text}
use Rattle.build_commands.specs.Scanned.{directory_line, file_line, directory_of, file_of, line_as, lines_as, scan_text}

directory_is : (n : ℕ) (path : List ℕ) → line_text (directory_of n path) ≡ directory_text path
unfolding line_text directory_text octal
directory_is n path = rw (decimal_digit 0 (omega arith)) refl

file_is : (n : ℕ) (path source : List ℕ) → line_text (file_of n path source) ≡ file_text path source
unfolding line_text file_text octal
file_is n path source = rw (decimal_digit 0 (omega arith), decimal_digit 4 (omega arith)) refl

-- a line that is put is the line of an entry
pub put_directory_is : {s t : Sink} (path : List ℕ) (l : Line) → l ≡ directory_of 0 path
    → Puts s t (line_text l ++ codes "\n") → Puts s t (directory_line path)
put_directory_is {s} {t} path l e h =
    let P : List ℕ → Type 0 = λ x. Puts s t (x ++ codes "\n") in subst P (ap line_text e ∙ directory_is 0 path) h

pub put_file_is : {s t : Sink} (path source : List ℕ) (l : Line) → l ≡ file_of 0 path source
    → Puts s t (line_text l ++ codes "\n") → Puts s t (file_line path source)
put_file_is {s} {t} path source l e h =
    let P : List ℕ → Type 0 = λ x. Puts s t (x ++ codes "\n") in subst P (ap line_text e ∙ file_is 0 path source) h

texts : (n : ℕ) (es : List Entry) → lines_text (lines_as n es) ≡ scan_text es
texts n [] = refl
texts n (directory path ∷ es) =
    ap (λ (t : List ℕ). (t ++ codes "\n") ++ lines_text (lines_as (n + 1) es)) (directory_is n path)
    ∙ ap (λ (t : List ℕ). directory_line path ++ t) (texts (n + 1) es)
texts n (file path source ∷ es) =
    ap (λ (t : List ℕ). (t ++ codes "\n") ++ lines_text (lines_as (n + 1) es)) (file_is n path source)
    ∙ ap (λ (t : List ℕ). file_line path source ++ t) (texts (n + 1) es)

spelled : (n : ℕ) (e : Entry) → IsNamed e → IsSpelled (line_as n e)
spelled n (directory path) h = record {
  path = h.small;
  text = All-nil (λ b. b < 256);
  mode = omega arith;
  uid = omega arith;
  gid = omega arith;
  align = omega arith;
  major = omega arith;
  minor = omega arith;
  only = (refl, refl, refl, refl);
}
spelled n (file path source) h = record {
  path = h.0.small;
  text = h.1.small;
  mode = omega arith;
  uid = omega arith;
  gid = omega arith;
  align = omega arith;
  major = omega arith;
  minor = omega arith;
  only = (refl, refl, h.1.some);
}

taken : (latest : List Line) (n : ℕ) (es : List Entry) → AreTaken latest n es
    → printed.AreTaken latest n (lines_as n es)
taken latest n [] h = tt
taken latest n (directory path ∷ es) h =
    (spelled n (directory path) h.0, h.1, taken (directory_of n path ∷ latest) (n + 1) es h.2)
taken latest n (file path source ∷ es) h =
    (spelled n (file path source) h.0, h.1, taken (file_of n path source ∷ latest) (n + 1) es h.2)

numbers : (n : ℕ) (es : List Entry) → numbered_from n (lines_as n es) ≡ lines_as n es
numbers n [] = refl
numbers n (directory path ∷ es) = ap (λ (ls : List Line). directory_of n path ∷ ls) (numbers (n + 1) es)
numbers n (file path source ∷ es) = ap (λ (ls : List Line). file_of n path source ∷ ls) (numbers (n + 1) es)

-- no name of a volume
pub no_volume : IsVolume []
no_volume = record { bytes = All-nil (λ b. b < 256); good = refl }

abbrev ReadsBack : Type 0
ReadsBack = (volume : List ℕ) (ls : List Line) → IsVolume volume → printed.AreTaken [] (first_number volume) ls
    → manifest_of (manifest_text volume ls) ≡ Ok (as_read volume ls)

pub is_manifest : ReadsBack → (es : List Entry) → AreTaken [] 1 es
    → manifest_of (scan_text es) ≡ Ok (record { lines = lines_as 1 es; volume = []; volume_line = 0 })
is_manifest reads es h =
    ap manifest_of (sym (texts 1 es)) ∙ reads [] (lines_as 1 es) no_volume (taken [] 1 es h)
    ∙ ap (λ (ls : List Line). Ok (record { lines = ls; volume = []; volume_line = 0 })) (numbers 1 es)
