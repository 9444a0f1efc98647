-- A text cut at its first space.
use Rattle.std.proofs.Common.{◌≡◌, ◌+◌, ◌-◌, ◌<◌, ◌≤◌, ℕ, Bool, true, false, eqb, List, [], ◌∷◌, ◌++◌, length, take}
use Rattle.std.proofs.Common.{drop, get_or, refl, sym, ap, ◌∙◌, arith, get_or-take, length-take, cond, Option, Some}
use Rattle.std.proofs.Common.{nat_le}
use Rattle.std.proofs.lemmas.List.{take-append-drop, drop_more, take_rest, get_or_default}
use Rattle.std.proofs.lemmas.List.Splits.{slice_split_none, slice_split_at}
use Rattle.std.specs.List.{All}
use Rattle.memchr.specs.Find.{Nowhere, NoneBefore, Passes, is_byte}
use Rattle.std.specs.List.{onto_first}
use Rattle.std.specs.Borrow.{Bor}
use Rattle.std.proofs.lemmas.Bool.Decides.{nat_tests}
use Rattle.serve_lines.specs.declared.bad.Bad.TheVariants as bad
use Rattle.serve_lines.specs.Commands.{Line, is_bad, fields, fields_left, one_field, no_fields, at_most}

not_true : (b : Bool) → (b ≡ true → ⊥) → b ≡ false
not_true true h = absurd (h refl)
not_true false h = refl

pub cut_none : (xs : List ℕ) → Nowhere (Passes (is_byte 32) xs) 0 (length xs) → fields xs ≡ xs ∷ []
cut_none xs h = slice_split_none (λ b. eqb b 32) xs
    (λ k d l. not_true (eqb (get_or xs k d) 32)
    (λ e. h k (omega arith) l (ap (λ (x : ℕ). eqb x 32) (get_or_default xs k 0 d l) ∙ e)))

pub cut_some : (i : ℕ) (xs : List ℕ) → NoneBefore (Passes (is_byte 32) xs) 0 (length xs) i → Passes (is_byte 32) xs i
    → fields xs ≡ take i xs ∷ fields (take (length xs - (i + 1)) (drop (i + 1) xs))
cut_some i xs h p =
    let high = h.high in
    let front : All (λ x. eqb x 32 ≡ false) (take i xs) = λ k d l.
    let m : k < i = omega (arith, length-take i xs) in
    not_true (eqb (get_or (take i xs) k d) 32)
    (λ e. h.before k (omega arith) m (ap (λ (x : ℕ). eqb x 32)
    (get_or_default xs k 0 d (omega arith) ∙ sym (get_or-take i xs k d m)) ∙ e)) in
    let whole : xs ≡ take i xs ++ get_or xs i 0 ∷ drop (i + 1) xs =
    sym (take-append-drop i xs) ∙ ap (λ (y : List ℕ). take i xs ++ y) (drop_more xs i 0 high) in
    ap fields whole ∙ slice_split_at (λ b. eqb b 32) (take i xs) (get_or xs i 0) (drop (i + 1) xs) front p
    ∙ ap (λ (y : List ℕ). take i xs ∷ fields y) (sym (take_rest xs (i + 1)))

onto_some : (b : ℕ) (xs : List (List ℕ)) → (y : List ℕ) × (ys : List (List ℕ)) × (onto_first b xs ≡ y ∷ ys)
onto_some b [] = (b ∷ [], [], refl)
onto_some b (x ∷ xs) = (b ∷ x, xs, refl)

-- a text has a field
fields_some : (bs : List ℕ) → (y : List ℕ) × (ys : List (List ℕ)) × (fields bs ≡ y ∷ ys)
fields_some [] = ([], [], refl)
fields_some (b ∷ bs) =
    elim (eqb b 32) as (λ t. (y : List ℕ) × (ys : List (List ℕ))
    × (cond t ([] ∷ fields bs) (onto_first b (fields bs)) ≡ y ∷ ys))
    [ true ↦ ([], fields bs, refl) | false ↦ onto_some b (fields bs) ]

-- more than one field is left
pub many_fields : (rest o : Option (Bor (List ℕ))) (text g : Bor (List ℕ)) (f : List ℕ) → rest ≡ Some text
    → fields text.now ≡ f ∷ fields_left o → o ≡ Some g
    → (line : List ℕ → Line) → one_field line (fields_left rest) ≡ is_bad bad.Line
many_fields rest o text g f a b e line =
    let s = fields_some g.now in
    ap (λ (r : Option (Bor (List ℕ))). one_field line (fields_left r)) a ∙ ap (one_field line) b
    ∙ ap (λ (r : Option (Bor (List ℕ))). one_field line (f ∷ fields_left r)) e
    ∙ ap (λ (r : List (List ℕ)). one_field line (f ∷ r)) s.2

-- a field is left
pub some_fields : (rest : Option (Bor (List ℕ))) (text : Bor (List ℕ)) (line : Line) → rest ≡ Some text
    → no_fields line (fields_left rest) ≡ is_bad bad.Line
some_fields rest text line a =
    let s = fields_some text.now in
    ap (λ (r : Option (Bor (List ℕ))). no_fields line (fields_left r)) a ∙ ap (no_fields line) s.2

-- at most 4,096
pub over : (fd n : ℕ) (line : Line) → 4096 < n → at_most 4096 n line ≡ is_bad bad.Number
over fd n line h = let t : nat_le n 4096 ≡ false = grind (arith, nat_tests) in rw t refl

pub within : (fd n : ℕ) (line : Line) → n ≤ 4096 → at_most 4096 n line ≡ line
within fd n line h = let t : nat_le n 4096 ≡ true = grind (arith, nat_tests) in rw t refl
