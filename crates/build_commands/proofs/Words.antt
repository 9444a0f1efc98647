-- The words of a row, and its path without slashes at the end.
use Rattle.std.proofs.Common.{◌≡◌, ℕ, ◌+◌, ◌-◌, ◌<◌, ◌≤◌, ◌&&◌, eqb, Bool, true, false, cond, List, [], ◌∷◌, ◌++◌}
use Rattle.std.proofs.Common.{length, take}
use Rattle.std.proofs.Common.{drop, get_or, refl, sym, ap, ◌∙◌, arith}
use Rattle.std.specs.List.{All, list_all}
use Rattle.std.proofs.lemmas.List.{take-append-drop, drop_more, take_rest, take_more}
use Rattle.std.proofs.lemmas.List.Splits.{slice_split_at}
use Rattle.build_commands.specs.TableRow.{is_space, spaced, trimmed}

-- the first space is at an index
pub spaced_at : (i : ℕ) (xs : List ℕ) → i < length xs → All (λ b. is_space b ≡ false) (take i xs)
    → is_space (get_or xs i 0) ≡ true
    → spaced xs ≡ take i xs ∷ spaced (take (length xs - (i + 1)) (drop (i + 1) xs))
spaced_at i xs l front p =
    let whole : xs ≡ take i xs ++ get_or xs i 0 ∷ drop (i + 1) xs =
    sym (take-append-drop i xs) ∙ ap (λ (y : List ℕ). take i xs ++ y) (drop_more xs i 0 l) in
    ap spaced whole ∙ slice_split_at is_space (take i xs) (get_or xs i 0) (drop (i + 1) xs) front p
    ∙ ap (λ (y : List ℕ). take i xs ∷ spaced y) (sym (take_rest xs (i + 1)))

abbrev pub slash : ℕ → Bool
slash c = eqb c 47

all_last : (xs : List ℕ) (x : ℕ) → list_all slash (xs ++ x ∷ []) ≡ (list_all slash xs && slash x)
all_last [] x = elim (slash x) as (λ t. t && true ≡ t) [
  | true ↦ refl
  | false ↦ refl
]
all_last (y ∷ ys) x = elim (slash y) as
    (λ t. t && list_all slash (ys ++ x ∷ []) ≡ ((t && list_all slash ys) && slash x)) [
      | true ↦ all_last ys x
      | false ↦ refl
    ]

and_true : (b : Bool) → b && true ≡ b
and_true true = refl
and_true false = refl

and_false : (b : Bool) → b && false ≡ false
and_false true = refl
and_false false = refl

-- one more slash at the end
trimmed_slash : (xs : List ℕ) (x : ℕ) → slash x ≡ true → trimmed (xs ++ x ∷ []) ≡ trimmed xs
trimmed_slash [] x e = ap (λ (b : Bool). cond (b && true) [] (x ∷ [])) e
trimmed_slash (y ∷ ys) x e =
    ap (λ (b : Bool). cond b [] (y ∷ trimmed (ys ++ x ∷ [])))
    (all_last (y ∷ ys) x ∙ ap (λ (b : Bool). list_all slash (y ∷ ys) && b) e ∙ and_true (list_all slash (y ∷ ys)))
    ∙ ap (λ (zs : List ℕ). cond (list_all slash (y ∷ ys)) [] (y ∷ zs)) (trimmed_slash ys x e)

-- the last byte is no slash
trimmed_other : (xs : List ℕ) (x : ℕ) → slash x ≡ false → trimmed (xs ++ x ∷ []) ≡ xs ++ x ∷ []
trimmed_other [] x e = ap (λ (b : Bool). cond (b && true) [] (x ∷ [])) e
trimmed_other (y ∷ ys) x e =
    ap (λ (b : Bool). cond b [] (y ∷ trimmed (ys ++ x ∷ [])))
    (all_last (y ∷ ys) x ∙ ap (λ (b : Bool). list_all slash (y ∷ ys) && b) e ∙ and_false (list_all slash (y ∷ ys)))
    ∙ ap (λ (zs : List ℕ). y ∷ zs) (trimmed_other ys x e)

pub less_slash : (xs : List ℕ) (n : ℕ) → 0 < n → n ≤ length xs → slash (get_or xs (n - 1) 0) ≡ true
    → trimmed (take (n - 1) xs) ≡ trimmed (take n xs)
less_slash xs n low high e =
    sym (trimmed_slash (take (n - 1) xs) (get_or xs (n - 1) 0) e)
    ∙ ap trimmed (sym (take_more xs (n - 1) 0 (omega (arith, low, high)))
    ∙ ap (λ (k : ℕ). take k xs) (omega (arith, low)))

pub no_slash : (xs : List ℕ) (n : ℕ) → 0 < n → n ≤ length xs → slash (get_or xs (n - 1) 0) ≡ false
    → take n xs ≡ trimmed (take n xs)
no_slash xs n low high e =
    let last : take (n - 1) xs ++ get_or xs (n - 1) 0 ∷ [] ≡ take n xs =
    sym (take_more xs (n - 1) 0 (omega (arith, low, high))) ∙ ap (λ (k : ℕ). take k xs) (omega (arith, low)) in
    sym last ∙ sym (trimmed_other (take (n - 1) xs) (get_or xs (n - 1) 0) e) ∙ ap trimmed last
