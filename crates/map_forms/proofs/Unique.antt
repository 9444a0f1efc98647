-- Different macros have different names.
use Rattle.std.proofs.Common.{◌≡◌, ◌∙◌, ◌+◌, ◌-◌, ◌*◌, ◌/◌, ◌%◌, ◌<◌, ◌||◌, ℕ, List, [], ◌∷◌, ◌++◌, Bool, true, false}
use Rattle.std.proofs.Common.{refl, sym, ap, arith, rules, tests, get_or, if◌then◌else◌, append_assoc}
use Rattle.std.proofs.Common.{eqb, nat_lt, reverse}
use Rattle.std.specs.Prelude.{codes}
use Rattle.std.specs.List.{flat_map, AllByRecursion as Every}
use Rattle.std.proofs.lemmas.Bool.{eqb-true}
use Rattle.std.proofs.lemmas.List.{append_cancel_left, append_cancel_right, reverse-append}
use Rattle.std.proofs.lemmas.List.Elements.{recursion_from_All}
use Rattle.map_forms.specs.Names.{Macro, Guard, Base, Size, Address, Length, Path, HasBytes, path_of, macro_name}
use Rattle.map_forms.specs.Names.{code_of, hex_digit, identifier, is_digit, is_letter}

-- the number that a hexadecimal digit is for, and the byte whose code begins a text; 300 of an empty one
abbrev digit_value : ℕ → ℕ
digit_value h = if nat_lt h 58 then h - 48 else h - 87

abbrev after_z : List ℕ → ℕ
after_z xs =
    if eqb (get_or xs 1 0) 90 then 90 else (if eqb (get_or xs 1 0) 100 then 46
    else (if eqb (get_or xs 1 0) 104 then 45 else (if eqb (get_or xs 1 0) 117 then 95
    else 16 * digit_value (get_or xs 2 0) + digit_value (get_or xs 3 0))))

abbrev first_byte : List ℕ → ℕ
first_byte xs =
    if eqb (get_or xs 0 300) 95 then 47 else (if eqb (get_or xs 0 300) 90 then after_z xs else get_or xs 0 300)

choice : (v : Bool) (xs ys rest : List ℕ) (b : ℕ) → (v ≡ true → first_byte (xs ++ rest) ≡ b)
    → (v ≡ false → first_byte (ys ++ rest) ≡ b) → first_byte ((if v then xs else ys) ++ rest) ≡ b
choice true xs ys rest b h k = h refl
choice false xs ys rest b h k = k refl

digit_back : (n : ℕ) → n < 16 → digit_value (hex_digit n) ≡ n
digit_back n h = search (rules, tests)

both : (b : ℕ) → b < 256
    → 16 * digit_value (hex_digit (b / 16)) + digit_value (hex_digit (b % 16)) ≡ b
both b h =
    let u : b / 16 < 16 = omega arith in
    let v : b % 16 < 16 = omega arith in
    rw (digit_back (b / 16) u, digit_back (b % 16) v) (omega arith)

plain : (b : ℕ) (rest : List ℕ) → eqb b 90 ≡ false → (is_letter b || is_digit b) ≡ true → first_byte (b ∷ rest) ≡ b
plain b rest z h = search (rules, tests)

-- a code at the front of a text says its byte
pub byte_of_code : (b : ℕ) (rest : List ℕ) → b < 256 → first_byte (code_of b ++ rest) ≡ b
unfolding code_of
byte_of_code b rest h =
    choice (eqb b 47) _ _ rest b (λ e. sym (eqb-true b 47 e)) (λ s.
    choice (eqb b 90) _ _ rest b (λ e. sym (eqb-true b 90 e)) (λ z.
    choice (is_letter b || is_digit b) _ _ rest b (λ e. plain b rest z e) (λ n.
    choice (eqb b 46) _ _ rest b (λ e. sym (eqb-true b 46 e)) (λ d.
    choice (eqb b 45) _ _ rest b (λ e. sym (eqb-true b 45 e)) (λ m.
    choice (eqb b 95) _ _ rest b (λ e. sym (eqb-true b 95 e)) (λ u. both b h))))))

same_front : (b c : ℕ) (xs ys : List ℕ) → b < 256 → c < 256 → code_of b ++ xs ≡ code_of c ++ ys → b ≡ c
same_front b c xs ys h k e = sym (byte_of_code b xs h) ∙ ap first_byte e ∙ byte_of_code c ys k

no_code : (b : ℕ) (xs : List ℕ) → b < 256 → code_of b ++ xs ≡ [] → ⊥
no_code b xs h e = let t : b ≡ 300 = sym (byte_of_code b xs h) ∙ ap first_byte e in omega (arith, t, h)

same_path : (p q : List ℕ) → Every (λ b. b < 256) p → Every (λ b. b < 256) q → flat_map code_of p ≡ flat_map code_of q
    → p ≡ q
same_path [] [] h k e = refl
same_path [] (c ∷ q) h k e = absurd (no_code c (flat_map code_of q) k.0 (sym e))
same_path (b ∷ p) [] h k e = absurd (no_code b (flat_map code_of p) h.0 e)
same_path (b ∷ p) (c ∷ q) h k e =
    let s : b ≡ c = same_front b c (flat_map code_of p) (flat_map code_of q) h.0 k.0 e in
    let f : code_of b ++ flat_map code_of p ≡ code_of b ++ flat_map code_of q =
    e ∙ ap (λ (v : ℕ). code_of v ++ flat_map code_of q) (sym s) in
    let t : p ≡ q =
    same_path p q h.1 k.1 (append_cancel_left (code_of b) (flat_map code_of p) (flat_map code_of q) f) in
    ap (λ (v : List ℕ). b ∷ v) t ∙ ap (λ (v : ℕ). v ∷ q) s

-- a number for the last bytes of a name, which says what its macro is about
abbrev mark : List ℕ → ℕ
mark xs = get_or (reverse xs) 2 0 * 256 + get_or (reverse xs) 1 0

abbrev mark_of : Macro → ℕ
mark_of Guard = 80 * 256 + 95
mark_of Base = 65 * 256 + 83
mark_of Size = 73 * 256 + 90
mark_of (Address path) = 69 * 256 + 83
mark_of (Length path) = 71 * 256 + 84
mark_of (Path path) = 65 * 256 + 84

-- what a name ends in, and the macro that it is of
abbrev ending : ℕ → List ℕ
ending k =
    if eqb k 20575 then codes "_MAP_H" else (if eqb k 16723 then codes "_BASE"
    else (if eqb k 18778 then codes "_SIZE" else (if eqb k 17747 then codes "_ADDRESS"
    else (if eqb k 18260 then codes "_LENGTH" else codes "_PATH"))))

abbrev macro_of : ℕ → List ℕ → Macro
macro_of k path =
    if eqb k 20575 then Guard else (if eqb k 16723 then Base else (if eqb k 18778 then Size
    else (if eqb k 17747 then Address path else (if eqb k 18260 then Length path else Path path))))

back : (m : Macro) → macro_of (mark_of m) (path_of m) ≡ m
back Guard = refl
back Base = refl
back Size = refl
back (Address path) = refl
back (Length path) = refl
back (Path path) = refl

name_is : (prefix : List ℕ) (m : Macro)
    → macro_name prefix m ≡ prefix ++ (flat_map code_of (path_of m) ++ ending (mark_of m))
unfolding macro_name identifier
name_is prefix Guard = refl
name_is prefix Base = refl
name_is prefix Size = refl
name_is prefix (Address path) = refl
name_is prefix (Length path) = refl
name_is prefix (Path path) = refl

mark_end : (m : Macro) (xs : List ℕ) → mark (xs ++ ending (mark_of m)) ≡ mark_of m
mark_end Guard xs = rw (reverse-append xs (ending (mark_of Guard))) refl
mark_end Base xs = rw (reverse-append xs (ending (mark_of Base))) refl
mark_end Size xs = rw (reverse-append xs (ending (mark_of Size))) refl
mark_end (Address path) xs = rw (reverse-append xs (ending (mark_of (Address path)))) refl
mark_end (Length path) xs = rw (reverse-append xs (ending (mark_of (Length path)))) refl
mark_end (Path path) xs = rw (reverse-append xs (ending (mark_of (Path path)))) refl

mark_name : (prefix : List ℕ) (m : Macro) → mark (macro_name prefix m) ≡ mark_of m
mark_name prefix m =
    let p : List ℕ = flat_map code_of (path_of m) in
    ap mark (name_is prefix m ∙ sym (append_assoc prefix p (ending (mark_of m)))) ∙ mark_end m (prefix ++ p)

pub same_macro : (prefix : List ℕ) (a b : Macro) → HasBytes a → HasBytes b → macro_name prefix a ≡ macro_name prefix b
    → a ≡ b
same_macro prefix a b h k e =
    let p : List ℕ = flat_map code_of (path_of a) in
    let q : List ℕ = flat_map code_of (path_of b) in
    let m : mark_of a ≡ mark_of b = sym (mark_name prefix a) ∙ ap mark e ∙ mark_name prefix b in
    let f : p ++ ending (mark_of a) ≡ q ++ ending (mark_of b) =
    append_cancel_left prefix (p ++ ending (mark_of a)) (q ++ ending (mark_of b))
    (sym (name_is prefix a) ∙ e ∙ name_is prefix b) in
    let g : p ++ ending (mark_of a) ≡ q ++ ending (mark_of a) =
    f ∙ ap (λ (v : ℕ). q ++ ending v) (sym m) in
    let s : path_of a ≡ path_of b = same_path (path_of a) (path_of b)
    (recursion_from_All (λ b. b < 256) (path_of a) h) (recursion_from_All (λ b. b < 256) (path_of b) k)
    (append_cancel_right p q (ending (mark_of a)) g) in
    sym (back a) ∙ ap (λ (v : ℕ). macro_of v (path_of a)) m ∙ ap (λ (v : List ℕ). macro_of (mark_of b) v) s ∙ back b
