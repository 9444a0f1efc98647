-- Rows, and pieces at the front of a pattern.
use Rattle.std.proofs.Common.{◌≡◌, ℕ, ◌+◌, ◌-◌, ◌<◌, ◌≤◌, Bool, false, List, [], ◌∷◌, ◌++◌, length, get_or, drop}
use Rattle.std.proofs.Common.{refl, sym, ap, ap₂, ◌∙◌, arith}
use Rattle.std.specs.Prelude.{◌&&◌, ◌||◌}
use Rattle.std.proofs.Common.{suc}
use Rattle.std.proofs.Math.Logic.{⊎_elim}
use Rattle.std.proofs.Math.Nat.{eq-or-lt_of_le}
use Rattle.std.proofs.Math.Seq.{drop-cons, get_or-append_seam}
use Rattle.std.proofs.lemmas.List.{drop_all, get_or_append_left, length-append}
use Rattle.std.proofs.lemmas.Grind.{get_or_default_zero}
use Rattle.path_patterns.specs.Patterns.{any_rest, fits, has, starts}
use Rattle.path_patterns.specs.Rows.{row_of}
use Rattle.path_patterns.specs.declared.pattern.Piece.{Piece}
use Rattle.path_patterns.specs.declared.pattern.Piece.TheVariants.{Star, One}
use Rattle.path_patterns.specs.declared.pattern.Set.{Set}

-- the end of a path that is one character longer
pub longer : (cs : List ℕ) (i : ℕ) → i < length cs
    → drop (length cs - (i + 1)) cs ≡ get_or cs (length cs - (i + 1)) 0 ∷ drop (length cs - i) cs
longer cs i h =
    let e : suc (length cs - (i + 1)) ≡ length cs - i = omega (arith, h) in
    drop-cons cs (length cs - (i + 1)) 0 (omega (arith, h))
    ∙ ap (λ (k : ℕ). get_or cs (length cs - (i + 1)) 0 ∷ drop k cs) e

-- a row of it has one more entry
pub row_more : (f : List ℕ → Bool) (cs : List ℕ) (i : ℕ) → i < length cs
    → row_of f (drop (length cs - (i + 1)) cs)
    ≡ row_of f (drop (length cs - i) cs) ++ f (drop (length cs - (i + 1)) cs) ∷ []
row_more f cs i h = rw (longer cs i h) refl

pub row_length : (f : List ℕ → Bool) (cs : List ℕ) → length (row_of f cs) ≡ length cs + 1
row_length f [] = refl
row_length f (c ∷ cs) =
    let more : length cs + 1 + 1 ≡ suc (length cs) + 1 = omega arith in
    length-append (row_of f cs) (f (c ∷ cs) ∷ []) ∙ ap (λ (n : ℕ). n + 1) (row_length f cs) ∙ more

-- an entry is that of the end of its length
pub row_at : (f : List ℕ → Bool) (cs : List ℕ) (i : ℕ) → i ≤ length cs
    → get_or (row_of f cs) i false ≡ f (drop (length cs - i) cs)
row_at f [] i h = let e : i ≡ 0 = omega (arith, h) in rw e refl
row_at f (c ∷ cs) i h =
    let row : List Bool = row_of f cs in
    ⊎_elim
    (λ (e : i ≡ suc (length cs)). let last : i ≡ length row = omega (arith, e, row_length f cs) in
    let none : 0 ≡ suc (length cs) - i = omega (arith, e) in
    ap (λ (k : ℕ). get_or (row ++ f (c ∷ cs) ∷ []) k false) last ∙ get_or-append_seam row (f (c ∷ cs)) [] false
    ∙ ap (λ (k : ℕ). f (drop k (c ∷ cs))) none)
    (λ (l : i < suc (length cs)). let within : i < length row = omega (arith, l, row_length f cs) in
    let below : i ≤ length cs = omega (arith, l) in
    let more : suc (length cs - i) ≡ suc (length cs) - i = omega (arith, l) in
    get_or_append_left row (f (c ∷ cs) ∷ []) false i within ∙ row_at f cs i below
    ∙ ap (λ (k : ℕ). f (drop k (c ∷ cs))) more)
    (eq-or-lt_of_le h)

-- rows of the same tests
pub row_same : (f g : List ℕ → Bool) → ((cs : List ℕ) → f cs ≡ g cs) → (cs : List ℕ) → row_of f cs ≡ row_of g cs
row_same f g h [] = ap (λ (b : Bool). b ∷ []) (h [])
row_same f g h (c ∷ cs) = ap₂ (λ (r : List Bool) (b : Bool). r ++ b ∷ []) (row_same f g h cs) (h (c ∷ cs))

-- a star, or a character, in front of pieces
pub star_row : (ps : List Piece) (cs : List ℕ) → row_of (any_rest (fits ps)) cs ≡ row_of (fits (Star ∷ ps)) cs
star_row ps cs = row_same (any_rest (fits ps)) (fits (Star ∷ ps)) (λ x. refl) cs

pub one_row : (s : Set) (ps : List Piece) (cs : List ℕ)
    → row_of (starts s (fits ps)) cs ≡ row_of (fits (One s ∷ ps)) cs
one_row s ps cs = row_same (starts s (fits ps)) (fits (One s ∷ ps)) (λ x. refl) cs

-- the next piece and the next character
pub one_at : (ps : List Piece) (cs : List ℕ) (n : ℕ) (p : Piece) (s : Set) → n < length ps → n < length cs
    → get_or ps n p ≡ One s
    → fits (drop n ps) (drop n cs) ≡ (has s (get_or cs n 0) && fits (drop (n + 1) ps) (drop (n + 1) cs))
one_at ps cs n p s h k e =
    let next : suc n ≡ n + 1 = omega arith in
    rw (drop-cons ps n p h, drop-cons cs n 0 k, e)
    (ap (λ (m : ℕ). has s (get_or cs n 0) && fits (drop m ps) (drop m cs)) next)

pub none_at : (ps : List Piece) (cs : List ℕ) (n : ℕ) (p : Piece) (s : Set) → n < length ps → length cs ≤ n
    → get_or ps n p ≡ One s
    → fits (drop n ps) (drop n cs) ≡ false
none_at ps cs n p s h k e = rw (drop-cons ps n p h, drop_all n cs k, e) refl

-- the row of the empty end
pub row_end : (f : List ℕ → Bool) (cs : List ℕ) → row_of f (drop (length cs - 0) cs) ≡ f [] ∷ []
row_end f cs = ap (row_of f) (drop_all (length cs - 0) cs (omega arith))

pub none_more : (cs : List ℕ) (i : ℕ) → i < length cs
    → row_of (fits []) (drop (length cs - (i + 1)) cs) ≡ row_of (fits []) (drop (length cs - i) cs) ++ false ∷ []
none_more cs i h = rw (longer cs i h) refl

pub any_more : (f : List ℕ → Bool) (cs : List ℕ) (i : ℕ) → i < length cs
    → any_rest f (drop (length cs - (i + 1)) cs)
    ≡ (get_or (row_of f cs) (i + 1) false || any_rest f (drop (length cs - i) cs))
any_more f cs i h = rw (row_at f cs (i + 1) (omega (arith, h)), longer cs i h) refl

pub starts_more : (s : Set) (f : List ℕ → Bool) (cs : List ℕ) (i : ℕ) → i < length cs
    → starts s f (drop (length cs - (i + 1)) cs)
    ≡ (has s (get_or cs (length cs - (i + 1)) 0) && get_or (row_of f cs) i false)
starts_more s f cs i h = rw (row_at f cs i (omega (arith, h)), longer cs i h) refl

pub row_first : (f : List ℕ → Bool) (cs : List ℕ) → get_or (row_of f cs) 0 false ≡ f []
row_first f cs = row_at f cs 0 (omega arith) ∙ ap f (drop_all (length cs - 0) cs (omega arith))

pub any_end : (f : List ℕ → Bool) (cs : List ℕ) → any_rest f (drop (length cs - 0) cs) ≡ f []
any_end f cs = ap (any_rest f) (drop_all (length cs - 0) cs (omega arith))

-- the last pieces of a pattern, one more
pub pieces_more : (ps : List Piece) (k : ℕ) (p : Piece) → k < length ps
    → get_or ps (length ps - 1 - k) p ∷ drop (length ps - k) ps ≡ drop (length ps - (k + 1)) ps
pieces_more ps k p h =
    let next : suc (length ps - 1 - k) ≡ length ps - k = omega (arith, h) in
    let here : length ps - 1 - k ≡ length ps - (k + 1) = omega (arith, h) in
    ap (λ (m : ℕ). get_or ps (length ps - 1 - k) p ∷ drop m ps) (sym next)
    ∙ sym (drop-cons ps (length ps - 1 - k) p (omega (arith, h)))
    ∙ ap (λ (m : ℕ). drop m ps) here

-- the character in front of an end
pub next_character : (cs : List ℕ) (i x : ℕ) → i < length cs → x ≡ get_or cs (length cs - 1 - i) x
    → x ≡ get_or cs (length cs - (i + 1)) 0
next_character cs i x h e =
    let here : length cs - 1 - i ≡ length cs - (i + 1) = omega (arith, h) in
    e ∙ get_or_default_zero cs (length cs - 1 - i) x (omega (arith, h)) ∙ ap (λ (m : ℕ). get_or cs m 0) here
