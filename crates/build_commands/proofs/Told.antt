-- The lines that are told of, while they are counted.
use Rattle.std.proofs.Common.{◌≡◌, ℕ, suc, ◌+◌, ◌<◌, ◌≤◌, ◌==◌, cond, Bool, true, false, List, [], ◌∷◌, ◌++◌}
use Rattle.std.proofs.Common.{length, filter, take, get_or, refl, sym, ap, ◌∙◌, arith}
use Rattle.std.proofs.lemmas.Bool.{ne_eqb}
use Rattle.std.proofs.lemmas.List.{append-nil, take_all, take_more}
use Rattle.std.proofs.lemmas.List.Elements.{filter-append}
use Rattle.manifest.specs.declared.line.Line.{Line}
use Rattle.build_commands.specs.Foreseen.{Told, counted, nothing_told, told_of}

-- of the first n lines
pub record IsCounted (ls : List Line) (Q : List ℕ → Type 0) (p : List ℕ → Line → Bool) (n : ℕ)
    (t : Told) : Type 0 where
  pub few : t.count ≤ n
  pub so_far : (sizes : List ℕ) → Q sizes → t ≡ told_of (filter (p sizes) (take n ls))

pub none_counted : (ls : List Line) (Q : List ℕ → Type 0) (p : List ℕ → Line → Bool) (t : Told) → t ≡ nothing_told
    → IsCounted ls Q p 0 t
none_counted ls Q p t e = record { few = rw e (omega arith); so_far = λ sizes q. e }

few_more : (t : Told) (b : Bool) (l : Line) (n : ℕ) → t.count ≤ n → (counted t b l).count ≤ n + 1
few_more t false l n h = omega arith
few_more t true l n h = by (t.count == 0)
  where
    by : (v : Bool) → (cond {A = Told} v (record { count = 1; line = l.number; path = l.path })
        (record { count = t.count + 1; line = t.line; path = t.path })).count ≤ n + 1
    by true = omega arith
    by false = omega arith

longer : (ys : List Line) (l : Line) → length (ys ++ l ∷ []) ≡ length ys + 1
longer [] l = refl
longer (y ∷ ys) l = ap suc (longer ys l) ∙ omega arith

-- the lines of which it is told, and one more
told_behind : (xs : List Line) (l : Line) → told_of (xs ++ l ∷ []) ≡ counted (told_of xs) true l
told_behind [] l = refl
told_behind (x ∷ xs) l =
    let t : ℕ → Told = λ n. record { count = n; line = x.number; path = x.path } in
    ap t (longer (x ∷ xs) l)
    ∙ ap (λ (b : Bool). cond {A = Told} b (record { count = 1; line = l.number; path = l.path })
    (t (suc (length xs) + 1)))
    (sym (ne_eqb (suc (length xs)) 0 (λ e. absurd (omega (arith, e)))))

told_more : (p : Line → Bool) (xs : List Line) (l : Line)
    → told_of (filter p (xs ++ l ∷ [])) ≡ counted (told_of (filter p xs)) (p l) l
told_more p xs l = ap told_of (filter-append p xs (l ∷ [])) ∙ by (p l)
  where
    by : (b : Bool) → told_of (filter p xs ++ cond b (l ∷ []) []) ≡ counted (told_of (filter p xs)) b l
    by false = ap told_of (append-nil (filter p xs))
    by true = told_behind (filter p xs) l

pub taken : (ls : List Line) (i : ℕ) (d l : Line) → i < length ls → l ≡ get_or ls i d
    → take (i + 1) ls ≡ take i ls ++ l ∷ []
taken ls i d l h e = take_more ls i d h ∙ ap (λ (k : Line). take i ls ++ k ∷ []) (sym e)

pub one_counted : (ls : List Line) (Q : List ℕ → Type 0) (p : List ℕ → Line → Bool) (n : ℕ) (old new : Told) (b : Bool)
    (d l : Line) → IsCounted ls Q p n old → n < length ls → l ≡ get_or ls n d
    → ((sizes : List ℕ) → Q sizes → b ≡ p sizes l) → new ≡ counted old b l → IsCounted ls Q p (n + 1) new
one_counted ls Q p n old new b d l h below is e f = record {
  few = rw f (few_more old b l n h.few);
  so_far = λ sizes q. f ∙ (ap (λ (t : Told). counted t b l) (h.so_far sizes q)
      ∙ (ap (λ (v : Bool). counted (told_of (filter (p sizes) (take n ls))) v l) (e sizes q)
      ∙ (sym (told_more (p sizes) (take n ls) l)
      ∙ ap (λ (v : List Line). told_of (filter (p sizes) v)) (sym (taken ls n d l below is)))));
}

pub all_counted : (ls : List Line) (Q : List ℕ → Type 0) (p : List ℕ → Line → Bool) (n : ℕ) (t : Told)
    → IsCounted ls Q p n t → length ls ≤ n → (sizes : List ℕ) → Q sizes → t ≡ told_of (filter (p sizes) ls)
all_counted ls Q p n t h e sizes q =
    h.so_far sizes q ∙ ap (λ (v : List Line). told_of (filter (p sizes) v)) (take_all n ls e)

-- eleven warnings that are the same
pub eleven : {a b c d e f g h i j k a' b' c' d' e' f' g' h' i' j' k' : Told} → a ≡ a' → b ≡ b' → c ≡ c' → d ≡ d'
    → e ≡ e' → f ≡ f' → g ≡ g' → h ≡ h' → i ≡ i' → j ≡ j' → k ≡ k'
    → (a ∷ b ∷ c ∷ d ∷ e ∷ f ∷ g ∷ h ∷ i ∷ j ∷ k ∷ []) ≡ (a' ∷ b' ∷ c' ∷ d' ∷ e' ∷ f' ∷ g' ∷ h' ∷ i' ∷ j' ∷ k' ∷ [])
eleven p q r s t u v w x y z = cc
