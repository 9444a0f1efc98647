-- A name that is spelled byte by byte, and names of which one is refused.
use Rattle.std.proofs.Common.{◌≡◌, ◌∙◌, ◌+◌, ◌<◌, ◌≤◌, ℕ, suc, Bool, false, List, [], ◌∷◌, ◌++◌, ap, sym, length}
use Rattle.std.proofs.Common.{drop, get_or, map, append_assoc, append-nil, arith, drop_of_length-le}
use Rattle.std.proofs.Math.Seq.{drop-cons}
use Rattle.std.proofs.Math.ListN.{get_or-map}
use Rattle.std.proofs.lemmas.List.{length-map}
use Rattle.std.proofs.lemmas.List.Folds.{list_all_at}
use Rattle.std.specs.List.{list_all}
use Rattle.build_commands.specs.Names.{spelled_after, escape, backslashes}

successor : (i : ℕ) → suc i ≡ i + 1
successor i = omega arith

joined : (old e x : List ℕ) (b : ℕ) → (old ++ e ++ b ∷ []) ++ x ≡ old ++ (e ++ b ∷ x)
joined old e x b = append_assoc (old ++ e) (b ∷ []) x ∙ append_assoc old e (b ∷ x)

-- one byte more is put
pub spelled_next : (t : Bool) (n : ℕ) (name : List ℕ) (i b : ℕ) (old new : List ℕ) → i < length name
    → get_or name i 0 ≡ b → new ≡ old ++ escape t n b ++ b ∷ []
    → new ++ spelled_after t (backslashes n b) (drop (i + 1) name) ≡ old ++ spelled_after t n (drop i name)
unfolding spelled_after
spelled_next t n name i b old new low is put =
    let rest : drop i name ≡ b ∷ drop (i + 1) name = drop-cons name i 0 low ∙ ap (λ x. x ∷ drop (suc i) name) is
    ∙ ap (λ k. b ∷ drop k name) (successor i) in
    ap (λ l. l ++ spelled_after t (backslashes n b) (drop (i + 1) name)) put
    ∙ joined old (escape t n b) (spelled_after t (backslashes n b) (drop (i + 1) name)) b
    ∙ ap (λ l. old ++ spelled_after t n l) (sym rest)

-- all bytes were put
pub spelled_end : (t : Bool) (n : ℕ) (name : List ℕ) (i : ℕ) (new whole : List ℕ) → length name ≤ i
    → new ++ spelled_after t n (drop i name) ≡ whole → new ≡ whole
unfolding spelled_after
spelled_end t n name i new whole far are =
    sym (append-nil new) ∙ ap (λ l. new ++ spelled_after t n l) (sym (drop_of_length-le name far)) ∙ are

-- one of some names is refused
pub one_refused : {X : Type 0} (p : List ℕ → Bool) (f : X → List ℕ) (xs : List X) (i : ℕ) (d : X) → i < length xs
    → p (f (get_or xs i d)) ≡ false → false ≡ list_all p (map f xs)
one_refused p f xs i d low refused =
    sym (list_all_at p (map f xs) i (f d) (rw (length-map xs f) low) (ap p (get_or-map f xs i d) ∙ refused))
