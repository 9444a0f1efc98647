-- The lines that are kept, while they are looked at.
use Rattle.std.proofs.Common.{◌≡◌, ℕ, ◌+◌, ◌<◌, cond, Bool, true, false, List, [], ◌∷◌, ◌++◌, length, filter, take}
use Rattle.std.proofs.Common.{◌≤◌, Bor, get_or, map, sym, ap, ap₂, ◌∙◌}
use Rattle.std.proofs.lemmas.List.{append-nil, map-append, take_all}
use Rattle.std.proofs.lemmas.List.Elements.{filter-append}
use Rattle.manifest.specs.declared.line.Line.{Line}
use Rattle.build_commands.proofs.Told.{taken}

-- one line more is looked at
looked : (p : Line → Bool) (ls : List Line) (i : ℕ) (d l : Line) → i < length ls → l ≡ get_or ls i d
    → filter p (take (i + 1) ls) ≡ filter p (take i ls) ++ cond (p l) (l ∷ []) []
looked p ls i d l h e = ap (filter p) (taken ls i d l h e) ∙ filter-append p (take i ls) (l ∷ [])

-- and kept
pub one_kept : (p : Line → Bool) (ls : List Line) (old new : List (Bor Line)) (r : Bor Line) (i : ℕ) (d l : Line)
    → i < length ls → l ≡ get_or ls i d → p l ≡ true → map (λ k. k.now) old ≡ filter p (take i ls)
    → new ≡ old ++ r ∷ [] → r.now ≡ l → map (λ k. k.now) new ≡ filter p (take (i + 1) ls)
one_kept p ls old new r i d l h e t k n is =
    ap (map (λ (k : Bor Line). k.now)) n ∙ (map-append (λ (k : Bor Line). k.now) old (r ∷ [])
    ∙ (ap₂ (λ (v : List Line) (x : Line). v ++ x ∷ []) k is
    ∙ (ap (λ (b : Bool). filter p (take i ls) ++ cond b (l ∷ []) []) (sym t) ∙ sym (looked p ls i d l h e))))

-- or left out
pub one_left : (p : Line → Bool) (ls ks : List Line) (i : ℕ) (d l : Line) → i < length ls → l ≡ get_or ls i d
    → p l ≡ false → ks ≡ filter p (take i ls) → ks ≡ filter p (take (i + 1) ls)
one_left p ls ks i d l h e t k =
    k ∙ (sym (append-nil (filter p (take i ls)))
    ∙ (ap (λ (b : Bool). filter p (take i ls) ++ cond b (l ∷ []) []) (sym t) ∙ sym (looked p ls i d l h e)))

pub all_kept : (p : Line → Bool) (ls ks : List Line) (i : ℕ) → ks ≡ filter p (take i ls) → length ls ≤ i
    → ks ≡ filter p ls
all_kept p ls ks i k h = k ∙ ap (filter p) (take_all i ls h)
