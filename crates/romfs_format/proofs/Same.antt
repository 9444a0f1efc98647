-- The forest in the bytes is determined by them.
use Rattle.std.proofs.Common.{◌≡◌, ℕ, List, refl, sym, subst, ◌∙◌, zero, suc, ◌≤◌, arith}
use Rattle.std.proofs.lemmas.Bool.{ne_eqb}
use Rattle.record_forest.specs.Forest.{Forest, none, at, count}
use Rattle.romfs_format.specs.Record.{first_of, next_of}
use Rattle.romfs_format.specs.Made.{StandsAt, grow}

pub same_forest : (b : List ℕ) (q : ℕ) (f g : Forest) → StandsAt b q f → StandsAt b q g → f ≡ g
same_forest b q none none s t = refl
same_forest b q none (at p own after) s t = absurd (t.0 s)
same_forest b q (at p own after) none s t = absurd (s.0 t)
same_forest b q (at p own after) (at p' own' after') s t =
    let e : p ≡ p' = s.1 ∙ sym t.1 in
    let owns =
    same_forest b (first_of b p) own own' s.2 (subst (λ (x : ℕ). StandsAt b (first_of b x) own') (sym e) t.2) in
    let afters =
    same_forest b (next_of b p) after after' s.3 (subst (λ (x : ℕ). StandsAt b (next_of b x) after') (sym e) t.3) in
    cc

-- the forest in the bytes is what grows
pub grown : (n : ℕ) (b : List ℕ) (q : ℕ) (f : Forest) → StandsAt b q f → count f ≤ n → grow n b q ≡ f
grown zero b q none s few = refl
grown zero b q (at p own after) s few = absurd (omega arith)
grown (suc n) b q none s few = rw (s) refl
grown (suc n) b q (at p own after) s few =
    let x = grown n b (first_of b p) own s.2 (omega arith) in
    let y = grown n b (next_of b p) after s.3 (omega arith) in
    rw (ne_eqb q 0 s.0, ← s.1, x, y) refl
