-- The forest in the bytes is determined by them.
use Rattle.std.proofs.Common.{◌≡◌, ℕ, List, refl, sym, subst, ◌∙◌, zero, suc, ◌≤◌, arith}
use Rattle.std.proofs.lemmas.Bool.{lt-ltb, le-ltb}
use Rattle.record_forest.specs.Forest.{Forest, none, at, count}
use Rattle.cramfs_format.specs.declared.order.Order.{Order}
use Rattle.cramfs_format.specs.Inode.{end_of, list_start, list_end}
use Rattle.cramfs_format.specs.Made.{StandsAt, grow}

pub same_forest : (o : Order) (b : List ℕ) (e q : ℕ) (f g : Forest) → StandsAt o b e q f → StandsAt o b e q g → f ≡ g
same_forest o b e q none none s t = refl
same_forest o b e q none (at p own after) s t = let u = t.0 in absurd (omega arith)
same_forest o b e q (at p own after) none s t = let u = s.0 in absurd (omega arith)
same_forest o b e q (at p own after) (at p' own' after') s t =
    let i : p ≡ p' = s.1 ∙ sym t.1 in
    let owns = same_forest o b (list_end o b p) (list_start o b p) own own' s.2
    (subst (λ (x : ℕ). StandsAt o b (list_end o b x) (list_start o b x) own') (sym i) t.2) in
    let afters = same_forest o b e (end_of o b p) after after' s.3
    (subst (λ (x : ℕ). StandsAt o b e (end_of o b x) after') (sym i) t.3) in
    cc

-- the forest in the bytes is what grows
pub grown : (n : ℕ) (o : Order) (b : List ℕ) (e q : ℕ) (f : Forest) → StandsAt o b e q f → count f ≤ n
    → grow n o b e q ≡ f
grown zero o b e q none s few = refl
grown zero o b e q (at p own after) s few = absurd (omega arith)
grown (suc n) o b e q none s few = rw (le-ltb q e s) refl
grown (suc n) o b e q (at p own after) s few =
    let x = grown n o b (list_end o b p) (list_start o b p) own s.2 (omega arith) in
    let y = grown n o b e (end_of o b p) after s.3 (omega arith) in
    rw (lt-ltb q e s.0, ← s.1, x, y) refl
