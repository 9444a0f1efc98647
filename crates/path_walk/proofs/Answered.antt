-- A refusal that is passed on.
use Rattle.std.proofs.Common.{◌≡◌, Result, Ok, Err, sym, subst}
use Rattle.std.specs.Prelude.{IsErrAnd}

pub handed_on : {T E : Type 0} (C : Result T E → Type 0) (r : Result T E) (e : E) → IsErrAnd r (λ v. v ≡ e) → C (Err e)
    → C r
handed_on C (Ok v) e h q = absurd h
handed_on {E = E} C (Err v) e h q = let P : E → Type 0 = λ x. C (Err x) in subst P (sym h) q
