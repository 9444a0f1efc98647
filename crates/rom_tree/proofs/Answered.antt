-- The meaning of a refusal, by the error that it was made of.
use Rattle.std.proofs.Common.{Result, Ok, Err, IfErr}
use Rattle.std.specs.Result.{IsErrAnd}

pub err_by : {T E : Type 0} {P Q : E → Type 0} (r : Result T E) → IsErrAnd r P → ((e : E) → P e → Q e) → IfErr r Q
err_by (Ok v) h f = absurd h
err_by (Err e) h f = f e h
