-- One more call in an account.
use Rattle.std.proofs.Common.{◌≡◌, List, [], ◌∷◌, ◌++◌, Result, Ok, Err, IsOk, is_ok, refl}
use Rattle.std.specs.Prelude.{if◌then◌else◌}
use Rattle.atomic_file.specs.Log.{Event}
use Rattle.atomic_file.specs.Accounts.{event, logged}
use Rattle.atomic_file.specs.declared.account.Answered.{Answered}

pub one_more : (log : List Event) (xs : List Answered) (x : Answered)
    → logged log (xs ++ x ∷ []) ≡ event x.asked x.answer ∷ logged log xs
one_more log [] x = refl
one_more log (a ∷ rest) x = one_more (event a.asked a.answer ∷ log) rest x

pub taken : {A E X : Type 0} (r : Result A E) (a b : X) → IsOk r → (if is_ok r then a else b) ≡ a
taken (Ok v) a b ok = refl
taken (Err e) a b ok = absurd (cc)
