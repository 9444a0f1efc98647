-- One more call in an account.
use Rattle.std.proofs.Common.{◌≡◌, List, [], ◌∷◌, ◌++◌, Result, Ok, Err, IsOk, is_ok, refl}
use Rattle.std.specs.Prelude.{if◌then◌else◌}
use Rattle.tree_extract.specs.Log.{Event}
use Rattle.tree_extract.specs.Members.{Member}
use Rattle.tree_extract.specs.Accounts.{event, logged}
use Rattle.tree_extract.specs.declared.account.Answered.{Answered}

pub one_more : (ms : List Member) (log : List Event) (xs : List Answered) (x : Answered)
    → logged ms log (xs ++ x ∷ []) ≡ event ms x.asked x.index x.is_done ∷ logged ms log xs
one_more ms log [] x = refl
one_more ms log (a ∷ rest) x = one_more ms (event ms a.asked a.index a.is_done ∷ log) rest x

pub taken : {A E X : Type 0} (r : Result A E) (a b : X) → IsOk r → (if is_ok r then a else b) ≡ a
taken (Ok v) a b ok = refl
taken (Err e) a b ok = absurd (cc)
