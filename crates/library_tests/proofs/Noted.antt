-- One more note of a directory in memory. Members, all of which are made.
use Rattle.std.proofs.Common.{◌≡◌, List, [], ◌∷◌, ◌++◌, refl, ap, ◌∙◌}
use Rattle.std.proofs.Common.{true, OnOk, Result, Ok, Err, is_ok}
use Rattle.tree_extract.specs.Choices.{kinds_of, with_kinds}
use Rattle.tree_extract.specs.Log.{Event}
use Rattle.tree_extract.specs.Members.{Member}
use Rattle.tree_extract.specs.declared.tree.Kind.{Kind}
use Rattle.library_tests.specs.Kept.{event, logged}
use Rattle.library_tests.specs.declared.kept.Note.{Note}

pub one_more : (log : List Event) (xs : List Note) (x : Note)
    → logged log (xs ++ x ∷ []) ≡ event x ∷ logged log xs
one_more log [] x = refl
one_more log (n ∷ rest) x = one_more (event n ∷ log) rest x

pub all_kinds : (ms : List Member) → with_kinds ms (kinds_of ms) ≡ ms
all_kinds [] = refl
all_kinds (m ∷ ms) = ap (λ (l : List Member). m ∷ l) (all_kinds ms)

pub all_made : (ms : List Member) (ks : List Kind) → ks ≡ kinds_of ms → with_kinds ms ks ≡ ms
all_made ms ks e = ap (λ (l : List Kind). with_kinds ms l) e ∙ all_kinds ms

pub on_ok : {A E : Type 0} (r : Result A E) (P : Type 0) → OnOk r P → is_ok r ≡ true → P
on_ok (Ok a) P p e = p
on_ok (Err x) P p e = absurd (cc)
