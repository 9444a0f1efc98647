-- What was taken and what is left make what there was and all.
use Rattle.std.proofs.Common.{◌≡◌, ℕ, Bool, true, false, List, [], ◌∷◌, ◌++◌, length, refl, sym, ap, ◌∙◌}
use Rattle.std.proofs.Common.{append_assoc, arith}
use Rattle.std.specs.Prelude.{if◌then◌else◌}
use Rattle.std.proofs.lemmas.List.{append-nil}
use Rattle.directory_walk.specs.Trees.{Name, entered}
use Rattle.directory_walk.specs.Views.{listed_name, listed_names}
use Rattle.directory_walk.specs.declared.lister.Listed.{Listed}

pub record Left {T S : Type 0} (found_first found_now : List (Name T)) (waiting_first waiting_now : List (List ℕ))
    (all rest : List (Listed T S)) : Type 0 where
  pub found : found_now ++ listed_names rest ≡ found_first ++ listed_names all
  pub waiting : waiting_now ++ entered (listed_names rest) ≡ waiting_first ++ entered (listed_names all)

entered_cons : {T : Type 0} (n : Name T) (ns : List (Name T)) → entered (n ∷ []) ++ entered ns ≡ entered (n ∷ ns)
entered_cons n ns = choose n.is_entered
  where
    choose : (b : Bool) → (if b then n.path ∷ [] else []) ++ entered ns ≡
        (if b then n.path ∷ entered ns else entered ns)
    choose true = refl
    choose false = refl

pub step : {T S : Type 0} (found_first found_now found_then : List (Name T))
    (waiting_first waiting_now waiting_then : List (List ℕ)) (all : List (Listed T S))
    (x : Listed T S) (rest : List (Listed T S)) → Left found_first found_now waiting_first waiting_now all (x ∷ rest)
    → found_then ≡ found_now ++ listed_name x ∷ [] → waiting_then ≡ waiting_now ++ entered (listed_name x ∷ [])
    → Left found_first found_then waiting_first waiting_then all rest
step {T} found_first found_now found_then waiting_first waiting_now waiting_then all x rest left is is_then = record {
  found = ap (λ (l : List (Name T)). l ++ listed_names rest) is
      ∙ append_assoc found_now (listed_name x ∷ []) (listed_names rest) ∙ left.found;
  waiting = ap (λ (l : List (List ℕ)). l ++ entered (listed_names rest)) is_then
      ∙ append_assoc waiting_now (entered (listed_name x ∷ [])) (entered (listed_names rest))
      ∙ ap (λ (l : List (List ℕ)). waiting_now ++ l) (entered_cons (listed_name x) (listed_names rest))
      ∙ left.waiting;
}

pub found_all : {T S : Type 0} (found_first found_now : List (Name T)) (waiting_first waiting_now : List (List ℕ))
    (all : List (Listed T S)) → Left found_first found_now waiting_first waiting_now all []
    → found_now ≡ found_first ++ listed_names all
found_all found_first found_now waiting_first waiting_now all left = sym (append-nil found_now) ∙ left.found

pub waiting_all : {T S : Type 0} (found_first found_now : List (Name T)) (waiting_first waiting_now : List (List ℕ))
    (all : List (Listed T S)) → Left found_first found_now waiting_first waiting_now all []
    → waiting_now ≡ waiting_first ++ entered (listed_names all)
waiting_all found_first found_now waiting_first waiting_now all left = sym (append-nil waiting_now) ∙ left.waiting

pub nothing_left : {X : Type 0} (l : List X) → length l ≡ 0 → l ≡ []
nothing_left [] h = refl
nothing_left (x ∷ xs) h = absurd (omega arith)
