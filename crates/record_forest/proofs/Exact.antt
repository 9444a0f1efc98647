-- A phase that goes over the rows of a forest, against a set of faults that knows no rows.
use Rattle.std.proofs.Common.{◌≡◌, ◌≢◌, ℕ, suc, ◌≤◌, List, [], ◌∷◌, ◌++◌, append_assoc, append-nil, None, Some, inl}
use Rattle.std.proofs.Common.{inr, refl, sym, ap, subst, ◌∙◌, arith}
use Rattle.std.proofs.lemmas.Bool.Decides.{eqb_tells}
use Rattle.std.proofs.lemmas.List.Elements.{All-from_recursion}
use Rattle.std.specs.List.{Any, AllByRecursion as Every}
use Rattle.rom_fields.specs.declared.fault.Fault.{Fault}
use Rattle.record_forest.specs.declared.reference.Row.{Row}
use Rattle.record_forest.specs.Members.{Has, Pairs}
use Rattle.record_forest.specs.Faults.{IsLeastFault, IsNone}
use Rattle.record_forest.specs.Sweep.{IsLeastRowFault}
use Rattle.record_forest.proofs.Lists.{every_right, pairs_push}

-- some member that has a property, by its index
pub has_member : (P : Row → Type 0) (xs : List Row) → Has P xs → Any P xs
has_member P [] h = absurd h
has_member P (x ∷ xs) (inl h) = (0, x, omega arith, refl, h)
has_member P (x ∷ xs) (inr h) = let a = has_member P xs h in let l = a.2 in (suc a.0, a.1, omega arith, a.3, a.4)

pub member_every : (P Q : Row → Type 0) (xs : List Row) → Every P xs → Any Q xs → (y : Row) × P y × Q y
member_every P Q xs h a = (a.1, subst P a.3 (All-from_recursion P xs h a.0 a.1 a.2), a.4)

pub has_at : (P : Row → Type 0) (before : List Row) (x : Row) (after : List Row) → P x → Has P (before ++ x ∷ after)
has_at P [] x after h = inl h
has_at P (y ∷ before) x after h = inr (has_at P before x after h)

pub every_here : (P : Row → Type 0) (before : List Row) (x : Row) (after : List Row) → Every P (before ++ x ∷ after)
    → P x
every_here P before x after h = (every_right P before (x ∷ after) h).0

-- a member at its place
pub split_at : (P : Row → Type 0) (xs : List Row) → Has P xs
    → (before : List Row) × (x : Row) × (after : List Row) × (xs ≡ before ++ x ∷ after) × P x
split_at P [] h = absurd h
split_at P (x ∷ xs) (inl h) = ([], x, xs, refl, h)
split_at P (x ∷ xs) (inr h) = let s = split_at P xs h in (x ∷ s.0, s.1, s.2, ap (λ (ys : List Row). x ∷ ys) s.3, s.4)

-- what holds at each place of a list
pub every_split : (P : Row → Type 0) (done xs : List Row)
    → ((before : List Row) (x : Row) (after : List Row) → done ++ xs ≡ before ++ x ∷ after → P x) → Every P xs
every_split P done [] h = tt
every_split P done (x ∷ xs) h = (
  h done x xs refl,
  every_split P (done ++ x ∷ []) xs (λ before y after e. h before y after (sym (append_assoc done (x ∷ []) xs) ∙ e)),
)

pub pairs_split : (R : Row → Row → Type 0) (done xs : List Row) → Pairs R done
    → ((before : List Row) (x : Row) (after : List Row) → done ++ xs ≡ before ++ x ∷ after → Pairs R before
    → Every (λ y. R y x) before) → Pairs R (done ++ xs)
pairs_split R done [] p h = subst (Pairs R) (sym (append-nil done)) p
pairs_split R done (x ∷ xs) p h =
    subst (Pairs R) (append_assoc done (x ∷ []) xs)
    (pairs_split R (done ++ x ∷ []) xs (pairs_push R done x p (h done x xs refl p))
    (λ before y after e. h before y after (sym (append_assoc done (x ∷ []) xs) ∙ e)))

-- a later row's place
pub later_split : (xs before : List Row) (x : Row) (after between : List Row) (y : Row) (rest : List Row)
    → xs ≡ before ++ x ∷ after → after ≡ between ++ y ∷ rest → xs ≡ (before ++ x ∷ between) ++ y ∷ rest
later_split xs before x after between y rest e i =
    e ∙ ap (λ (ys : List Row). before ++ x ∷ ys) i ∙ sym (append_assoc before (x ∷ between) (y ∷ rest))

abbrev pub Differ : Row → Row → Type 0
Differ x y = x.offset ≢ y.offset

-- if no offset occurs twice, a row has one index
one_place : (before : List Row) (x : Row) (after before' : List Row) (x' : Row) (after' : List Row)
    → before ++ x ∷ after ≡ before' ++ x' ∷ after' → Pairs Differ (before ++ x ∷ after) → x.offset ≡ x'.offset
    → (before ≡ before') × (x ≡ x')
one_place [] x after [] x' after' e p same = let z : x ≡ x' = cc in (refl, z)
one_place [] x after (y ∷ ys) x' after' e p same =
    let z : after ≡ ys ++ x' ∷ after' = cc in
    absurd (every_here (Differ x) ys x' after' (subst (Every (Differ x)) z p.0) same)
one_place (y ∷ ys) x after [] x' after' e p same =
    let z : y ≡ x' = cc in
    absurd (every_here (Differ y) ys x after p.0 (ap (λ (v : Row). v.offset) z ∙ sym same))
one_place (y ∷ ys) x after (z ∷ zs) x' after' e p same =
    let head : y ≡ z = cc in
    let tail : ys ++ x ∷ after ≡ zs ++ x' ∷ after' = cc in
    let ih = one_place ys x after zs x' after' tail p.1 same in
    (let k : y ∷ ys ≡ z ∷ zs = (rw (head, ih.0) refl) in k, ih.1)

-- a fault at the row among these
pub record FoundAt (P : List Row → Row → ℕ → Type 0) (xs : List Row) (e : Fault) : Type 0 where
  pub before : List Row
  pub row : Row
  pub after : List Row
  pub among : xs ≡ before ++ row ∷ after
  pub at : row.offset ≡ e.at
  pub found : P before row e.number

-- If the faults of rows are those of the set, so are the least ones.
module _ {C : List Row → Row → Type 0} {P : List Row → Row → ℕ → Type 0} {xs : List Row} {S : Fault → Type 0}
    (single : Pairs Differ xs)
    (into : (before : List Row) (x : Row) (after : List Row) (n : ℕ) → xs ≡ before ++ x ∷ after → P before x n
    → S (record { number = n; at = x.offset })) (from : (e : Fault) → S e → FoundAt P xs e) where
  pub none_found : IsLeastRowFault C P xs None → IsNone S
  none_found l e s = let f = from e s in absurd (l.least f.before f.row f.after e.number f.among f.found)

  pub least_found : (e : Fault) → IsLeastRowFault C P xs (Some e) → IsLeastFault S e
  least_found e l =
      let s = l.noted in
      let is : record { number = e.number; at = s.row.offset } ≡ e =
      ap (λ (p : ℕ). record { number = e.number; at = p }) (sym s.at) in
      record {
        here = subst S is (into s.before s.row s.after e.number s.among s.number.here);
        least = λ d k.
            let f = from d k in
            let no_more : e.at ≤ f.row.offset = l.least f.before f.row f.after d.number f.among f.found in
            let place = f.at in
            elim (eqb_tells e.at d.at) [
              | inl i ↦
                  let same = one_place s.before s.row s.after f.before f.row f.after (sym s.among ∙ f.among)
                  (subst (Pairs Differ) s.among single) (sym s.at ∙ i.1 ∙ sym f.at) in
                  let found : P s.before s.row d.number =
                  subst (λ (y : Row). P s.before y d.number) (sym same.1)
                  (subst (λ (ys : List Row). P ys f.row d.number) (sym same.0) f.found) in
                  inr (i.1, s.number.least d.number found)
              | inr i ↦ let n = i.1 in inl (omega arith)
            ];
      }

-- Of a set whose faults have one number, that at the least offset is the least.
pub least_numbered : (S : Fault → Type 0) (n p : ℕ) → S (record { number = n; at = p })
    → ((d : Fault) → S d → (p ≤ d.at) × (d.number ≡ n)) → IsLeastFault S (record { number = n; at = p })
least_numbered S n p here least = record {
  here = here;
  least = λ d s.
      let l = (least d s).0 in
      let k = (least d s).1 in
      elim (eqb_tells p d.at) [ inl i ↦ inr (i.1, omega arith) | inr i ↦ let m = i.1 in inl (omega arith) ];
}
