-- A sweep over rows that notes the fault of the least offset.
use Rattle.std.proofs.Common.{◌≡◌, ℕ, ◌+◌, ◌<◌, ◌≤◌, List, [], ◌∷◌, ◌++◌, length, Option, None, Some, IfSome, ◌⊎◌, inl}
use Rattle.std.proofs.Common.{inr, refl, sym, ap, subst, ◌∙◌, arith, length-append, append_assoc, take, get_or}
use Rattle.std.proofs.lemmas.List.{take_more}
use Rattle.std.specs.Prelude.{IsSomeAnd}
use Rattle.rom_fields.specs.declared.fault.Fault.{Fault}
use Rattle.record_forest.specs.declared.reference.Row.{Row}
use Rattle.record_forest.specs.Faults.{IsLeast}
use Rattle.record_forest.specs.Sweep.{IsLeastRowFault, StandsAtRow}
use Rattle.record_forest.specs.Lesser.{lesser_fault}
use Rattle.record_forest.proofs.Noted.{before_decides, not_after_at, truly_lesser_fault, lesser_fault_some}

-- a member of xs ++ x is x, or is in xs
pub split_push : {X : Type 0} (xs : List X) (x : X) (before : List X) (y : X) (after : List X)
    → xs ++ x ∷ [] ≡ before ++ y ∷ after
    → ((before ≡ xs) × (y ≡ x)) ⊎ ((rest : List X) × (xs ≡ before ++ y ∷ rest))
split_push [] x [] y after e = inl (refl, (let z : y ≡ x = cc in z))
split_push [] x (z ∷ before) y after e = let n : [] ≡ before ++ y ∷ after =
    cc in absurd (let m = length-append before (y ∷ after) in let k = ap length n in omega arith)
split_push (u ∷ xs) x [] y after e = inr (xs, (let z : u ≡ y = cc in ap (λ v. v ∷ xs) z))
split_push (u ∷ xs) x (z ∷ before) y after e =
    let n : xs ++ x ∷ [] ≡ before ++ y ∷ after = cc in
    let h : u ≡ z = cc in
    elim (split_push xs x before y after n) [
      | inl k ↦ inl ((let b = k.0 in cc), k.1)
      | inr k ↦ inr (k.0, (let r = k.1 in cc))
    ]

-- at most the noted one
abbrev pub NotedBy : Option Fault → ℕ → Type 0
NotedBy o p = IsSomeAnd o (λ e. e.at ≤ p)

lesser_kept : (o : Option Fault) (f : Fault) (p : ℕ) → NotedBy o p → NotedBy (lesser_fault o f) p
lesser_kept None f p h = absurd h
lesser_kept (Some d) f p h =
    elim (before_decides d f) [ inl k ↦ rw k.0 h | inr k ↦ let l = not_after_at f d k.1 in rw k.0 (omega arith) ]

lesser_here : (o : Option Fault) (f : Fault) → NotedBy (lesser_fault o f) f.at
lesser_here None f = omega arith
lesser_here (Some d) f =
    elim (before_decides d f) [ inl k ↦ rw k.0 (not_after_at d f k.1) | inr k ↦ rw k.0 (omega arith) ]

module _ (P : List Row → Row → ℕ → Type 0) where
  stands_more : (xs : List Row) (x : Row) (e : Fault) → StandsAtRow P xs e → StandsAtRow P (xs ++ x ∷ []) e
  stands_more xs x e s = record {
    before = s.before;
    row = s.row;
    after = s.after ++ x ∷ [];
    among = ap (λ (v : List Row). v ++ x ∷ []) s.among ∙ append_assoc s.before (s.row ∷ s.after) (x ∷ []);
    at = s.at;
    number = s.number;
  }

  stands_all : (xs : List Row) (x : Row) (o : Option Fault) → IfSome o (StandsAtRow P xs)
      → IfSome o (StandsAtRow P (xs ++ x ∷ []))
  stands_all xs x None h = h
  stands_all xs x (Some e) h = stands_more xs x e h

module _ {C : List Row → Row → Type 0} {P : List Row → Row → ℕ → Type 0} where
  pub sweep_start : IsLeastRowFault C P [] None
  sweep_start = record {
    clean = λ e before x after s. absurd
        (let m = length-append before (x ∷ after) in let k = ap length s in omega arith);
    noted = tt;
    least = λ before x after n s h. absurd
        (let m = length-append before (x ∷ after) in let k = ap length s in omega arith);
  }

  -- a row without a fault
  pub sweep_well : (xs : List Row) (x : Row) (o : Option Fault) → IsLeastRowFault C P xs o → C xs x
      → ((n : ℕ) → P xs x n → ⊥) → IsLeastRowFault C P (xs ++ x ∷ []) o
  sweep_well xs x o w well none = record {
    clean = λ e before y after s. elim (split_push xs x before y after s) [
      | inl k ↦ subst (λ (v : List Row). C v y) (sym k.0) (subst (C xs) (sym k.1) well)
      | inr k ↦ w.clean e before y k.0 k.1
    ];
    noted = stands_all P xs x o w.noted;
    least = λ before y after n s h. elim (split_push xs x before y after s) [
      | inl k ↦ absurd (none n (subst (λ (v : List Row). P v x n) k.0 (subst (λ (v : Row). P before v n) k.1 h)))
      | inr k ↦ w.least before y k.0 n k.1 h
    ];
  }

  -- a row with a fault, of which this number is the least
  pub sweep_fault : (xs : List Row) (x : Row) (number : ℕ) (o : Option Fault) → IsLeastRowFault C P xs o
      → IsLeast (P xs x) number
      → IsLeastRowFault C P (xs ++ x ∷ []) (lesser_fault o (record { number = number; at = x.offset }))
  sweep_fault xs x number o w here =
      let f : Fault = record { number = number; at = x.offset } in
      let mine : StandsAtRow P (xs ++ x ∷ []) f =
      record { before = xs; row = x; after = []; among = refl; at = refl; number = here } in
      record {
        clean = λ e. absurd (lesser_fault_some o f e);
        noted = truly_lesser_fault (StandsAtRow P (xs ++ x ∷ [])) o f (stands_all P xs x o w.noted) mine;
        least = λ before y after n s h. elim (split_push xs x before y after s) [
          | inl k ↦ subst (λ (v : Row). NotedBy (lesser_fault o f) v.offset) (sym k.1) (lesser_here o f)
          | inr k ↦ lesser_kept o f y.offset (w.least before y k.0 n k.1 h)
        ];
      }

-- what is past the end of a list of rows
abbrev pub blank : Row
blank = record { offset = 0; reference = record { source = 0; which = 0 }; directory = 0; parent = 0; depth = 0 }

module _ {C : List Row → Row → Type 0} {P : List Row → Row → ℕ → Type 0} where
  -- the same at an index of the rows
  pub sweep_well_at : (xs : List Row) (i : ℕ) (o q : Option Fault) → i < length xs → q ≡ o
      → IsLeastRowFault C P (take i xs) o → C (take i xs) (get_or xs i blank)
      → ((n : ℕ) → P (take i xs) (get_or xs i blank) n → ⊥) → IsLeastRowFault C P (take (i + 1) xs) q
  sweep_well_at xs i o q l e w well none =
      rw (e, take_more xs i blank l) (sweep_well (take i xs) (get_or xs i blank) o w well none)

  pub sweep_fault_at : (xs : List Row) (i number : ℕ) (o q : Option Fault) → i < length xs
      → q ≡ lesser_fault o (record { number = number; at = (get_or xs i blank).offset })
      → IsLeastRowFault C P (take i xs) o
      → IsLeast (P (take i xs) (get_or xs i blank)) number → IsLeastRowFault C P (take (i + 1) xs) q
  sweep_fault_at xs i number o q l e w here =
      rw (e, take_more xs i blank l) (sweep_fault (take i xs) (get_or xs i blank) number o w here)
