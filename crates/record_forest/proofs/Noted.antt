-- What a traversal has noted: the least fault of a record, and the least offset to which two references lead.
use Rattle.std.proofs.Common.{◌≡◌, ◌≤◌, ℕ, Bool, true, false, List, [], ◌∷◌, ◌++◌, ◌⊎◌, inl, inr, refl, sym, subst, ◌∙◌}
use Rattle.std.proofs.Common.{arith, Option, Some, None, IfSome}
use Rattle.std.proofs.lemmas.Bool.{cases_lt, lt-ltb, le-ltb, lt-leb, le-leb}
use Rattle.std.proofs.lemmas.Bool.Decides.{eqb_tells}
use Rattle.std.specs.Prelude.{nat_lt, nat_le, ◌==◌, ◌||◌, ◌&&◌}
use Rattle.std.specs.List.{AllByRecursion as Every}
use Rattle.record_forest.specs.declared.reference.Reference.{Reference}
use Rattle.rom_fields.specs.declared.fault.Fault.{Fault}
use Rattle.record_forest.specs.Members.{Pairs}
use Rattle.record_forest.specs.References.{References, Reached}
use Rattle.record_forest.specs.Faults.{HasFault, Twice, NotAfter, IsLeastFault, IsLeastFaultOf}
use Rattle.record_forest.specs.Lesser.{lesser, lesser_fault, lesser_of_both}
use Rattle.record_forest.proofs.Lists.{every_join, every_weaker, every_all, same_some, pairs_push, pairs_weaker}

-- one at most q was noted
abbrev pub Caught : Option ℕ → ℕ → Type 0
Caught None q = ⊥
Caught (Some m) q = m ≤ q

pub caught_lesser : (o : Option ℕ) (q : ℕ) → Caught (lesser o q) q
caught_lesser None q = omega arith
caught_lesser (Some m) q =
    elim (cases_lt m q) [ inl l ↦ rw (lt-ltb m q l) (omega arith) | inr l ↦ rw (le-ltb m q l) (omega arith) ]

pub caught_kept : (o : Option ℕ) (q p : ℕ) → Caught o p → Caught (lesser o q) p
caught_kept None q p h = absurd h
caught_kept (Some m) q p h =
    elim (cases_lt m q) [ inl l ↦ rw (lt-ltb m q l) h | inr l ↦ rw (le-ltb m q l) (omega arith) ]

pub truly_lesser : (P : ℕ → Type 0) (o : Option ℕ) (q : ℕ) → IfSome o P → P q → IfSome (lesser o q) P
truly_lesser P None q h k = k
truly_lesser P (Some m) q h k = elim (cases_lt m q) [ inl l ↦ rw (lt-ltb m q l) h | inr l ↦ rw (le-ltb m q l) k ]

pub lesser_some : (o : Option ℕ) (q : ℕ) → lesser o q ≡ None → ⊥
lesser_some None q e = cc
lesser_some (Some m) q e = cc

-- the test of two faults
abbrev pub Before : Fault → Fault → Bool
Before d e = nat_lt d.at e.at || (d.at == e.at && nat_le d.number e.number)

pub before_decides : (d e : Fault) → ((Before d e ≡ true) × NotAfter d e) ⊎ ((Before d e ≡ false) × NotAfter e d)
before_decides d e =
    elim (cases_lt d.at e.at) [
      | inl l ↦ inl (rw (lt-ltb d.at e.at l) refl, inl l)
      | inr l ↦ elim (eqb_tells d.at e.at) [
        | inl same ↦ elim (cases_lt e.number d.number) [
          | inl less ↦ inr (
            rw (le-ltb d.at e.at l, same.0, lt-leb d.number e.number less) refl,
            inr (sym same.1, omega arith),
          )
          | inr less ↦ inl (rw (le-ltb d.at e.at l, same.0, le-leb d.number e.number less) refl, inr (same.1, less))
        ]
        | inr other ↦ inr (rw (le-ltb d.at e.at l, other.0) refl, inl (omega arith))
      ]
    ]

pub not_after_at : (d e : Fault) → NotAfter d e → d.at ≤ e.at
not_after_at d e (inl l) = omega arith
not_after_at d e (inr l) = omega arith

not_after_same : (e : Fault) → NotAfter e e
not_after_same e = inr (refl, omega arith)

pub not_after_both : (c d e : Fault) → NotAfter c d → NotAfter d e → NotAfter c e
not_after_both c d e (inl l) (inl m) = inl (omega arith)
not_after_both c d e (inl l) (inr m) = inl (omega arith)
not_after_both c d e (inr l) (inl m) = inl (omega arith)
not_after_both c d e (inr l) (inr m) = inr (l.0 ∙ m.0, omega arith)

-- one not after d was noted
abbrev pub CaughtFault : Option Fault → Fault → Type 0
CaughtFault None d = ⊥
CaughtFault (Some e) d = NotAfter e d

caught_fault_lesser : (o : Option Fault) (e d : Fault) → NotAfter e d → CaughtFault (lesser_fault o e) d
caught_fault_lesser None e d h = h
caught_fault_lesser (Some c) e d h =
    elim (before_decides c e) [ inl t ↦ rw t.0 (not_after_both c e d t.1 h) | inr t ↦ rw t.0 h ]

caught_fault_kept : (o : Option Fault) (e d : Fault) → CaughtFault o d → CaughtFault (lesser_fault o e) d
caught_fault_kept None e d h = absurd h
caught_fault_kept (Some c) e d h =
    elim (before_decides c e) [ inl t ↦ rw t.0 h | inr t ↦ rw t.0 (not_after_both e c d t.1 h) ]

pub truly_lesser_fault : (P : Fault → Type 0) (o : Option Fault) (e : Fault) → IfSome o P → P e
    → IfSome (lesser_fault o e) P
truly_lesser_fault P None e h k = k
truly_lesser_fault P (Some c) e h k = elim (before_decides c e) [ inl t ↦ rw t.0 h | inr t ↦ rw t.0 k ]

pub lesser_fault_some : (o : Option Fault) (e : Fault) → lesser_fault o e ≡ None → ⊥
lesser_fault_some None e i = cc
lesser_fault_some (Some c) e i = cc

-- x leads to a valid record, or none of its faults is before the noted one
abbrev pub Judged : (Reference → Type 0) → (Reference → Fault → Type 0) → Option Fault → Reference → Type 0
Judged Sound Faulty o x =
    (Sound x × ((d : Fault) → Faulty x d → ⊥)) ⊎ ((o ≡ None → ⊥) × ((d : Fault) → Faulty x d → CaughtFault o d))

-- the least fault of those that were looked at
pub record Faults (g : References) (Sound : Reference → Type 0) (Faulty : Reference → Fault → Type 0)
    (done : List Reference) (o : Option Fault) : Type 0 where
  pub truly : IfSome o (HasFault g Sound Faulty)
  pub judged : Every (Judged Sound Faulty o) done

module _ {g : References} {Sound : Reference → Type 0} {Faulty : Reference → Fault → Type 0} {done : List Reference}
    {o : Option Fault} where
  -- the record that q leads to is valid
  pub faults_same : (q : Reference) → Faults g Sound Faulty done o → Sound q → ((d : Fault) → Faulty q d → ⊥)
      → Faults g Sound Faulty (done ++ q ∷ []) o
  faults_same q h sound faultless = record {
    truly = h.truly;
    judged = every_join (Judged Sound Faulty o) done (q ∷ []) h.judged
        (inl (sound, faultless), tt);
  }

  -- the record that q leads to has the least fault e
  pub faults_more : (q : Reference) (e : Fault) → Faults g Sound Faulty done o → Reached g Sound q
      → IsLeastFault (Faulty q) e → Faults g Sound Faulty (done ++ q ∷ []) (lesser_fault o e)
  faults_more q e h reached least =
      let o' : Option Fault = lesser_fault o e in
      let wider : (x : Reference) → Judged Sound Faulty o x → Judged Sound Faulty o' x =
      λ x k. elim k [
        | inl s ↦ inl s
        | inr s ↦ inr
            (lesser_fault_some o e, λ d f. caught_fault_kept o e d (s.1 d f))
      ] in
      record {
        truly = truly_lesser_fault (HasFault g Sound Faulty) o e h.truly
            (record { reference = q; reached = reached; faulty = least.here });
        judged = every_join (Judged Sound Faulty o') done (q ∷ [])
            (every_weaker (Judged Sound Faulty o) (Judged Sound Faulty o') wider done h.judged)
            (inr (lesser_fault_some o e, λ d f. caught_fault_lesser o e d (least.least d f)), tt);
      }

-- if both lead to a valid record at q, one at most q was noted
abbrev pub Noted : References → (Reference → Type 0) → Option ℕ → Reference → Reference → Type 0
Noted g Sound o x y = Sound x → Sound y → (q : ℕ) → g.target x ≡ Some q → g.target y ≡ Some q → Caught o q

-- the least offset to which two of those that were looked at lead
pub record Twices (g : References) (Sound : Reference → Type 0) (done : List Reference) (o : Option ℕ) : Type 0 where
  pub truly : IfSome o (Twice g Sound)
  pub caught : Pairs (Noted g Sound o) done

module _ {g : References} {Sound : Reference → Type 0} {done : List Reference} {o : Option ℕ} where
  -- no other that was looked at leads to the same record
  pub twices_same : (q : Reference) → Twices g Sound done o
      → Every (λ x. Sound x → Sound q → g.target x ≡ g.target q → ⊥) done → Twices g Sound (done ++ q ∷ []) o
  twices_same q h apart = record {
    truly = h.truly;
    caught = pairs_push (Noted g Sound o) done q h.caught
        (every_weaker (λ x. Sound x → Sound q → g.target x ≡ g.target q → ⊥) (λ x. Noted g Sound o x q)
        (λ x n s t p i j. absurd (n s t (i ∙ sym j))) done apart);
  }

  -- another that was looked at leads to the same record
  pub twices_more : (q : Reference) (at : ℕ) → Twices g Sound done o → g.target q ≡ Some at → Twice g Sound at
      → Twices g Sound (done ++ q ∷ []) (lesser o at)
  twices_more q at h leads twice =
      let o' : Option ℕ = lesser o at in
      let here : (x : Reference) → Noted g Sound o' x q =
      λ x s t p i j. let e : at ≡ p = same_some (sym leads ∙ j) in subst (Caught o') e (caught_lesser o at) in
      record {
        truly = truly_lesser (Twice g Sound) o at h.truly twice;
        caught = pairs_push (Noted g Sound o') done q
            (pairs_weaker (Noted g Sound o) (Noted g Sound o')
            (λ x y k s t p i j. caught_kept o at p (k s t p i j)) done h.caught)
            (every_all (λ x. Noted g Sound o' x q) here done);
      }

-- the lesser of the least faults of two kinds is the least of both
module _ {P Q R : Fault → Type 0} (left : (f : Fault) → P f → R f) (right : (f : Fault) → Q f → R f)
    (either : (f : Fault) → R f → P f ⊎ Q f) where
  some_less : (d e : Fault) → IsLeastFaultOf P (Some d) → IsLeastFaultOf Q (Some e)
      → IsLeastFaultOf R (lesser_fault (Some d) e)
  some_less d e x y = elim (before_decides d e) [
    | inl h ↦ rw h.0 (record {
      here = left d x.here;
      least = λ f r. elim (either f r) [ inl q ↦ x.least f q | inr q ↦ not_after_both d e f h.1 (y.least f q) ];
    })
    | inr h ↦ rw h.0 (record {
      here = right e y.here;
      least = λ f r. elim (either f r) [ inl q ↦ not_after_both e d f h.1 (x.least f q) | inr q ↦ y.least f q ];
    })
  ]

  pub least_joined : (u v : Option Fault) → IsLeastFaultOf P u → IsLeastFaultOf Q v
      → IsLeastFaultOf R (lesser_of_both u v)
  least_joined None None x y =
      record { here = tt; least = λ f r. elim (either f r) [ inl q ↦ x.least f q | inr q ↦ y.least f q ] }
  least_joined None (Some e) x y = record
      { here = right e y.here; least = λ f r. elim (either f r) [ inl q ↦ absurd (x.least f q) | inr q ↦ y.least f q ] }
  least_joined (Some d) None x y = record
      { here = left d x.here; least = λ f r. elim (either f r) [ inl q ↦ x.least f q | inr q ↦ absurd (y.least f q) ] }
  least_joined (Some d) (Some e) x y = some_less d e x y
