-- References without faults describe a finite forest.
use Rattle.std.proofs.Common.{◌≡◌, ◌+◌, ◌-◌, ◌*◌, ◌<◌, ◌≤◌, ℕ, zero, suc, List, [], ◌∷◌, ◌++◌, length, ◌⊎◌, inl, inr}
use Rattle.std.proofs.Common.{refl, arith, Option, None, Some}
use Rattle.std.proofs.lemmas.Bool.{cases_lt, false≢true}
use Rattle.std.proofs.lemmas.Bool.Decides.{eqb_tells}
use Rattle.std.specs.Prelude.{IsSome}
use Rattle.record_forest.specs.declared.reference.Reference.{Reference}
use Rattle.rom_fields.specs.declared.fault.Fault.{Fault}
use Rattle.record_forest.specs.declared.reference.Row.{Row}
use Rattle.record_forest.specs.declared.traversal.Pending.{Pending}
use Rattle.record_forest.specs.References.{References, top, AreLawful}
use Rattle.record_forest.specs.Forest.{Forest, IsForest}
use Rattle.record_forest.specs.Faults.{IsClean}
use Rattle.record_forest.proofs.Alone.{none_allowed}
use Rattle.record_forest.proofs.Found.{has_at}
use Rattle.record_forest.proofs.Grows.{link_to, own_of, after_of, row_of, below_root, root_row}
use Rattle.record_forest.proofs.Whole.{Whole, whole_start, whole_none, whole_many, whole_twice_here, whole_reached}
use Rattle.record_forest.proofs.Whole.{whole_new, whole_done}

-- a record has no fault
abbrev Faultless : Reference → Fault → Type 0
Faultless x e = ⊥

pub none_or_some : (t : Option ℕ) → (t ≡ None) ⊎ ((p : ℕ) × (t ≡ Some p))
none_or_some None = inl refl
none_or_some (Some p) = inr (p, refl)

pub live_some : (t : Option ℕ) → IsSome t → (p : ℕ) × (t ≡ Some p)
live_some None h = absurd (false≢true h)
live_some (Some p) h = (p, refl)

-- what a traversal would do, for at most n steps
run : (n : ℕ) {g : References} {Sound : Reference → Type 0} (most : ℕ) → AreLawful g Sound → IsClean g Sound most
    → (count : ℕ) (found : List Row) (pending : List Pending)
    → Whole g Sound Faultless most found pending count None None → 2 * (most - count) + length pending ≤ n
    → (f : Forest) × IsForest g Sound most f
run n most lawful clean count found [] w fuel = let d = whole_done w refl refl in (d.0, d.2)
run zero most lawful clean count found (q ∷ qs) w fuel = absurd (omega arith)
run (suc n) {g} {Sound} most lawful clean count found (q ∷ qs) w fuel =
    elim (none_or_some q.edge.target) [
      | inl e ↦ run n most lawful clean count found qs (whole_none w e) (omega arith)
      | inr s ↦
          let p = s.0 in
          let e = s.1 in
          elim (eqb_tells count most) [
            | inl full ↦ absurd (clean.few (whole_many w p e full.1))
            | inr room ↦ elim (has_at p found) [
              | inl old ↦ absurd (clean.once p (whole_twice_here w p e old))
              | inr fresh ↦
                  let sound = clean.sound q.edge.reference (whole_reached w p e) in
                  let fits = w.fits in
                  let other = room.1 in
                  run n most lawful clean (count + 1) (found ++ row_of q p ∷ []) (own_of g q p ∷ after_of g q ∷ qs)
                  (whole_new lawful w p e other sound (λ d h. h) fresh) (omega arith)
            ]
          ]
    ]

pub forest_of : (g : References) (Sound : Reference → Type 0) (most : ℕ) → AreLawful g Sound → IsClean g Sound most
    → (f : Forest) × IsForest g Sound most f
forest_of g Sound most lawful clean =
    let r = live_some (g.target g.top) lawful.starts in
    let sound = clean.sound g.top (top refl) in
    let some : 0 < most =
    elim (cases_lt 0 most) [ inl h ↦ h | inr h ↦ absurd (clean.few (none_allowed g Sound most (omega arith))) ] in
    let w : Whole g Sound Faultless most (root_row g r.0 ∷ [])
    (below_root r.0 (link_to g (g.own g.top)) ∷ below_root r.0 (link_to g (g.after g.top)) ∷ []) 1 None None =
    whole_start most r.0 lawful r.1 sound (λ d h. h) some in
    run (2 * most) most lawful clean 1 (root_row g r.0 ∷ [])
    (below_root r.0 (link_to g (g.own g.top)) ∷ below_root r.0 (link_to g (g.after g.top)) ∷ []) w (omega arith)
