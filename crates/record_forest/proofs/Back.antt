-- References that describe a finite forest have no faults.
use Rattle.std.proofs.Common.{◌≡◌, ◌≢◌, ◌+◌, ℕ, Bool, true, false, inl, inr, refl, sym, ap, subst, ◌∙◌, arith, Option}
use Rattle.std.proofs.Common.{None, Some}
use Rattle.std.proofs.lemmas.Bool.{false≢true}
use Rattle.std.proofs.lemmas.List.Elements.{recursion_from_All}
use Rattle.std.specs.Prelude.{IsSome}
use Rattle.std.specs.List.{AllByRecursion as Every}
use Rattle.record_forest.specs.declared.reference.Reference.{Reference}
use Rattle.record_forest.specs.declared.reference.Row.{Row}
use Rattle.record_forest.specs.Members.{Has}
use Rattle.record_forest.specs.References.{References, edge, IsLive, Reached, top, more, AreLawful}
use Rattle.record_forest.specs.Forest.{Forest, none, at, Stands, rows, all_rows, IsForest}
use Rattle.record_forest.specs.Faults.{TooMany, Twice, IsClean}
use Rattle.record_forest.proofs.Lists.{every_join, every_weaker, has_left, has_right, has_cases, has_every, has_both}
use Rattle.record_forest.proofs.Lists.{pairs_pick, pairs_weaker, pairs_from, pigeon, same_some}

-- the row is of the record to which the reference x leads
abbrev pub By : Reference → Row → Type 0
By x y = y.reference ≡ x

not_live : (t : Option ℕ) → t ≡ None → IsSome t → ⊥
not_live t e live = false≢true (subst IsSome e live)

head_row : (g : References) (x : Reference) (directory parent depth : ℕ) (f : Forest) → Stands g x f → IsLive g x
    → Has (By x) (rows g x directory parent depth f)
head_row g x directory parent depth none s live = absurd (not_live (g.target x) s live)
head_row g x directory parent depth (at p own after) s live = inl refl

-- what follows from the reference of a row is that of another
links_in : (g : References) (x : Reference) (directory parent depth : ℕ) (f : Forest) → Stands g x f → (z : Reference)
    → Has (By z) (rows g x directory parent depth f)
    → (k : Bool) → IsLive g (edge g k z) → Has (By (edge g k z)) (rows g x directory parent depth f)
links_in g x directory parent depth none s z h k live = absurd h
links_in g x directory parent depth (at p own after) s z (inl e) true live =
    let own_rows = rows g (g.own x) p directory (depth + 1) own in
    inr (has_left (By (g.own z)) own_rows (rows g (g.after x) directory parent depth after)
    (subst (λ y. Has (By (g.own y)) own_rows) e
    (head_row g (g.own x) p directory (depth + 1) own s.1 (subst (λ y. IsLive g (g.own y)) (sym e) live))))
links_in g x directory parent depth (at p own after) s z (inl e) false live =
    let after_rows = rows g (g.after x) directory parent depth after in
    inr (has_right (By (g.after z)) (rows g (g.own x) p directory (depth + 1) own) after_rows
    (subst (λ y. Has (By (g.after y)) after_rows) e
    (head_row g (g.after x) directory parent depth after s.2 (subst (λ y. IsLive g (g.after y)) (sym e) live))))
links_in g x directory parent depth (at p own after) s z (inr h) k live =
    let own_rows = rows g (g.own x) p directory (depth + 1) own in
    let after_rows = rows g (g.after x) directory parent depth after in
    elim (has_cases (By z) own_rows after_rows h) [
      | inl i ↦ inr (has_left (By (edge g k z)) own_rows after_rows
          (links_in g (g.own x) p directory (depth + 1) own s.1 z i k live))
      | inr i ↦ inr (has_right (By (edge g k z)) own_rows after_rows
          (links_in g (g.after x) directory parent depth after s.2 z i k live))
    ]

-- the same, from the root on
all_links_in : (g : References) (f : Forest) → Stands g g.top f → (z : Reference) → Has (By z) (all_rows g f)
    → (k : Bool) → IsLive g (edge g k z) → Has (By (edge g k z)) (all_rows g f)
all_links_in g none s z h k live = absurd h
all_links_in g (at r own after) s z (inl e) true live =
    let own_rows = rows g (g.own g.top) r r 1 own in
    inr (has_left (By (g.own z)) own_rows (rows g (g.after g.top) r r 1 after)
    (subst (λ y. Has (By (g.own y)) own_rows) e
    (head_row g (g.own g.top) r r 1 own s.1 (subst (λ y. IsLive g (g.own y)) (sym e) live))))
all_links_in g (at r own after) s z (inl e) false live =
    let after_rows = rows g (g.after g.top) r r 1 after in
    inr (has_right (By (g.after z)) (rows g (g.own g.top) r r 1 own) after_rows
    (subst (λ y. Has (By (g.after y)) after_rows) e
    (head_row g (g.after g.top) r r 1 after s.2 (subst (λ y. IsLive g (g.after y)) (sym e) live))))
all_links_in g (at r own after) s z (inr h) k live =
    let own_rows = rows g (g.own g.top) r r 1 own in
    let after_rows = rows g (g.after g.top) r r 1 after in
    elim (has_cases (By z) own_rows after_rows h) [
      | inl i ↦ inr (has_left (By (edge g k z)) own_rows after_rows (links_in g (g.own g.top) r r 1 own s.1 z i k live))
      | inr i ↦ inr (has_right (By (edge g k z)) own_rows after_rows
          (links_in g (g.after g.top) r r 1 after s.2 z i k live))
    ]

-- the reference of a row leads to its offset
rows_lead : (g : References) (x : Reference) (directory parent depth : ℕ) (f : Forest) → Stands g x f
    → Every (λ (y : Row). g.target y.reference ≡ Some y.offset) (rows g x directory parent depth f)
rows_lead g x directory parent depth none s = tt
rows_lead g x directory parent depth (at p own after) s = (
  s.0,
  every_join (λ (y : Row). g.target y.reference ≡ Some y.offset) (rows g (g.own x) p directory (depth + 1) own)
      (rows g (g.after x) directory parent depth after)
      (rows_lead g (g.own x) p directory (depth + 1) own s.1)
      (rows_lead g (g.after x) directory parent depth after s.2),
)

pub all_rows_lead : (g : References) (f : Forest) → Stands g g.top f
    → Every (λ (y : Row). g.target y.reference ≡ Some y.offset) (all_rows g f)
all_rows_lead g none s = tt
all_rows_lead g (at r own after) s = (
  s.0,
  every_join (λ (y : Row). g.target y.reference ≡ Some y.offset) (rows g (g.own g.top) r r 1 own)
      (rows g (g.after g.top) r r 1 after)
      (rows_lead g (g.own g.top) r r 1 own s.1) (rows_lead g (g.after g.top) r r 1 after s.2),
)

module _ {g : References} {Sound : Reference → Type 0} {most : ℕ} {f : Forest} (lawful : AreLawful g Sound)
    (h : IsForest g Sound most f) where
  top_in : (e : Forest) → Stands g g.top e → Has (By g.top) (all_rows g e)
  top_in none s = absurd (not_live (g.target g.top) s lawful.starts)
  top_in (at r own after) s = inl refl

  -- each reached reference is that of a row
  pub reached_in : (x : Reference) → Reached g Sound x → Has (By x) (all_rows g f)
  reached_in x (top e) = subst (λ y. Has (By y) (all_rows g f)) (sym e) (top_in f h.stands)
  reached_in x (more {x = z} reached sound k e live) =
      subst (λ y. Has (By y) (all_rows g f)) e
      (all_links_in g f h.stands z (reached_in z reached) k (subst (IsLive g) (sym e) live))

  sound_at : (x : Reference) → Reached g Sound x → Sound x
  sound_at x reached =
      let y = has_every (λ (y : Row). Sound y.reference) (By x) (all_rows g f)
      (recursion_from_All (λ (y : Row). Sound y.reference) (all_rows g f) h.sound) (reached_in x reached) in
      subst Sound y.2 y.1

  -- the row of a reached reference to the record at q
  led_in : (x : Reference) (q : ℕ) → Reached g Sound x → g.target x ≡ Some q
      → Has (λ (y : Row). (g.target y.reference ≡ Some y.offset) × By x y) (all_rows g f)
  led_in x q reached leads = has_both (λ (y : Row). g.target y.reference ≡ Some y.offset) (By x) (all_rows g f)
      (all_rows_lead g f h.stands) (reached_in x reached)

  at_offset : (x : Reference) (q : ℕ) (y : Row) → g.target x ≡ Some q → (g.target y.reference ≡ Some y.offset) × By x y
      → y.offset ≡ q
  at_offset x q y leads k = same_some (sym k.0 ∙ ap g.target k.1 ∙ leads)

  once : (q : ℕ) → Twice g Sound q → ⊥
  once q t =
      let one = t.one in
      let other = t.other in
      let leads = t.one_leads in
      let leads' = t.other_leads in
      let P : Reference → Row → Type 0 = λ x y. (g.target y.reference ≡ Some y.offset) × By x y in
      let pick = pairs_pick (λ (z : Row) (w : Row). z.offset ≢ w.offset) (P one) (P other) (all_rows g f)
      (pairs_from (λ (z : Row) (w : Row). z.offset ≢ w.offset) (all_rows g f) h.single)
      (led_in one q t.one_reached leads) (led_in other q t.other_reached leads') in
      elim pick [
        | inl z ↦ t.differ (sym z.1.1 ∙ z.2.1)
        | inr z ↦
            let e = at_offset one q z.0 leads z.2 in
            let e' = at_offset other q z.1 leads' z.3 in
            elim z.4 [ inl n ↦ n (e ∙ sym e') | inr n ↦ n (e' ∙ sym e) ]
      ]

  few : TooMany g Sound most → ⊥
  few t =
      let M : Reference → Row → Type 0 = By in
      let apart = pairs_weaker (λ (x : Reference) (y : Reference). x ≢ y) (λ x y. (z : Row) → M x z → M y z → ⊥)
      (λ x y n z i j. n (sym i ∙ j)) t.0 t.1 in
      let each = every_weaker (Reached g Sound) (λ x. Has (M x) (all_rows g f)) reached_in t.0 t.2 in
      let count = pigeon M t.0 (all_rows g f) apart each in
      let limit = h.few in
      let over = t.3 in
      omega arith

  pub clean_of : IsClean g Sound most
  clean_of = record { few = few; sound = sound_at; once = once }
