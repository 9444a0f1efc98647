-- The order of the references of one list, and of the rows of a forest.
use Rattle.std.proofs.Common.{◌≡◌, ◌≢◌, ℕ, ◌+◌, List, Option, ◌⊎◌, inl, inr, refl, sym, subst, ◌∙◌}
use Rattle.std.specs.Prelude.{IsSome}
use Rattle.std.specs.List.{AllByRecursion as Every}
use Rattle.record_forest.specs.declared.reference.Reference.{Reference}
use Rattle.record_forest.specs.declared.reference.Row.{Row}
use Rattle.record_forest.specs.Members.{Has, Pairs}
use Rattle.record_forest.specs.References.{References, IsLive}
use Rattle.record_forest.specs.Forest.{Forest, none, at, Stands, rows}
use Rattle.record_forest.proofs.Lists.{every_join, every_left, every_right, every_weaker, has_left, has_right}
use Rattle.record_forest.proofs.Lists.{has_every, pairs_join, pairs_left, pairs_right, pairs_cross}
use Rattle.record_forest.proofs.Exact.{Differ}

-- some row is at this offset
abbrev pub IsOffset : List Row → ℕ → Type 0
IsOffset xs p = Has (λ (z : Row). z.offset ≡ p) xs

-- the directory of each row is that of the list, or is that of a row
pub inside : (g : References) (x : Reference) (directory parent depth : ℕ) (f : Forest)
    → Every (λ (y : Row). (y.directory ≡ directory) ⊎ IsOffset (rows g x directory parent depth f) y.directory)
    (rows g x directory parent depth f)
inside g x directory parent depth none = tt
inside g x directory parent depth (at p own after) =
    let own_rows = rows g (g.own x) p directory (depth + 1) own in
    let after_rows = rows g (g.after x) directory parent depth after in
    let all = rows g x directory parent depth (at p own after) in
    let Inside : Row → Type 0 = λ y. (y.directory ≡ directory) ⊎ IsOffset all y.directory in (
      inl refl,
      every_join Inside own_rows after_rows
          (every_weaker (λ (y : Row). (y.directory ≡ p) ⊎ IsOffset own_rows y.directory) Inside
          (λ y c. elim c [
            | inl e ↦ inr (inl (sym e))
            | inr h ↦ inr
                (inr (has_left (λ (z : Row). z.offset ≡ y.directory) own_rows after_rows h))
          ])
          own_rows (inside g (g.own x) p directory (depth + 1) own))
          (every_weaker (λ (y : Row). (y.directory ≡ directory) ⊎ IsOffset after_rows y.directory) Inside
          (λ y c. elim c [
            | inl e ↦ inl e
            | inr h ↦ inr
                (inr (has_right (λ (z : Row). z.offset ≡ y.directory) own_rows after_rows h))
          ])
          after_rows (inside g (g.after x) directory parent depth after)),
    )

-- so none is in a list that is elsewhere
pub elsewhere : (p d : ℕ) (xs ys : List Row) → p ≢ d → Every (λ (y : Row). y.offset ≢ d) xs
    → Every (λ (y : Row). (y.directory ≡ p) ⊎ IsOffset xs y.directory) ys → Every (λ (y : Row). y.directory ≢ d) ys
elsewhere p d xs ys n h k =
    every_weaker (λ (y : Row). (y.directory ≡ p) ⊎ IsOffset xs y.directory) (λ (y : Row). y.directory ≢ d)
    (λ y c e. elim c [
      | inl i ↦ n (sym i ∙ e)
      | inr z ↦ let t = has_every (λ (z : Row). z.offset ≢ d)
          (λ (z : Row). z.offset ≡ y.directory) xs h z in t.1 (t.2 ∙ e)
    ])
    ys k

-- rows of the list of one record, and of those after it, are not of one list
crossing : (p d : ℕ) (xs ys : List Row) → p ≢ d → Every (λ (y : Row). y.offset ≢ d) xs
    → Every (λ (y : Row). p ≢ y.offset) ys → Every (λ (y : Row). Every (λ (z : Row). y.offset ≢ z.offset) ys) xs
    → Every (λ (y : Row). (y.directory ≡ p) ⊎ IsOffset xs y.directory) xs
    → Every (λ (y : Row). (y.directory ≡ d) ⊎ IsOffset ys y.directory) ys
    → Every (λ (y : Row). Every (λ (z : Row). z.directory ≢ y.directory) ys) xs
crossing p d xs ys n own_out after_p cross own_inside after_inside =
    every_weaker (λ (y : Row). (y.directory ≡ p) ⊎ IsOffset xs y.directory)
    (λ (y : Row). Every (λ (z : Row). z.directory ≢ y.directory) ys)
    (λ y c. elim c [
      | inl e ↦ elsewhere d y.directory ys ys (λ i. n (sym (i ∙ e)))
          (every_weaker (λ (z : Row). p ≢ z.offset) (λ (z : Row). z.offset ≢ y.directory)
          (λ z m i. m (sym (i ∙ e))) ys after_p) after_inside
      | inr h ↦
          let w = has_every (λ (w : Row). w.offset ≢ d) (λ (w : Row). w.offset ≡ y.directory) xs own_out h in
          let v = has_every (λ (w : Row). Every (λ (z : Row). w.offset ≢ z.offset) ys)
          (λ (w : Row). w.offset ≡ y.directory) xs cross h in
          elsewhere d y.directory ys ys (λ i. w.1 (w.2 ∙ sym i))
          (every_weaker (λ (z : Row). v.0.offset ≢ z.offset) (λ (z : Row). z.offset ≢ y.directory)
          (λ z m i. m (v.2 ∙ sym i)) ys v.1) after_inside
    ]) xs own_inside

-- What holds of the first reference of a list, and with one to a valid record of the one after it, holds of each row of
-- the list.
module _ (g : References) (Sound : Reference → Type 0) (C : Reference → Type 0)
    (closed : (x y : Reference) → C x → Sound x → g.after x ≡ y → IsLive g y → C y) where
  pub along : (x : Reference) (directory parent depth : ℕ) (f : Forest) → Stands g x f → (IsLive g x → C x)
      → Every (λ (y : Row). Sound y.reference) (rows g x directory parent depth f)
      → Every (λ (y : Row). y.offset ≢ directory) (rows g x directory parent depth f)
      → Every (λ (y : Row). y.directory ≡ directory → C y.reference) (rows g x directory parent depth f)
  along x directory parent depth none s c sound out = tt
  along x directory parent depth (at p own after) s c sound out =
      let own_rows = rows g (g.own x) p directory (depth + 1) own in
      let after_rows = rows g (g.after x) directory parent depth after in
      let live : IsLive g x = subst (λ (t : Option ℕ). IsSome t) (sym s.0) refl in
      let here : C x = c live in
      let own_out = every_left (λ (y : Row). y.offset ≢ directory) own_rows after_rows out.1 in
      let others =
      elsewhere p directory own_rows own_rows out.0 own_out (inside g (g.own x) p directory (depth + 1) own) in
      let rest = along (g.after x) directory parent depth after s.2 (λ l. closed x (g.after x) here sound.0 refl l)
      (every_right (λ (y : Row). Sound y.reference) own_rows after_rows sound.1)
      (every_right (λ (y : Row). y.offset ≢ directory) own_rows after_rows out.1) in (
        (λ i. here),
        every_join (λ (y : Row). y.directory ≡ directory → C y.reference) own_rows after_rows
            (every_weaker (λ (y : Row). y.directory ≢ directory) (λ (y : Row). y.directory ≡ directory → C y.reference)
            (λ y n i. absurd (n i)) own_rows others) rest,
      )

-- the reference y comes after x in a list
pub data Follows (g : References) (Sound : Reference → Type 0) (x : Reference) : Reference → Type 0 where
  next : {y : Reference} → Sound x → g.after x ≡ y → IsLive g y → Follows g Sound x y
  further : {y z : Reference} → Follows g Sound x y → Sound y → g.after y ≡ z → IsLive g z → Follows g Sound x z

-- of two rows of one list, the later one's reference comes after the other's
abbrev pub Comes : (g : References) (Sound : Reference → Type 0) → Row → Row → Type 0
Comes g Sound y z = y.directory ≡ z.directory → Follows g Sound y.reference z.reference

module _ (g : References) (Sound : Reference → Type 0) where
  -- the rows of a list come after its first
  pub first_comes : (me : Row) (parent depth : ℕ) (after : Forest) → Stands g (g.after me.reference) after
      → Sound me.reference
      → Every (λ (y : Row). Sound y.reference) (rows g (g.after me.reference) me.directory parent depth after)
      → Every (λ (y : Row). y.offset ≢ me.directory) (rows g (g.after me.reference) me.directory parent depth after)
      → Every (Comes g Sound me) (rows g (g.after me.reference) me.directory parent depth after)
  first_comes me parent depth after s sound sounds out =
      every_weaker (λ (y : Row). y.directory ≡ me.directory → Follows g Sound me.reference y.reference)
      (Comes g Sound me) (λ y k i. k (sym i)) (rows g (g.after me.reference) me.directory parent depth after)
      (along g Sound (Follows g Sound me.reference) (λ x y c k e l. further c k e l)
      (g.after me.reference) me.directory parent depth after s (λ l. next sound refl l) sounds out)

  -- The rows of a list are in its order, and so do those of the lists below it.
  pub ordered : (x : Reference) (directory parent depth : ℕ) (f : Forest) → Stands g x f
      → Every (λ (y : Row). Sound y.reference) (rows g x directory parent depth f)
      → Every (λ (y : Row). y.offset ≢ directory) (rows g x directory parent depth f)
      → Pairs Differ (rows g x directory parent depth f) → Pairs (Comes g Sound) (rows g x directory parent depth f)
  ordered x directory parent depth none s sound out single = tt
  ordered x directory parent depth (at p own after) s sound out single =
      let own_rows = rows g (g.own x) p directory (depth + 1) own in
      let after_rows = rows g (g.after x) directory parent depth after in
      let me : Row = record { offset = p; reference = x; directory = directory; parent = parent; depth = depth } in
      let own_out = every_left (λ (y : Row). y.offset ≢ directory) own_rows after_rows out.1 in
      let after_out = every_right (λ (y : Row). y.offset ≢ directory) own_rows after_rows out.1 in
      let own_sound = every_left (λ (y : Row). Sound y.reference) own_rows after_rows sound.1 in
      let after_sound = every_right (λ (y : Row). Sound y.reference) own_rows after_rows sound.1 in
      let own_p = every_left (λ (y : Row). p ≢ y.offset) own_rows after_rows single.0 in
      let after_p = every_right (λ (y : Row). p ≢ y.offset) own_rows after_rows single.0 in
      let own_inside = inside g (g.own x) p directory (depth + 1) own in
      let after_inside = inside g (g.after x) directory parent depth after in
      let others = elsewhere p directory own_rows own_rows out.0 own_out own_inside in
      let cross = crossing p directory own_rows after_rows out.0 own_out after_p
      (pairs_cross Differ own_rows after_rows single.1) own_inside after_inside in (
        every_join (Comes g Sound me) own_rows after_rows
            (every_weaker (λ (y : Row). y.directory ≢ directory) (Comes g Sound me)
            (λ y n i. absurd (n (sym i))) own_rows others)
            (first_comes me parent depth after s.2 sound.0 after_sound after_out),
        pairs_join (Comes g Sound) own_rows after_rows
            (ordered (g.own x) p directory (depth + 1) own s.1 own_sound
            (every_weaker (λ (y : Row). p ≢ y.offset) (λ (y : Row). y.offset ≢ p)
            (λ y n i. n (sym i)) own_rows own_p) (pairs_left Differ own_rows after_rows single.1))
            (ordered (g.after x) directory parent depth after s.2 after_sound after_out
            (pairs_right Differ own_rows after_rows single.1))
            (every_weaker (λ (y : Row). Every (λ (z : Row). z.directory ≢ y.directory) after_rows)
            (λ (y : Row). Every (Comes g Sound y) after_rows)
            (λ y k. every_weaker (λ (z : Row). z.directory ≢ y.directory) (Comes g Sound y)
            (λ z n i. absurd (n (sym i))) after_rows k) own_rows cross),
      )
