-- A row in order is known by its entries.
use Rattle.std.proofs.Common.{◌≡◌, ℕ, true, false, cond, ◌⊎◌, inl, inr, List, [], ◌∷◌, ◌++◌, refl, sym, ap, subst, ◌∙◌}
use Rattle.std.specs.List.{AllByRecursion as Every}
use Rattle.record_forest.proofs.Lists.{has_of, every_weaker, every_join, pairs_join}
use Rattle.cramfs_format.specs.Tree.{precedes}
use Rattle.cramfs_format.proofs.Orders.{precedes_on, never_self}
use Rattle.manifest_tree.specs.Names.{Names, nothing, leaf, link, subdirectory}
use Rattle.manifest_layout.proofs.Sorted.{AreSorted}
use Rattle.plan_rows.specs.Entries.{Entry, entries, put_entry, Rise, Holds}
use Rattle.plan_rows.proofs.Keys.{ends, longer}
use Rattle.plan_rows.proofs.Putting.{HaveNoZeros, Under, Through, own_key, through, own_under, all_behind}

-- past the first entry
past : (a b : Entry) (os bs : List Entry) → b ≡ a → Every (λ d. precedes a.key d.key ≡ true) os
    → ((e : Entry) → Holds (a ∷ os) e → Holds (b ∷ bs) e) → (e : Entry) → Holds os e → Holds bs e
past a b os bs same r to e h = elim (to e (inr h)) [
  | inl k ↦ absurd (never_self a.key (ap (λ (d : Entry). precedes a.key d.key) (sym same ∙ k)
      ∙ has_of (λ (d : Entry). precedes a.key d.key ≡ true) os e h r))
  | inr k ↦ k
]

joined : (x y : Entry) (xs ys : List Entry) → y ≡ x → xs ≡ ys → x ∷ xs ≡ y ∷ ys
joined x y xs ys e f = ap (λ (d : Entry). d ∷ xs) (sym e) ∙ ap (λ (ds : List Entry). y ∷ ds) f

-- two rows that rise and hold the same entries are one
pub same_row : (xs ys : List Entry) → Rise xs → Rise ys → ((e : Entry) → Holds xs e → Holds ys e)
    → ((e : Entry) → Holds ys e → Holds xs e) → xs ≡ ys
same_row [] [] p q f g = refl
same_row [] (y ∷ ys) p q f g = absurd (g y (inl refl))
same_row (x ∷ xs) [] p q f g = absurd (f x (inl refl))
same_row (x ∷ xs) (y ∷ ys) p q f g = elim (f x (inl refl)) [
  | inl e ↦ joined x y xs ys e (same_row xs ys p.1 q.1 (past x y xs ys e p.0 f) (past y x ys xs (sym e) q.0 g))
  | inr h ↦ elim (g y (inl refl)) [
    | inl e ↦ joined x y xs ys (sym e) (same_row xs ys p.1 q.1 (past x y xs ys (sym e) p.0 f) (past y x ys xs e q.0 g))
    | inr k ↦
        let after : precedes y.key x.key ≡ true = has_of (λ (d : Entry). precedes y.key d.key ≡ true) ys x h q.0 in
        let before : precedes x.key y.key ≡ true = has_of (λ (d : Entry). precedes x.key d.key ≡ true) xs y k p.0 in
        absurd (never_self x.key (precedes_on x.key y.key x.key before after))
  ]
]

-- an entry more
pub put_holds : (d : Entry) (es : List Entry) (e : Entry) → Holds (put_entry d es) e → (d ≡ e) ⊎ Holds es e
put_holds d [] e h = h
put_holds d (x ∷ xs) e h = elim (precedes d.key x.key) as
    (λ t. Holds (cond t (d ∷ x ∷ xs) (x ∷ put_entry d xs)) e → (d ≡ e) ⊎ ((x ≡ e) ⊎ Holds xs e)) [
      | true ↦ λ k. k
      | false ↦ λ k. elim k [
        | inl a ↦ inr (inl a)
        | inr a ↦ elim (put_holds d xs e a)
            [ inl b ↦ inl b | inr b ↦ inr (inr b) ]
      ]
    ] h

pub holds_put : (d : Entry) (es : List Entry) (e : Entry) → (d ≡ e) ⊎ Holds es e → Holds (put_entry d es) e
holds_put d [] e h = h
holds_put d (x ∷ xs) e h = elim (precedes d.key x.key) as (λ t. Holds (cond t (d ∷ x ∷ xs) (x ∷ put_entry d xs)) e) [
  | true ↦ h
  | false ↦ elim h [
    | inl a ↦ inr (holds_put d xs e (inl a))
    | inr a ↦ elim a
        [ inl b ↦ inl b | inr b ↦ inr (holds_put d xs e (inr b)) ]
  ]
]

-- the row of a tree rises
pub tree_rises : (k : List ℕ) (n : Names) → HaveNoZeros n → AreSorted n → Rise (entries k n)
tree_rises k nothing z h = tt
tree_rises k (leaf name i after) z h = (
  subst (λ (key : List ℕ). Every (λ e. precedes key e.key ≡ true) (entries k after)) (sym (own_key k name))
      (all_behind k name [] after ends z.1 h.0),
  tree_rises k after z.1 h.1,
)
tree_rises k (link name i after) z h = (
  subst (λ (key : List ℕ). Every (λ e. precedes key e.key ≡ true) (entries k after)) (sym (own_key k name))
      (all_behind k name [] after ends z.1 h.0),
  tree_rises k after z.1 h.1,
)
tree_rises k (subdirectory name i own after) z h =
    let R : Entry → Entry → Type 0 = λ a b. precedes a.key b.key ≡ true in
    let below = every_weaker (Through (k ++ 0 ∷ name) own) (λ (e : Entry). precedes (k ++ 0 ∷ name) e.key ≡ true)
    (λ e t. ap (precedes (k ++ 0 ∷ name)) t.2.2 ∙ longer (k ++ 0 ∷ name) 0 (t.0 ++ t.2.0)) (entries (k ++ 0 ∷ name) own)
    (through (k ++ 0 ∷ name) own) in
    let behind = subst (λ (key : List ℕ). Every (λ e. precedes key e.key ≡ true) (entries k after))
    (sym (own_key k name)) (all_behind k name [] after ends z.2 h.0) in
    let cross = every_weaker (Under k name) (λ (x : Entry). Every (R x) (entries k after))
    (λ x u. subst (λ (key : List ℕ). Every (λ e. precedes key e.key ≡ true) (entries k after)) (sym u.2)
    (all_behind k name u.0 after u.1 z.2 h.0)) (entries (k ++ 0 ∷ name) own) (own_under k name own) in (
      every_join (λ (e : Entry). precedes (k ++ 0 ∷ name) e.key ≡ true) (entries (k ++ 0 ∷ name) own)
          (entries k after) below behind,
      pairs_join R (entries (k ++ 0 ∷ name) own) (entries k after) (tree_rises (k ++ 0 ∷ name) own z.1 h.1)
          (tree_rises k after z.2 h.2) cross,
    )
