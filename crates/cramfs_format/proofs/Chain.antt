-- A list from one of its records on, and the indices of its entries.
use Rattle.std.proofs.Common.{◌≡◌, ℕ, zero, suc, ◌+◌, ◌<◌, ◌≤◌, List, Option, None, Some, inl, inr, refl, sym, ap}
use Rattle.std.proofs.Common.{subst, ◌∙◌, arith}
use Rattle.std.proofs.lemmas.Bool.{eq-eqb, le-ltb}
use Rattle.std.proofs.lemmas.Bool.Decides.{eqb_tells}
use Rattle.rom_tree.specs.Tree.{entry_at}
use Rattle.record_forest.specs.Forest.{Forest, none, at, count, Everywhere}
use Rattle.cramfs_format.specs.declared.order.Order.{Order}
use Rattle.cramfs_format.specs.Inode.{end_of, list_start, list_end}
use Rattle.cramfs_format.specs.Tree.{entries_at}
use Rattle.cramfs_format.specs.Made.{grow, StandsAt, IsGood, one_more, index_at}
use Rattle.cramfs_format.proofs.Lists.{lt_decides, end_after}
use Rattle.cramfs_format.proofs.Same.{same_forest, grown}
use Rattle.cramfs_format.proofs.Trees.{IsList, list_is}

-- a record and what it leads to
pub record IsStep (o : Order) (b : List ℕ) (k e q : ℕ) : Type 0 where
  pub is : grow k o b e q ≡ at q (grow k o b (list_end o b q) (list_start o b q)) (grow k o b e (end_of o b q))
  pub good : IsGood o b q
  pub own : IsList o b k (list_end o b q) (list_start o b q)
  pub next : IsList o b k e (end_of o b q)
  pub size : count (grow k o b e q) ≡ suc
      (count (grow k o b (list_end o b q) (list_start o b q)) + count (grow k o b e (end_of o b q)))

list_of : (o : Order) (b : List ℕ) (k e q : ℕ) (f : Forest) → StandsAt o b e q f → Everywhere (IsGood o b) f
    → count f ≤ k → (grow k o b e q ≡ f) × IsList o b k e q
list_of o b k e q f s g c = (grown k o b e q f s c, list_is o b k e q f s g c)

step_by : (o : Order) (b : List ℕ) (k e q : ℕ) (f : Forest) → grow k o b e q ≡ f → StandsAt o b e q f
    → Everywhere (IsGood o b) f → count f ≤ k → q < e → IsStep o b k e q
step_by o b k e q none i s g c n = absurd (omega arith)
step_by o b k e q (at p own after) i s g c n =
    let pq : p ≡ q = s.1 in
    let x = list_of o b k (list_end o b p) (list_start o b p) own s.2 g.1 (omega arith) in
    let y = list_of o b k e (end_of o b p) after s.3 g.2 (omega arith) in
    let j : grow k o b e q ≡ at p (grow k o b (list_end o b p) (list_start o b p)) (grow k o b e (end_of o b p)) =
    i ∙ ap (λ (f : Forest). at p f after) (sym x.0)
    ∙ ap (λ (f : Forest). at p (grow k o b (list_end o b p) (list_start o b p)) f) (sym y.0) in
    let P : ℕ → Type 0 = λ v. IsStep o b k e v in
    subst P pq (record {
      is = subst (λ (v : ℕ). grow k o b e v
          ≡ at p (grow k o b (list_end o b p) (list_start o b p)) (grow k o b e (end_of o b p))) (sym pq) j;
      good = g.0;
      own = x.1;
      next = y.1;
      size = subst (λ (v : ℕ). count (grow k o b e v)
          ≡ suc (count (grow k o b (list_end o b p) (list_start o b p)) + count (grow k o b e (end_of o b p)))) (sym pq)
          (ap count j);
    })

pub step_of : (o : Order) (b : List ℕ) (k e q : ℕ) → IsList o b k e q → q < e → IsStep o b k e q
step_of o b k e q l n = step_by o b k e q (grow k o b e q) refl l.stands l.good l.few n

-- the end of a list
pub list_done : (k : ℕ) (o : Order) (b : List ℕ) (e q : ℕ) → e ≤ q → grow k o b e q ≡ none
list_done zero o b e q h = refl
list_done (suc k) o b e q h = rw (le-ltb q e h) refl

none_at : (o : Order) (b : List ℕ) (e q : ℕ) (f : Forest) → e ≤ q → StandsAt o b e q f → f ≡ none
none_at o b e q none h s = refl
none_at o b e q (at p own after) h s = let l = s.0 in absurd (omega arith)

-- a list begins with its first record
pub index_start : (o : Order) (b : List ℕ) (e q : ℕ) (f : Forest) → StandsAt o b e q f → index_at e f q ≡ Some 0
index_start o b e q none s = rw (le-ltb q e s) refl
index_start o b e q (at p own after) s = rw (eq-eqb p q s.1) refl

more_cases : (v : Option ℕ) (i : ℕ) → one_more v ≡ Some i → (m : ℕ) × (v ≡ Some m) × (i ≡ suc m)
more_cases None i e = absurd (cc)
more_cases (Some m) i e = (m, refl, let z : Some (suc m) ≡ Some i = e in let y : i ≡ suc m = cc in y)

-- past the last record is the end
index_end : (e q i : ℕ) → index_at e none q ≡ Some i → (e ≤ q) × (i ≡ 0)
index_end e q i h = elim (lt_decides q e) [
  | inl k ↦ let z : None ≡ Some i = (rw k.0 at h) in absurd (cc)
  | inr k ↦ (k.1, let z : Some 0 ≡ Some i = (rw k.0 at h) in let y : i ≡ 0 = cc in y)
]

-- from there on it is what is there
pub index_rest : (o : Order) (b : List ℕ) (e s q i j : ℕ) (f g : Forest) → StandsAt o b e s f → StandsAt o b e q g
    → index_at e f q ≡ Some i → entry_at (entries_at o b f) (i + j) ≡ entry_at (entries_at o b g) j
index_rest o b e s q i j none g x y h = let l = index_end e q i h in rw (none_at o b e q g l.0 y) refl
index_rest o b e s q i j (at p own after) g x y h = elim (eqb_tells p q) [
  | inl l ↦
      let k : Some 0 ≡ Some i = (rw l.0 at h) in
      let z : i ≡ 0 = cc in
      let same : at p own after ≡ g = same_forest o b e q (at p own after) g
      (subst (λ (v : ℕ). StandsAt o b e v (at p own after)) (sym x.1 ∙ l.1) x) y in
      let zj : 0 + j ≡ j = omega arith in
      rw (z, zj) (ap (λ (f : Forest). entry_at (entries_at o b f) j) same)
  | inr l ↦
      let k : one_more (index_at e after q) ≡ Some i = (rw l.0 at h) in
      let m = more_cases (index_at e after q) i k in
      let w : suc m.0 + j ≡ suc (m.0 + j) = omega arith in
      rw (m.2, w) (index_rest o b e (end_of o b p) q m.0 j after g x.3 y m.1)
]

-- a record of a list is not before its start
index_from : (o : Order) (b : List ℕ) (e s q i : ℕ) (f : Forest) → StandsAt o b e s f → q < e → index_at e f q ≡ Some i
    → s ≤ q
index_from o b e s q i none x l h = let z = index_end e q i h in absurd (omega arith)
index_from o b e s q i (at p own after) x l h = elim (eqb_tells p q) [
  | inl k ↦ let y = k.1 in let z = x.1 in omega arith
  | inr k ↦
      let g : one_more (index_at e after q) ≡ Some i = (rw k.0 at h) in
      let m = more_cases (index_at e after q) i g in
      let ih = index_from o b e (end_of o b p) q m.0 after x.3 l m.1 in
      let a = end_after o b p in
      let z = x.1 in
      omega arith
]

-- one record further
pub index_next : (o : Order) (b : List ℕ) (e s q i : ℕ) (f : Forest) → StandsAt o b e s f → q < e
    → index_at e f q ≡ Some i → index_at e f (end_of o b q) ≡ Some (suc i)
index_next o b e s q i none x l h = let z = index_end e q i h in absurd (omega arith)
index_next o b e s q i (at p own after) x l h =
    let a = end_after o b q in
    let from = index_from o b e s q i (at p own after) x l h in
    let y = x.1 in
    elim (eqb_tells p (end_of o b q)) [
      | inl k ↦ let w = k.1 in absurd (omega arith)
      | inr n ↦ elim (eqb_tells p q) [
        | inl k ↦
            let g : Some 0 ≡ Some i = (rw k.0 at h) in
            let z : i ≡ 0 = cc in
            let start = index_start o b e (end_of o b p) after x.3 in
            let t : index_at e after (end_of o b q) ≡ Some 0 =
            subst (λ (v : ℕ). index_at e after (end_of o b v) ≡ Some 0) k.1 start in
            rw (n.0, t, z) refl
        | inr k ↦
            let g : one_more (index_at e after q) ≡ Some i = (rw k.0 at h) in
            let m = more_cases (index_at e after q) i g in
            let ih = index_next o b e (end_of o b p) q m.0 after x.3 l m.1 in
            rw (n.0, ih) (ap (λ (v : ℕ). Some (suc v)) (sym m.2))
      ]
    ]

-- the list from one of its records on
pub list_there : (o : Order) (b : List ℕ) (k e s q i : ℕ) (f : Forest) → StandsAt o b e s f → Everywhere (IsGood o b) f
    → count f ≤ k → index_at e f q ≡ Some i → IsList o b k e q
list_there o b k e s q i none x g c h = list_is o b k e q none (index_end e q i h).0 tt (omega arith)
list_there o b k e s q i (at p own after) x g c h = elim (eqb_tells p q) [
  | inl l ↦ list_is o b k e q (at p own after)
      (subst (λ (v : ℕ). StandsAt o b e v (at p own after)) (sym x.1 ∙ l.1) x) g c
  | inr l ↦
      let y : one_more (index_at e after q) ≡ Some i = (rw l.0 at h) in
      let m = more_cases (index_at e after q) i y in
      list_there o b k e (end_of o b p) q m.0 after x.3 g.2 (omega arith) m.1
]
