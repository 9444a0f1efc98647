-- A list from one of its records on, and the indices of its entries.
use Rattle.std.proofs.Common.{◌≡◌, ◌≢◌, ℕ, zero, suc, ◌+◌, ◌≤◌, Bool, true, false, List, Option, None, Some, inl, inr}
use Rattle.std.proofs.Common.{refl, sym, ap, subst, ◌∙◌, arith, if◌then◌else◌}
use Rattle.std.proofs.lemmas.Bool.{eq-eqb}
use Rattle.std.proofs.lemmas.Bool.Decides.{eqb_tells}
use Rattle.rom_tree.specs.Tree.{entry_at}
use Rattle.romfs_format.specs.Record.{first_of, next_of, name_of}
use Rattle.record_forest.specs.Forest.{Forest, none, at, count, Everywhere}
use Rattle.romfs_format.specs.Tree.{entries_at}
use Rattle.rom_tree.specs.Dots.{is_dots}
use Rattle.romfs_format.specs.Made.{grow, StandsAt, IsGood, bump, index_at}
use Rattle.romfs_format.proofs.Same.{same_forest, grown}
use Rattle.romfs_format.proofs.Trees.{IsList}

-- a record and what it leads to
pub record IsStep (b : List ℕ) (r k q : ℕ) : Type 0 where
  pub is : grow k b q ≡ at q (grow k b (first_of b q)) (grow k b (next_of b q))
  pub good : IsGood b r q
  pub first : IsList b r k (first_of b q)
  pub next : IsList b r k (next_of b q)
  pub size : count (grow k b q) ≡ suc (count (grow k b (first_of b q)) + count (grow k b (next_of b q)))

list_of : (b : List ℕ) (r k q : ℕ) (f : Forest) → StandsAt b q f → Everywhere (IsGood b r) f → count f ≤ k
    → (grow k b q ≡ f) × IsList b r k q
list_of b r k q f s g c =
    let e = grown k b q f s c in (
      e,
      record {
        stands = subst (StandsAt b q) (sym e) s;
        good = subst (Everywhere (IsGood b r)) (sym e) g;
        few = subst (λ (x : Forest). count x ≤ k) (sym e) c;
      },
    )

step_by : (b : List ℕ) (r k q : ℕ) (f : Forest) → grow k b q ≡ f → StandsAt b q f → Everywhere (IsGood b r) f
    → count f ≤ k → q ≢ 0 → IsStep b r k q
step_by b r k q none e s g c n = absurd (n s)
step_by b r k q (at p own after) e s g c n =
    let pq : p ≡ q = s.1 in
    let x = list_of b r k (first_of b p) own s.2 g.1 (omega arith) in
    let y = list_of b r k (next_of b p) after s.3 g.2 (omega arith) in
    let i : grow k b q ≡ at p (grow k b (first_of b p)) (grow k b (next_of b p)) =
    e ∙ ap (λ (f : Forest). at p f after) (sym x.0)
    ∙ ap (λ (f : Forest). at p (grow k b (first_of b p)) f) (sym y.0) in
    let P : ℕ → Type 0 = λ v. IsStep b r k v in
    subst P pq (record {
      is = subst (λ (v : ℕ). grow k b v ≡ at p (grow k b (first_of b p)) (grow k b (next_of b p))) (sym pq) i;
      good = g.0;
      first = x.1;
      next = y.1;
      size = subst (λ (v : ℕ). count (grow k b v)
          ≡ suc (count (grow k b (first_of b p)) + count (grow k b (next_of b p)))) (sym pq) (ap count i);
    })

pub step_of : (b : List ℕ) (r k q : ℕ) → IsList b r k q → q ≢ 0 → IsStep b r k q
step_of b r k q l n = step_by b r k q (grow k b q) refl l.stands l.good l.few n

-- the end of a list
pub list_end : (b : List ℕ) (r k : ℕ) → IsList b r k 0 → grow k b 0 ≡ none
list_end b r zero l = refl
list_end b r (suc k) l = refl

none_at : (b : List ℕ) (f : Forest) → StandsAt b 0 f → f ≡ none
none_at b none s = refl
none_at b (at p own after) s = absurd (s.0 refl)

-- a list begins with its first record
pub index_start : (b : List ℕ) (q : ℕ) (f : Forest) → StandsAt b q f → index_at b f q ≡ Some 0
index_start b q none s = rw (eq-eqb q 0 s) refl
index_start b q (at p own after) s = rw (eq-eqb p q s.1) refl

-- from there on it is what is there
pub index_rest : (b : List ℕ) (s q i j : ℕ) (f g : Forest) → StandsAt b s f → StandsAt b q g → index_at b f q ≡ Some i
    → entry_at (entries_at b f) (i + j) ≡ entry_at (entries_at b g) j
index_rest b s q i j none g x y e = elim (eqb_tells q 0) [
  | inl h ↦ rw (none_at b g (subst (λ (v : ℕ). StandsAt b v g) h.1 y)) refl
  | inr h ↦ let k = (rw h.0 at e) in absurd (cc)
]
index_rest b s q i j (at p own after) g x y e = elim (eqb_tells p q) [
  | inl h ↦
      let k : Some 0 ≡ Some i = (rw h.0 at e) in
      let z : i ≡ 0 = cc in
      let same : at p own after ≡ g =
      same_forest b q (at p own after) g (subst (λ (v : ℕ). StandsAt b v (at p own after)) (sym x.1 ∙ h.1) x) y in
      let zj : 0 + j ≡ j = omega arith in
      rw (z, zj) (ap (λ (f : Forest). entry_at (entries_at b f) j) same)
  | inr h ↦ rest_by b q i j p own after g y (is_dots (name_of b p)) refl (index_at b after q) refl (rw h.0 at e)
      (λ m z. index_rest b (next_of b p) q m j after g x.3 y z)
]
  where
    rest_by : (b : List ℕ) (q i j p : ℕ) (own after g : Forest) → StandsAt b q g → (d : Bool)
        → is_dots (name_of b p) ≡ d → (o : Option ℕ) → index_at b after q ≡ o
        → bump (is_dots (name_of b p)) (index_at b after q) ≡ Some i
        → ((m : ℕ) → index_at b after q ≡ Some m → entry_at (entries_at b after) (m + j) ≡ entry_at (entries_at b g) j)
        → entry_at (entries_at b (at p own after)) (i + j) ≡ entry_at (entries_at b g) j
    rest_by b q i j p own after g y d ed None eo e ih = let k = (rw eo at e) in absurd (cc)
    rest_by b q i j p own after g y true ed (Some m) eo e ih =
        let k : Some m ≡ Some i = (rw (eo, ed) at e) in let z : i ≡ m = cc in rw (ed, z) (ih m eo)
    rest_by b q i j p own after g y false ed (Some m) eo e ih =
        let k : Some (suc m) ≡ Some i = (rw (eo, ed) at e) in let z : i ≡ suc m =
        cc in let w : suc m + j ≡ suc (m + j) = omega arith in rw (ed, z, w) (ih m eo)

-- what is there is no longer than the list
pub index_count : (b : List ℕ) (s q i : ℕ) (f g : Forest) → StandsAt b s f → StandsAt b q g → index_at b f q ≡ Some i
    → count g ≤ count f
index_count b s q i none g x y e = elim (eqb_tells q 0) [
  | inl h ↦ rw (none_at b g (subst (λ (v : ℕ). StandsAt b v g) h.1 y)) (omega arith)
  | inr h ↦ let k = (rw h.0 at e) in absurd (cc)
]
index_count b s q i (at p own after) g x y e = elim (eqb_tells p q) [
  | inl h ↦
      let same : at p own after ≡ g =
      same_forest b q (at p own after) g (subst (λ (v : ℕ). StandsAt b v (at p own after)) (sym x.1 ∙ h.1) x) y in
      let c : count (at p own after) ≡ count g = ap count same in
      omega arith
  | inr h ↦ by b q i p own after g (index_at b after q) refl (rw h.0 at e)
      (λ m z. index_count b (next_of b p) q m after g x.3 y z)
]
  where
    by : (b : List ℕ) (q i p : ℕ) (own after g : Forest) → (o : Option ℕ) → index_at b after q ≡ o
        → bump (is_dots (name_of b p)) (index_at b after q) ≡ Some i
        → ((m : ℕ) → index_at b after q ≡ Some m → count g ≤ count after) → count g ≤ suc (count own + count after)
    by b q i p own after g None eo e ih = let k = (rw eo at e) in absurd (cc)
    by b q i p own after g (Some m) eo e ih = let c = ih m eo in omega arith

two_bumps : (x y : Bool) (m : ℕ) → (if x then (if y then m else suc m) else suc (if y then m else suc m))
    ≡ (if y then (if x then m else suc m) else suc (if x then m else suc m))
two_bumps true true m = refl
two_bumps true false m = refl
two_bumps false true m = refl
two_bumps false false m = refl

-- one record further
pub index_next : (b : List ℕ) (s q i : ℕ) (f own after : Forest) → StandsAt b s f → StandsAt b q (at q own after)
    → index_at b f q ≡ Some i
    → index_at b f (next_of b q) ≡ Some (if is_dots (name_of b q) then i else suc i)
index_next b s q i none own after x y e =
    elim (eqb_tells q 0) [ inl h ↦ absurd (y.0 h.1) | inr h ↦ let k = (rw h.0 at e) in absurd (cc) ]
index_next b s q i (at p own' after') own after x y e =
    elim (eqb_tells p (next_of b q)) [
      | inl h ↦
          let same : at p own' after' ≡ after =
          same_forest b (next_of b q) (at p own' after') after
          (subst (λ (v : ℕ). StandsAt b v (at p own' after')) (sym x.1 ∙ h.1) x) y.3 in
          let c : count (at p own' after') ≡ count after = ap count same in
          let l = index_count b s q i (at p own' after') (at q own after) x y e in
          absurd (omega arith)
      | inr n ↦ elim (eqb_tells p q) [
        | inl h ↦
            let k : Some 0 ≡ Some i = (rw h.0 at e) in
            let z : i ≡ 0 = cc in
            let start = index_start b (next_of b p) after' x.3 in
            let t : index_at b after' (next_of b q) ≡ Some 0 =
            subst (λ (v : ℕ). index_at b after' (next_of b v) ≡ Some 0) h.1 start in
            rw (n.0, t, z) (ap (λ (v : ℕ). Some (if is_dots (name_of b v) then 0 else 1)) h.1)
        | inr h ↦ rw n.0 (by b q i p after' (index_at b after' q) refl (rw h.0 at e)
            (λ m z. index_next b (next_of b p) q m after' own after x.3 y z))
      ]
    ]
  where
    by : (b : List ℕ) (q i p : ℕ) (after' : Forest) → (o : Option ℕ) → index_at b after' q ≡ o
        → bump (is_dots (name_of b p)) (index_at b after' q) ≡ Some i
        → ((m : ℕ) → index_at b after' q ≡ Some m
        → index_at b after' (next_of b q) ≡ Some (if is_dots (name_of b q) then m else suc m))
        → bump (is_dots (name_of b p)) (index_at b after' (next_of b q))
        ≡ Some (if is_dots (name_of b q) then i else suc i)
    by b q i p after' None eo e ih = let k = (rw eo at e) in absurd (cc)
    by b q i p after' (Some m) eo e ih =
        let k : Some (if is_dots (name_of b p) then m else suc m) ≡ Some i = (rw eo at e) in
        let z : i ≡ (if is_dots (name_of b p) then m else suc m) = cc in
        rw (ih m eo, z) (ap Some (two_bumps (is_dots (name_of b p)) (is_dots (name_of b q)) m))
