-- The runs of some offsets, joined; and the longest run from the front is the first of them.
use Rattle.std.proofs.Common.{◌≡◌, inl, inr, ℕ, zero, suc, ◌+◌, ◌<◌, ◌≤◌, true, false, List, [], ◌∷◌, ◌++◌, length, ◌-◌}
use Rattle.std.proofs.Common.{get_or, drop, refl, sym, ap, ◌∙◌, subst, arith, ◌==◌, eq-eqb, length-append}
use Rattle.std.specs.Prelude.{if◌then◌else◌}
use Rattle.std.proofs.lemmas.Bool.{ne_eqb}
use Rattle.std.proofs.lemmas.Bool.Decides.{eqb_tells}
use Rattle.std.proofs.lemmas.List.{get_or_append_left, get_or-append_right}
use Rattle.rom_tree.specs.Tree.{row_from}
use Rattle.rom_tree.proofs.Numbers.{length_row, row_at}
use Rattle.image_info.specs.Runs.{Piece, piece, put_before, runs_from, joined, GoOn, AreApart}

pub runs_nil : (o : ℕ) → runs_from o [] ≡ []
unfolding runs_from
runs_nil o = refl

pub runs_cons : (o p : ℕ) (ps : List ℕ) → runs_from o (p ∷ ps) ≡ put_before p o (runs_from (suc o) ps)
unfolding runs_from
runs_cons o p ps = refl

-- a byte before a run that begins at the next offset, and before one that does not
put_next : (p o : ℕ) (r : Piece) (rs : List Piece) → r.place ≡ suc p
    → put_before p o (r ∷ rs) ≡ piece p (suc r.count) o ∷ rs
put_next p o r rs e = rw (eq-eqb r.place (suc p) e) refl

put_apart : (p o : ℕ) (r : Piece) (rs : List Piece) → (r.place ≡ suc p → ⊥)
    → put_before p o (r ∷ rs) ≡ piece p 1 o ∷ r ∷ rs
put_apart p o r rs e = rw (ne_eqb r.place (suc p) e) refl

-- the first of some runs is that of the first byte
pub record Begins (p o : ℕ) (rs : List Piece) : Type 0 where
  pub count : ℕ
  pub rest : List Piece
  pub is : rs ≡ piece p count o ∷ rest

put_begins : (p o : ℕ) (rs : List Piece) → Begins p o (put_before p o rs)
put_begins p o [] = record { count = 1; rest = []; is = refl }
put_begins p o (r ∷ rs) =
    elim (r.place == suc p) as (λ v. Begins p o (if v then piece p (suc r.count) o ∷ rs else piece p 1 o ∷ r ∷ rs)) [
      | true ↦ record { count = suc r.count; rest = rs; is = refl }
      | false ↦ record { count = 1; rest = r ∷ rs; is = refl }
    ]

begins : (o p : ℕ) (ps : List ℕ) → Begins p o (runs_from o (p ∷ ps))
begins o p ps = subst (Begins p o) (sym (runs_cons o p ps)) (put_begins p o (runs_from (suc o) ps))

-- the longest front of offsets that follow one another is the first run
pub runs_front : (ps : List ℕ) (p o n : ℕ) → suc n ≤ length ps → ((k : ℕ) → k < suc n → get_or ps k 0 ≡ p + k)
    → (suc n < length ps → get_or ps (suc n) 0 ≡ p + suc n → ⊥)
    → runs_from o ps ≡ piece p (suc n) o ∷ runs_from (o + suc n) (drop (suc n) ps)
runs_front [] p o n w r e = absurd (omega arith)
runs_front (q ∷ []) p o zero w r e =
    let d : q ≡ p = omega (arith, r 0 (omega arith)) in
    runs_cons o q [] ∙ (ap (put_before q o) (runs_nil (suc o))
    ∙ (ap (λ (v : ℕ). piece v 1 o ∷ []) d ∙ ap (λ (v : List Piece). piece p 1 o ∷ v) (sym (runs_nil (o + 1)))))
runs_front (q ∷ q' ∷ ps) p o zero w r e =
    let d : q ≡ p = omega (arith, r 0 (omega arith)) in
    let b : Begins q' (suc o) (runs_from (suc o) (q' ∷ ps)) = begins (suc o) q' ps in
    let far : q' ≡ suc q → ⊥ = λ t. e (omega arith) (omega (arith, t, d)) in
    let s : suc o ≡ o + 1 = omega arith in
    runs_cons o q (q' ∷ ps)
    ∙ (ap (put_before q o) b.is
    ∙ (put_apart q o (piece q' b.count (suc o)) b.rest far
    ∙ (ap (λ (v : List Piece). piece q 1 o ∷ v) (sym b.is ∙ ap (λ (v : ℕ). runs_from v (q' ∷ ps)) s)
    ∙ ap (λ (v : ℕ). piece v 1 o ∷ runs_from (o + 1) (q' ∷ ps)) d)))
runs_front (q ∷ ps) p o (suc n) w r e =
    let d : q ≡ p = omega (arith, r 0 (omega arith)) in
    let h : runs_from (suc o) ps ≡ piece (suc p) (suc n) (suc o) ∷ runs_from (suc o + suc n) (drop (suc n) ps) =
    runs_front ps (suc p) (suc o) n (omega arith) (λ k l. omega (arith, r (suc k) (omega arith)))
    (λ l t. e (omega arith) (omega (arith, t))) in
    let s : suc o + suc n ≡ o + suc (suc n) = omega arith in
    let near : suc p ≡ suc q = omega arith in
    runs_cons o q ps
    ∙ (ap (put_before q o) h
    ∙ (put_next q o (piece (suc p) (suc n) (suc o)) (runs_from (suc o + suc n) (drop (suc n) ps)) near
    ∙ (ap (λ (v : ℕ). piece v (suc (suc n)) o ∷ runs_from (suc o + suc n) (drop (suc n) ps)) d
    ∙ ap (λ (v : ℕ). piece p (suc (suc n)) o ∷ runs_from v (drop (suc n) ps)) s)))

pub runs_first : (ps : List ℕ) (p o len : ℕ) → 0 < len → len ≤ length ps → ((k : ℕ) → k < len → get_or ps k 0 ≡ p + k)
    → (len < length ps → get_or ps len 0 ≡ p + len → ⊥)
    → runs_from o ps ≡ piece p len o ∷ runs_from (o + len) (drop len ps)
runs_first ps p o zero s w r e = absurd (omega arith)
runs_first ps p o (suc n) s w r e = runs_front ps p o n w r e

-- what a byte before some runs adds to what they join to
put_joined : (p o : ℕ) (rs : List Piece) → joined (put_before p o rs) ≡ p ∷ joined rs
put_joined p o [] = refl
put_joined p o (r ∷ rs) =
    elim (eqb_tells r.place (suc p)) [
      | inl h ↦
          let s : p + 1 ≡ r.place = omega (arith, h.1) in
          ap joined (put_next p o r rs h.1) ∙ ap (λ (v : ℕ). p ∷ (row_from v r.count ++ joined rs)) s
      | inr h ↦ ap joined (put_apart p o r rs h.1)
    ]

pub runs_joined : (o : ℕ) (ps : List ℕ) → joined (runs_from o ps) ≡ ps
runs_joined o [] = ap joined (runs_nil o)
runs_joined o (p ∷ ps) = ap joined (runs_cons o p ps)
    ∙ (put_joined p o (runs_from (suc o) ps) ∙ ap (λ (v : List ℕ). p ∷ v) (runs_joined (suc o) ps))

-- and to their offsets
put_goes : (p o e : ℕ) (rs : List Piece) → GoOn (suc o) rs e → GoOn o (put_before p o rs) e
put_goes p o e [] h = (refl, omega arith, omega (arith, h))
put_goes p o e (r ∷ rs) h =
    elim (eqb_tells r.place (suc p)) [
      | inl i ↦
          let s : suc o + r.count ≡ o + suc r.count = omega arith in
          subst (λ v. GoOn o v e) (sym (put_next p o r rs i.1)) (refl, omega arith, subst (λ v. GoOn v rs e) s h.2)
      | inr i ↦
          let s : suc o ≡ o + 1 = omega arith in
          subst (λ v. GoOn o v e) (sym (put_apart p o r rs i.1)) (refl, omega arith, subst (λ v. GoOn v (r ∷ rs) e) s h)
    ]

pub runs_go : (o e : ℕ) (ps : List ℕ) → e ≡ o + length ps → GoOn o (runs_from o ps) e
runs_go o e [] h = subst (λ v. GoOn o v e) (sym (runs_nil o)) (omega (arith, h))
runs_go o e (p ∷ ps) h = subst (λ v. GoOn o v e) (sym (runs_cons o p ps))
    (put_goes p o e (runs_from (suc o) ps) (runs_go (suc o) e ps (omega (arith, h))))

put_still_apart : (p o : ℕ) (rs : List Piece) → AreApart rs → AreApart (put_before p o rs)
put_still_apart p o [] h = tt
put_still_apart p o (r ∷ []) h =
    elim (eqb_tells r.place (suc p)) [
      | inl i ↦ subst AreApart (sym (put_next p o r [] i.1)) tt
      | inr i ↦ subst AreApart (sym (put_apart p o r [] i.1)) ((λ t. i.1 (omega (arith, t))), tt)
    ]
put_still_apart p o (r ∷ s ∷ rs) h =
    elim (eqb_tells r.place (suc p)) [
      | inl i ↦ subst AreApart (sym (put_next p o r (s ∷ rs) i.1)) ((λ t. h.0 (omega (arith, t, i.1))), h.1)
      | inr i ↦ subst AreApart (sym (put_apart p o r (s ∷ rs) i.1)) ((λ t. i.1 (omega (arith, t))), h)
    ]

pub runs_apart : (o : ℕ) (ps : List ℕ) → AreApart (runs_from o ps)
runs_apart o [] = subst AreApart (sym (runs_nil o)) tt
runs_apart o (p ∷ ps) =
    subst AreApart (sym (runs_cons o p ps)) (put_still_apart p o (runs_from (suc o) ps) (runs_apart (suc o) ps))

-- a row before other offsets
pub drop_row : (p n : ℕ) (qs : List ℕ) → drop n (row_from p n ++ qs) ≡ qs
drop_row p zero qs = refl
drop_row p (suc n) qs = drop_row (p + 1) n qs

pub get_row : (p n : ℕ) (qs : List ℕ) (k : ℕ) → k < n → get_or (row_from p n ++ qs) k 0 ≡ p + k
get_row p n qs k l = get_or_append_left (row_from p n) qs 0 k (omega (arith, l, length_row p n)) ∙ row_at p n k l

get_end : (p n : ℕ) (qs : List ℕ) → get_or (row_from p n ++ qs) n 0 ≡ get_or qs 0 0
get_end p n qs = let z : n - n ≡ 0 =
    omega arith in get_or-append_right (row_from p n) qs n n 0 (length_row p n) (omega arith)
    ∙ ap (λ (v : ℕ). get_or qs v 0) z

-- what is after a run does not go on with it
far : (o e : ℕ) (r : Piece) (rs : List Piece) → GoOn o (r ∷ rs) e → AreApart (r ∷ rs)
    → r.count < length (row_from r.place r.count ++ joined rs)
    → get_or (row_from r.place r.count ++ joined rs) r.count 0 ≡ r.place + r.count → ⊥
far o e r [] g a l t =
    absurd (omega (arith, l, length-append (row_from r.place r.count) [], length_row r.place r.count))
far o e r (s ∷ rs) g a l t =
    let h = get_end r.place r.count (joined (s ∷ rs)) in
    let f = get_row s.place s.count (joined rs) 0 g.2.1 in
    a.0 (omega (arith, t, h, f))

rest_apart : (r : Piece) (rs : List Piece) → AreApart (r ∷ rs) → AreApart rs
rest_apart r [] a = tt
rest_apart r (s ∷ rs) a = a.1

same_piece : (r : Piece) (o : ℕ) → r.offset ≡ o → piece r.place r.count o ≡ r
same_piece r o e = ap (piece r.place r.count) (sym e)

-- pieces that go on in the file and do not adjoin are the runs of what they join to
pub only_runs : (o e : ℕ) (rs : List Piece) → GoOn o rs e → AreApart rs → runs_from o (joined rs) ≡ rs
only_runs o e [] g a = runs_nil o
only_runs o e (r ∷ rs) g a =
    let row : List ℕ = row_from r.place r.count in
    let l : length (row ++ joined rs) ≡ length row + length (joined rs) = length-append row (joined rs) in
    let n : length row ≡ r.count = length_row r.place r.count in
    runs_first (row ++ joined rs) r.place o r.count g.1 (omega (arith, l, n)) (get_row r.place r.count (joined rs))
    (far o e r rs g a)
    ∙ (ap (λ (v : List ℕ). piece r.place r.count o ∷ runs_from (o + r.count) v) (drop_row r.place r.count (joined rs))
    ∙ (ap (λ (v : List Piece). piece r.place r.count o ∷ v) (only_runs (o + r.count) e rs g.2 (rest_apart r rs a))
    ∙ ap (λ (v : Piece). v ∷ rs) (same_piece r o g.0)))
