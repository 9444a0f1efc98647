-- Runs of whole blocks that are in conflict have blocks that overlap, and the other way round.
use Rattle.std.proofs.Common.{◌≡◌, ℕ, zero, suc, ◌+◌, ◌-◌, ◌*◌, ◌/◌, ◌%◌, ◌==◌, ◌<◌, ◌≤◌, max, Bool, true, false}
use Rattle.std.proofs.Common.{Option}
use Rattle.std.proofs.Common.{None, Some, List, [], ◌∷◌, ◌++◌, ◌⊎◌, inl, inr, refl, sym, ap, subst, ◌∙◌, arith}
use Rattle.std.proofs.Common.{if◌then◌else◌}
use Rattle.std.proofs.Math.Nat.{max-eq_left, max-eq_right}
use Rattle.std.proofs.lemmas.Bool.{cases_lt, false≢true, eqb-true}
use Rattle.std.specs.Prelude.{IfSome, IsSomeAnd}
use Rattle.rom_fields.specs.declared.span.Span.{Span}
use Rattle.rom_fields.specs.declared.span.Extent.{Extent}
use Rattle.rom_fields.specs.declared.span.Extent.TheVariants.{Super, Record, List as ListOf, Table, Data}
use Rattle.rom_fields.specs.Extents.{is_shareable, AreShared, Covers, HaveCommonByte, MeetsAt, OverlapsAt, IsLeastOf}
use Rattle.rom_fields.proofs.Same.{Hit}
use Rattle.rom_fields.proofs.Climbs.{Climbs, no_overlap}
use Rattle.record_forest.specs.Members.{Has}
use Rattle.record_forest.proofs.Lists.{has_left, has_right, has_cases, has_weaker}
use Rattle.cramfs_image.specs.Merged.{is_data, is_run, whole_block, blocks, blocks_in, expanded, IsRun, AreInStep}
use Rattle.cramfs_image.specs.Merged.{Conflict, Clash, ConflictsAt}

pub both : (v : Bool) → (v ≡ true) ⊎ (v ≡ false)
both true = inl refl
both false = inr refl

run_parts : (k : Extent) (n : ℕ) → (if is_data k then n % 4096 == 0 else false) ≡ true → (k ≡ Data) × (n % 4096 ≡ 0)
run_parts Super n e = absurd (false≢true e)
run_parts Record n e = absurd (false≢true e)
run_parts ListOf n e = absurd (false≢true e)
run_parts Table n e = absurd (false≢true e)
run_parts Data n e = (refl, eqb-true (n % 4096) 0 e)

run_from : (x : Span) → is_run x ≡ true → IsRun x
run_from x e = let p = run_parts x.kind x.len e in record { data_kind = p.0; whole = p.1 }

pub run_true : (x : Span) → IsRun x → is_run x ≡ true
run_true x r =
    subst (λ (k : Extent). (if is_data k then x.len % 4096 == 0 else false) ≡ true) (sym r.data_kind)
    (subst (λ (v : ℕ). (v == 0) ≡ true) (sym r.whole) refl)

pub blocks_of_run : (x : Span) → is_run x ≡ true → blocks_in x ≡ blocks (x.len / 4096) x.start
blocks_of_run x e =
    subst (λ (v : Bool). (if v then blocks (x.len / 4096) x.start else x ∷ []) ≡ blocks (x.len / 4096) x.start) (sym e)
    refl

pub blocks_of_other : (x : Span) → is_run x ≡ false → blocks_in x ≡ x ∷ []
blocks_of_other x e =
    subst (λ (v : Bool). (if v then blocks (x.len / 4096) x.start else x ∷ []) ≡ x ∷ []) (sym e) refl

-- one of the blocks
blocks_has : (P : Span → Type 0) (n s : ℕ) → Has P (blocks n s) → (i : ℕ) × (i < n) × P (whole_block (s + 4096 * i))
blocks_has P zero s h = absurd h
blocks_has P (suc n) s (inl p) =
    let e : s ≡ s + 4096 * 0 = omega arith in (0, omega arith, subst (λ (v : ℕ). P (whole_block v)) e p)
blocks_has P (suc n) s (inr h) =
    let k = blocks_has P n (s + 4096) h in
    let l = k.1 in
    let e : s + 4096 + 4096 * k.0 ≡ s + 4096 * (suc k.0) = omega arith in
    (suc k.0, omega arith, subst (λ (v : ℕ). P (whole_block v)) e k.2)

has_blocks : (P : Span → Type 0) (n s i : ℕ) → i < n → P (whole_block (s + 4096 * i)) → Has P (blocks n s)
has_blocks P zero s i l p = absurd (omega arith)
has_blocks P (suc n) s zero l p =
    let e : s + 4096 * 0 ≡ s = omega arith in inl (subst (λ (v : ℕ). P (whole_block v)) e p)
has_blocks P (suc n) s (suc i) l p =
    let e : s + 4096 * (suc i) ≡ s + 4096 + 4096 * i = omega arith in
    inr (has_blocks P n (s + 4096) i (omega arith) (subst (λ (v : ℕ). P (whole_block v)) e p))

-- z is x, or a block of the run x
pub data Piece (x z : Span) : Type 0 where
  alone : is_run x ≡ false → z ≡ x → Piece x z
  part : IsRun x → (i : ℕ) → i < x.len / 4096 → z ≡ whole_block (x.start + 4096 * i) → Piece x z

pieces : (P : Span → Type 0) (x : Span) → Has P (blocks_in x) → (z : Span) × Piece x z × P z
pieces P x h = elim (both (is_run x)) [
  | inl e ↦
      let k = blocks_has P (x.len / 4096) x.start (subst (Has P) (blocks_of_run x e) h) in
      (whole_block (x.start + 4096 * k.0), part (run_from x e) k.0 k.1 refl, k.2)
  | inr e ↦
      let k : Has P (x ∷ []) = subst (Has P) (blocks_of_other x e) h in
      elim k [ inl p ↦ (x, alone e refl, p) | inr p ↦ absurd p ]
]

has_piece : (P : Span → Type 0) (x z : Span) → Piece x z → P z → Has P (blocks_in x)
has_piece P x z (alone e i) p = subst (Has P) (sym (blocks_of_other x e)) (inl (subst P i p))
has_piece P x z (part r i l e) p =
    subst (Has P) (sym (blocks_of_run x (run_true x r)))
    (has_blocks P (x.len / 4096) x.start i l (subst P e p))

within : (x z : Span) → Piece x z → (x.start ≤ z.start) × (z.start + z.len ≤ x.start + x.len)
within x z (alone e i) =
    let a : z.start ≡ x.start = ap (λ (v : Span). v.start) i in
    let b : z.len ≡ x.len = ap (λ (v : Span). v.len) i in
    (omega arith, omega arith)
within x z (part r i l e) =
    let a : z.start ≡ x.start + 4096 * i = ap (λ (v : Span). v.start) e in
    let b : z.len ≡ 4096 = ap (λ (v : Span). v.len) e in
    let w = r.whole in
    (omega arith, omega arith)

-- the one with the byte at p
piece_at : (x : Span) (p : ℕ) → Covers x p → (z : Span) × Piece x z × Covers z p
piece_at x p c = elim (both (is_run x)) [
  | inl e ↦
      let r = run_from x e in
      let a = c.0 in
      let b = c.1 in
      let w = r.whole in
      let i : ℕ = (p - x.start) / 4096 in
      let l : (p - x.start) / 4096 < x.len / 4096 = omega arith in
      let low : x.start + 4096 * ((p - x.start) / 4096) ≤ p = omega arith in
      let high : p < x.start + 4096 * ((p - x.start) / 4096) + 4096 = omega arith in
      (whole_block (x.start + 4096 * ((p - x.start) / 4096)), part r ((p - x.start) / 4096) l refl, (low, high))
  | inr e ↦ (x, alone e refl, c)
]

run_on : (x y : Span) → AreShared x y → IsRun y → IsRun x
run_on x y s r =
    record { data_kind = s.kind ∙ r.data_kind; whole = ap (λ (v : ℕ). v % 4096) s.len ∙ r.whole }

run_back : (x y : Span) → AreShared x y → IsRun x → IsRun y
run_back x y s r =
    record { data_kind = sym s.kind ∙ r.data_kind; whole = ap (λ (v : ℕ). v % 4096) (sym s.len) ∙ r.whole }

no_run : (x : Span) → is_run x ≡ false → IsRun x → ⊥
no_run x e r = false≢true (sym e ∙ run_true x r)

block_run : (s : ℕ) → IsRun (whole_block s)
block_run s = record { data_kind = refl; whole = refl }

-- blocks in step with a common byte are the same
one_place : (s t i j p : ℕ) → s % 4096 ≡ t % 4096 → s + 4096 * i ≤ p → p < s + 4096 * i + 4096 → t + 4096 * j ≤ p
    → p < t + 4096 * j + 4096 → s + 4096 * i ≡ t + 4096 * j
one_place s t i j p e a b c d = omega arith

same_piece : (x y u v : Span) → Piece x u → Piece y v → AreShared x y ⊎ AreInStep x y → HaveCommonByte u v
    → AreShared u v
same_piece x y u v (alone e i) (alone f j) (inl s) c =
    subst (λ (w : Span). AreShared w v) (sym i) (subst (AreShared x) (sym j) s)
same_piece x y u v (alone e i) (alone f j) (inr s) c = absurd (no_run x e s.one)
same_piece x y u v (alone e i) (part r j l f) (inl s) c = absurd (no_run x e (run_on x y s r))
same_piece x y u v (alone e i) (part r j l f) (inr s) c = absurd (no_run x e s.one)
same_piece x y u v (part r i l e) (alone f j) (inl s) c = absurd (no_run y f (run_back x y s r))
same_piece x y u v (part r i l e) (alone f j) (inr s) c = absurd (no_run y f s.other)
same_piece x y u v (part r i l e) (part q j m f) s c =
    let step : x.start % 4096 ≡ y.start % 4096 = elim s [
      | inl k ↦ ap (λ (n : ℕ). n % 4096) k.start
      | inr k ↦ k.step
    ] in
    let k : HaveCommonByte (whole_block (x.start + 4096 * i)) (whole_block (y.start + 4096 * j)) =
    subst (λ (w : Span). HaveCommonByte w (whole_block (y.start + 4096 * j))) e (subst (HaveCommonByte u) f c) in
    let at = one_place x.start y.start i j k.0 step k.1.0 k.1.1 k.2.0 k.2.1 in
    subst (λ (w : Span). AreShared w v) (sym e) (subst (AreShared (whole_block (x.start + 4096 * i))) (sym f)
    (record { kind = refl; shareable = refl; start = at; len = refl }))

shared_piece : (x y u v : Span) → Piece x u → Piece y v → AreShared u v → AreShared x y ⊎ AreInStep x y
shared_piece x y u v (alone e i) (alone f j) s =
    inl (subst (λ (w : Span). AreShared w y) i (subst (AreShared u) j s))
shared_piece x y u v (alone e i) (part r j l f) s =
    absurd (no_run x e (subst IsRun i (run_on u v s (subst IsRun (sym f) (block_run (y.start + 4096 * j))))))
shared_piece x y u v (part r i l e) (alone f j) s =
    absurd (no_run y f (subst IsRun j (run_back u v s (subst IsRun (sym e) (block_run (x.start + 4096 * i))))))
shared_piece x y u v (part r i l e) (part q j m f) s =
    let a : u.start ≡ x.start + 4096 * i = ap (λ (w : Span). w.start) e in
    let b : v.start ≡ y.start + 4096 * j = ap (λ (w : Span). w.start) f in
    let g = s.start in
    let h : x.start % 4096 ≡ y.start % 4096 = omega arith in
    inr (record { one = r; other = q; step = h })

max_low : (a b c d q : ℕ) → a ≤ c → b ≤ d → q ≡ max c d → max a b ≤ q
max_low a b c d q l m e = omega arith

-- pieces that overlap
hit_clash : (x y u v : Span) (q : ℕ) → Piece x u → Piece y v → Hit q u v
    → Clash (max x.start y.start) x y × (max x.start y.start ≤ q)
hit_clash x y u v q a b h =
    let c = h.0.0 in
    let m = within x u a in
    let n = within y v b in
    let m0 = m.0 in
    let m1 = m.1 in
    let n0 = n.0 in
    let n1 = n.1 in
    let c0 = c.1.0 in
    let c1 = c.1.1 in
    let c2 = c.2.0 in
    let c3 = c.2.1 in (
      (
        (
          (
            (c.0, (omega arith, omega arith), (omega arith, omega arith)),
            λ s. h.0.1 (same_piece x y u v a b (inl s) c),
          ),
          λ s. h.0.1 (same_piece x y u v a b (inr s) c),
        ),
        refl,
      ),
      max_low x.start y.start u.start v.start q m0 n0 h.1,
    )

max_at : (a b c d p : ℕ) → p ≡ max a b → a ≤ c → c ≤ p → b ≤ d → d ≤ p → p ≡ max c d
max_at a b c d p e l m n o = elim (cases_lt a b) [
  | inl u ↦
      let k : p ≡ b = e ∙ max-eq_right (omega arith) in
      let f : max c d ≡ d = max-eq_right (omega arith) in
      omega arith
  | inr u ↦
      let k : p ≡ a = e ∙ max-eq_left u in
      let f : max c d ≡ c = max-eq_left (omega arith) in
      omega arith
]

-- the first pieces that do
pub record Pieces (x y : Span) (p : ℕ) : Type 0 where
  pub one : Span
  pub other : Span
  pub one_in : Piece x one
  pub other_in : Piece y other
  pub hit : Hit p one other

clash_hit : (x y : Span) (p : ℕ) → Clash p x y → Pieces x y p
clash_hit x y p h =
    let q = h.0.0.0 in
    let e : p ≡ max x.start y.start = h.1 in
    let a0 = q.1.0 in
    let a1 = q.1.1 in
    let b0 = q.2.0 in
    let b1 = q.2.1 in
    let one = piece_at x p (omega arith, omega arith) in
    let other = piece_at y p (omega arith, omega arith) in
    record {
      one = one.0;
      other = other.0;
      one_in = one.1;
      other_in = other.1;
      hit = (
        (
          (p, one.2, other.2),
          λ s. elim (shared_piece x y one.0 other.0 one.1 other.1 s) [ inl k ↦ h.0.0.1 k | inr k ↦ h.0.1 k ],
        ),
        max_at x.start y.start one.0.start other.0.start p e (within x one.0 one.1).0 one.2.0
            (within y other.0 other.1).0 other.2.0,
      );
    }

meets_has : (x : Span) (ys : List Span) (p : ℕ) → MeetsAt x ys p → Has (Hit p x) ys
meets_has x [] p h = h
meets_has x (y ∷ ys) p (inl h) = inl h
meets_has x (y ∷ ys) p (inr h) = inr (meets_has x ys p h)

has_meets : (x : Span) (ys : List Span) (p : ℕ) → Has (Hit p x) ys → MeetsAt x ys p
has_meets x [] p h = h
has_meets x (y ∷ ys) p (inl h) = inl h
has_meets x (y ∷ ys) p (inr h) = inr (has_meets x ys p h)

-- overlaps in two lists together
cross_in : (xs ys : List Span) (p : ℕ) → Has (λ (x : Span). Has (Hit p x) ys) xs → OverlapsAt (xs ++ ys) p
cross_in [] ys p h = absurd h
cross_in (x ∷ xs) ys p (inl h) = inl (has_meets x (xs ++ ys) p (has_right (Hit p x) xs ys h))
cross_in (x ∷ xs) ys p (inr h) = inr (cross_in xs ys p h)

over_right : (xs ys : List Span) (p : ℕ) → OverlapsAt ys p → OverlapsAt (xs ++ ys) p
over_right [] ys p h = h
over_right (x ∷ xs) ys p h = inr (over_right xs ys p h)

data Crossed (xs ys : List Span) (p : ℕ) : Type 0 where
  first : OverlapsAt xs p → Crossed xs ys p
  across : Has (λ (x : Span). Has (Hit p x) ys) xs → Crossed xs ys p
  second : OverlapsAt ys p → Crossed xs ys p

cross_more : (x : Span) (xs ys : List Span) (p : ℕ) → Crossed xs ys p → Crossed (x ∷ xs) ys p
cross_more x xs ys p (first h) = first (inr h)
cross_more x xs ys p (across h) = across (inr h)
cross_more x xs ys p (second h) = second h

cross_out : (xs ys : List Span) (p : ℕ) → OverlapsAt (xs ++ ys) p → Crossed xs ys p
cross_out [] ys p h = second h
cross_out (x ∷ xs) ys p (inl m) = elim (has_cases (Hit p x) xs ys (meets_has x (xs ++ ys) p m)) [
  | inl h ↦ first (inl (has_meets x xs p h))
  | inr h ↦ across (inl h)
]
cross_out (x ∷ xs) ys p (inr o) = cross_more x xs ys p (cross_out xs ys p o)

-- blocks of one run do not overlap
climbs_blocks : (n s : ℕ) → Climbs s (s + 4096 * n) (blocks n s)
climbs_blocks zero s = omega arith
climbs_blocks (suc n) s =
    let e : s + 4096 + 4096 * n ≡ s + 4096 * (suc n) = omega arith in
    (omega arith, subst (λ (v : ℕ). Climbs (s + 4096) v (blocks n (s + 4096))) e (climbs_blocks n (s + 4096)))

no_own : (x : Span) (q : ℕ) → OverlapsAt (blocks_in x) q → ⊥
no_own x q h = elim (both (is_run x)) [
  | inl e ↦ no_overlap x.start (x.start + 4096 * (x.len / 4096)) (blocks (x.len / 4096) x.start) q
      (climbs_blocks (x.len / 4096) x.start)
      (subst (λ (v : List Span). OverlapsAt v q) (blocks_of_run x e) h)
  | inr e ↦
      let k : OverlapsAt (x ∷ []) q = subst (λ (v : List Span). OverlapsAt v q) (blocks_of_other x e) h in
      elim k [ inl m ↦ m | inr m ↦ m ]
]

clash_in : (x : Span) (xs : List Span) (p : ℕ) → Has (Clash p x) xs
    → Has (λ (a : Span). Has (Hit p a) (expanded xs)) (blocks_in x)
clash_in x [] p h = absurd h
clash_in x (y ∷ ys) p (inl c) =
    let k = clash_hit x y p c in
    has_piece (λ (a : Span). Has (Hit p a) (blocks_in y ++ expanded ys)) x k.one k.one_in
    (has_left (Hit p k.one) (blocks_in y) (expanded ys) (has_piece (Hit p k.one) y k.other k.other_in k.hit))
clash_in x (y ∷ ys) p (inr h) =
    has_weaker (λ (a : Span). Has (Hit p a) (expanded ys)) (λ (a : Span). Has (Hit p a) (blocks_in y ++ expanded ys))
    (λ a. has_right (Hit p a) (blocks_in y) (expanded ys)) (blocks_in x) (clash_in x ys p h)

over : (xs : List Span) (p : ℕ) → ConflictsAt xs p → OverlapsAt (expanded xs) p
over [] p h = absurd h
over (x ∷ xs) p (inl h) = cross_in (blocks_in x) (expanded xs) p (clash_in x xs p h)
over (x ∷ xs) p (inr h) = over_right (blocks_in x) (expanded xs) p (over xs p h)

clash_out : (x u : Span) → Piece x u → (xs : List Span) (q : ℕ) → Has (Hit q u) (expanded xs)
    → (p : ℕ) × Has (Clash p x) xs × (p ≤ q)
clash_out x u a [] q h = absurd h
clash_out x u a (y ∷ ys) q h = elim (has_cases (Hit q u) (blocks_in y) (expanded ys) h) [
  | inl k ↦
      let z = pieces (Hit q u) y k in
      let c = hit_clash x y u z.0 q a z.1 z.2 in
      (max x.start y.start, inl c.0, c.1)
  | inr k ↦ let c = clash_out x u a ys q k in (c.0, inr c.1, c.2)
]

under : (xs : List Span) (q : ℕ) → OverlapsAt (expanded xs) q → (p : ℕ) × ConflictsAt xs p × (p ≤ q)
under [] q h = absurd h
under (x ∷ xs) q h = elim (cross_out (blocks_in x) (expanded xs) q h) [
  | first k ↦ absurd (no_own x q k)
  | across k ↦
      let z = pieces (λ (a : Span). Has (Hit q a) (expanded xs)) x k in
      let c = clash_out x z.0 z.1 xs q z.2 in
      (c.0, inl c.1, c.2)
  | second k ↦ let c = under xs q k in (c.0, inr c.1, c.2)
]

least_if : (P Q : ℕ → Type 0) (v : Option ℕ) → ((p : ℕ) → P p → Q p) → IfSome v P → IfSome v Q
least_if P Q None f h = h
least_if P Q (Some p) f h = f p h

lower : (v : Option ℕ) (a b : ℕ) → a ≤ b → IsSomeAnd v (λ r. r ≤ a) → IsSomeAnd v (λ r. r ≤ b)
lower None a b l h = h
lower (Some r) a b l h = omega arith

-- so the least conflict is the least overlap of the blocks
pub runs_least : (xs : List Span) (v : Option ℕ) → IsLeastOf (ConflictsAt xs) v → IsLeastOf (OverlapsAt (expanded xs)) v
runs_least xs v h = record {
  here = least_if (ConflictsAt xs) (OverlapsAt (expanded xs)) v (over xs) h.here;
  least = λ q k. let c = under xs q k in lower v c.0 q c.2 (h.least c.0 c.1);
}

-- the blocks cover the same bytes
pub covered_out : (xs : List Span) (p : ℕ) → Has (λ (z : Span). Covers z p) (expanded xs)
    → Has (λ (z : Span). Covers z p) xs
covered_out [] p h = absurd h
covered_out (x ∷ xs) p h = elim (has_cases (λ (z : Span). Covers z p) (blocks_in x) (expanded xs) h) [
  | inl k ↦
      let z = pieces (λ (v : Span). Covers v p) x k in
      let w = within x z.0 z.1 in
      let a = w.0 in
      let b = w.1 in
      let c = z.2.0 in
      let d = z.2.1 in
      inl (omega arith, omega arith)
  | inr k ↦ inr (covered_out xs p k)
]

pub covered_in : (xs : List Span) (p : ℕ) → Has (λ (z : Span). Covers z p) xs
    → Has (λ (z : Span). Covers z p) (expanded xs)
covered_in [] p h = absurd h
covered_in (x ∷ xs) p (inl c) =
    let z = piece_at x p c in
    has_left (λ (v : Span). Covers v p) (blocks_in x) (expanded xs)
    (has_piece (λ (v : Span). Covers v p) x z.0 z.1 z.2)
covered_in (x ∷ xs) p (inr h) = has_right (λ (v : Span). Covers v p) (blocks_in x) (expanded xs) (covered_in xs p h)
