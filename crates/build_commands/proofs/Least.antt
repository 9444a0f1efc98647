-- The least warning, while they are gone over.
use Rattle.std.proofs.Common.{◌≡◌, ℕ, ◌+◌, ◌<◌, ◌≤◌, List, Option, Some, None}
use Rattle.std.proofs.Common.{inl, inr, refl, sym, ap, subst, ◌∙◌, arith, ◌⊎◌}
use Rattle.std.specs.Prelude.{MatchOption}
use Rattle.std.proofs.lemmas.Bool.{cases_lt, lt-ltb, le-ltb}
use Rattle.std.proofs.lemmas.Bool.Decides.{eqb_tells}
use Rattle.std.specs.List.{slice_get}
use Rattle.std.specs.Option.{option_map}
use Rattle.std.proofs.Common.{length, map, get_or}
use Rattle.std.proofs.lemmas.Option.{slice_get-get_or, slice_get-map, slice_get_past}
use Rattle.build_commands.specs.Foreseen.{Told, lesser, lesser_by, told, IsLeastOf}
use Rattle.build_commands.specs.declared.warnings.Warning.{Warning}
use Rattle.build_commands.specs.declared.limits.Misread.{Misread}

-- the least of the first n
pub record IsLeastTo (ts : List Told) (n : ℕ) (e : Misread) : Type 0 where
  pub warning : Told
  pub below : e.number < n
  pub at : slice_get ts e.number ≡ Some warning
  pub some : 0 < warning.count
  pub line : warning.line ≡ e.line
  pub least : (k : ℕ) (t : Told) → k < n → slice_get ts k ≡ Some t → 0 < t.count
      → (e.line < t.line) ⊎ ((e.line ≡ t.line) × (e.number ≤ k))

abbrev pub IsLeastOfTo : List Told → ℕ → Option Misread → Type 0
IsLeastOfTo ts n o =
    MatchOption o ((k : ℕ) (t : Told) → k < n → slice_get ts k ≡ Some t → t.count ≡ 0) (IsLeastTo ts n)

pub no_least : (ts : List Told) → IsLeastOfTo ts 0 None
no_least ts = λ k t h e. absurd (omega arith)

-- one of those that are less, or the last
last_or : {P : ℕ → Type 0} (n : ℕ) → ((k : ℕ) → k < n → P k) → P n → (k : ℕ) → k < n + 1 → P k
last_or {P} n below here k h = elim (cases_lt k n) [
  | inl l ↦ below k l
  | inr l ↦ let e : n ≡ k = omega arith in subst P e here
]

same_told : (ts : List Told) (n : ℕ) (t u : Told) → slice_get ts n ≡ Some t → slice_get ts n ≡ Some u → t ≡ u
same_told ts n t u g h = cc

-- a warning at k is not less than one of this line and number
abbrev AtLeast : List Told → ℕ → ℕ → ℕ → Type 0
AtLeast ts line number k =
    (u : Told) → slice_get ts k ≡ Some u → 0 < u.count
    → (line < u.line) ⊎ ((line ≡ u.line) × (number ≤ k))

pub more_least : (ts : List Told) (n : ℕ) (t : Told) (o : Option Misread) → slice_get ts n ≡ Some t
    → IsLeastOfTo ts n o → IsLeastOfTo ts (n + 1) (lesser o t n)
more_least ts n t None g h =
    elim (eqb_tells t.count 0) [
      | inl z ↦
          rw z.0 (λ k u b. last_or {P = λ j. (v : Told) → slice_get ts j ≡ Some v → v.count ≡ 0} n
          (λ j l v i. h j v l i)
          (λ v i. ap (λ (w : Told). w.count) (sym (same_told ts n t v g i)) ∙ z.1) k b u)
      | inr z ↦
          rw z.0 (record {
            warning = t;
            below = omega arith;
            at = g;
            some = let c = z.1 in omega (arith, c);
            line = refl;
            least = λ k u b. last_or {P = AtLeast ts t.line n} n
                (λ j l v i c. absurd (let e = h j v l i in omega (arith, e, c)))
                (λ v i c. inr (ap (λ (w : Told). w.line) (same_told ts n t v g i), omega arith)) k b u;
          })
    ]
more_least ts n t (Some e) g h =
    elim (eqb_tells t.count 0) [
      | inl z ↦ rw z.0 (record {
        warning = h.warning;
        below = let b = h.below in omega (arith, b);
        at = h.at;
        some = h.some;
        line = h.line;
        least = λ k u b. last_or {P = AtLeast ts e.line e.number} n (λ j l v i c. h.least j v l i c)
            (λ v i c. absurd (let d = ap (λ (w : Told). w.count) (same_told ts n t v g i) in
            let y = z.1 in omega (arith, c, d, y))) k b u;
      })
      | inr z ↦ rw z.0 (other (let c = z.1 in omega (arith, c)))
    ]
  where
    new : 0 < t.count → t.line < e.line → IsLeastTo ts (n + 1) (record { line = t.line; number = n })
    new c l = record {
      warning = t;
      below = omega arith;
      at = g;
      some = c;
      line = refl;
      least = λ k u b. last_or {P = AtLeast ts t.line n} n
          (λ j m v i d. elim (h.least j v m i d) [
            | inl o ↦ inl (omega arith)
            | inr o ↦ inl (let q = o.0 in omega (arith, q))
          ])
          (λ v i d. inr (ap (λ (w : Told). w.line) (same_told ts n t v g i), omega arith)) k b u;
    }

    old : 0 < t.count → e.line ≤ t.line → IsLeastTo ts (n + 1) e
    old c l = record {
      warning = h.warning;
      below = let b = h.below in omega (arith, b);
      at = h.at;
      some = h.some;
      line = h.line;
      least = λ k u b. last_or {P = AtLeast ts e.line e.number} n (λ j m v i d. h.least j v m i d)
          (λ v i d. let s : t.line ≡ v.line = ap (λ (w : Told). w.line) (same_told ts n t v g i) in
          let q = h.below in
          elim (cases_lt e.line v.line) [ inl o ↦ inl o | inr o ↦ inr (omega arith, omega (arith, q)) ]) k b u;
    }

    other : 0 < t.count → IsLeastTo ts (n + 1) (lesser_by (Some e) t.line n)
    other c = elim (cases_lt t.line e.line) [
      | inl l ↦ rw (lt-ltb t.line e.line l) (new c l)
      | inr l ↦ rw (le-ltb t.line e.line l) (old c l)
    ]

-- what is told of at an index is within
within : (ts : List Told) (k : ℕ) (t : Told) → slice_get ts k ≡ Some t → k < length ts
within ts k t g = elim (cases_lt k (length ts)) [
  | inl l ↦ l
  | inr l ↦ let e = slice_get_past ts k l in absurd (cc)
]

pub all_least : (ts : List Told) (n : ℕ) (o : Option Misread) → length ts ≤ n → IsLeastOfTo ts n o → IsLeastOf ts o
all_least ts n None b h = λ k t g. h k t (let w = within ts k t g in omega (arith, w)) g
all_least ts n (Some e) b h = record {
  warning = h.warning;
  at = h.at;
  some = h.some;
  line = h.line;
  least = λ k t g. h.least k t (let w = within ts k t g in omega (arith, w)) g;
}

-- a warning of the code, at an index
told_at : (ws : List Warning) (i : ℕ) (d : Warning) → i < length ws
    → slice_get (map told ws) i ≡ Some (told (get_or ws i d))
told_at ws i d h = slice_get-map told ws i ∙ ap (option_map told) (slice_get-get_or ws i d h)

pub least_step : (ws : List Warning) (i n : ℕ) (d : Warning) (o r : Option Misread)
    → r ≡ lesser o (told (get_or ws i d)) n → n ≡ i → i < length ws → IsLeastOfTo (map told ws) i o
    → IsLeastOfTo (map told ws) (i + 1) r
least_step ws i n d o r e f below h =
    subst (IsLeastOfTo (map told ws) (i + 1)) (sym (e ∙ ap (lesser o (told (get_or ws i d))) f))
    (more_least (map told ws) i (told (get_or ws i d)) o (told_at ws i d below) h)
