-- Offsets that follow one another.
use Rattle.std.proofs.Common.{◌≡◌, ℕ, zero, suc, ◌+◌, ◌-◌, ◌<◌, ◌≤◌, true, false, List, [], ◌∷◌, length, get_or, take}
use Rattle.std.proofs.Common.{drop, map, refl, sym, ap, ◌∙◌, subst, rules, arith, length-take, length-drop, ◌==◌}
use Rattle.std.proofs.Common.{eq-eqb, nat_lt, tests, add-zero, min, Option, Some, Ok, Err}
use Rattle.std.specs.Prelude.{slice_index}
use Rattle.std.proofs.lemmas.Bool.{false_from_ne_true, eqb-true}
use Rattle.std.proofs.lemmas.List.{get_or-take, get_or-drop}
use Rattle.rom_tree.specs.Tree.{Node, places_of}
use Rattle.rom_tree.specs.Image.{Image, image_node}
use Rattle.rom_tree.proofs.Rows.{row_bytes, row_end}
use Rattle.open_files.specs.declared.error.CallError.TheVariants.{Einval, Erange}
use Rattle.open_files.specs.Calls.{Of, Lent}
use Rattle.open_files.specs.Lending.{consecutive_from, first_place, consecutive, lent, lent_of}
use Rattle.rom_tree.specs.Runs.{IsLongest}
use Rattle.open_files.specs.Machine.{Outcome, map_within, map_places}

-- the front from p on has the first len offsets
pub consecutive-is : (p : ℕ) (qs : List ℕ) (len : ℕ) → len ≤ length qs → ((k : ℕ) → k < len → get_or qs k 0 ≡ p + k)
    → (len < length qs → get_or qs len 0 ≡ p + len → ⊥) → consecutive_from p qs ≡ take len qs
consecutive-is p [] zero w r e = refl
consecutive-is p [] (suc n) w r e = absurd (omega arith)
consecutive-is p (q ∷ qs) zero w r e =
    let d : (q == p) ≡ false = false_from_ne_true (q == p) (λ t. e (omega arith) (omega (arith, eqb-true q p t))) in
    rw d
consecutive-is p (q ∷ qs) (suc n) w r e =
    let d : q ≡ p = omega (arith, r 0 (omega arith)) in
    rw (eq-eqb q p d) (ap (λ (v : List ℕ). q ∷ v)
    (consecutive-is (suc p) qs n (omega arith) (λ k l. omega (arith, r (suc k) (omega arith)))
    (λ l h. e (omega arith) (omega arith))))

first_get : (qs : List ℕ) → first_place qs ≡ get_or qs 0 0
first_get [] = refl
first_get (q ∷ qs) = refl

short : (a b : ℕ) → (0 < a → a ≤ b) → min a b ≡ a
short zero b h = omega arith
short (suc a) b h = let k = h (omega arith) in omega arith

take_all : (qs : List ℕ) (n : ℕ) → length qs ≤ n → take n qs ≡ qs
take_all [] zero h = refl
take_all [] (suc n) h = refl
take_all (q ∷ qs) zero h = absurd (omega arith)
take_all (q ∷ qs) (suc n) h = ap (λ (v : List ℕ). q ∷ v) (take_all qs n (omega arith))

not_zero : (n : ℕ) → 0 < n → (n == 0) ≡ false
not_zero n h = false_from_ne_true (n == 0) (λ t. absurd (omega (arith, eqb-true n 0 t)))

lt_is : (a b : ℕ) → a < b → nat_lt a b ≡ true
lt_is a b h = search (rules, tests)

le_is : (a b : ℕ) → b ≤ a → nat_lt a b ≡ false
le_is a b h = search (rules, tests)

places_apart : (i : Option ℕ) (b : List ℕ) (at : ℕ) (qs : List ℕ) (len : ℕ) → (length (consecutive qs) ≡ len → ⊥)
    → map_places i b at qs len ≡ Err Erange
places_apart i b at qs len h =
    rw (false_from_ne_true (length (consecutive qs) == len) (λ e. h (eqb-true (length (consecutive qs)) len e)))

places_whole : (i : Option ℕ) (b : List ℕ) (at : ℕ) (qs : List ℕ) (len : ℕ) → length (consecutive qs) ≡ len
    → map_places i b at qs len ≡ Ok ((i, lent b qs), at)
places_whole i b at qs len h = rw (eq-eqb (length (consecutive qs)) len h)

-- lend's answer for a file with these places
abbrev pub lend_within : Option ℕ → List ℕ → List ℕ → ℕ → ℕ → Outcome (Of Lent)
lend_within i b ps at most =
    Ok ((i, lent b (consecutive (take most (drop at ps)))), at + length (consecutive (take most (drop at ps))))

module _ (ps : List ℕ) (at most : ℕ) where
  next_length : length (take most (drop at ps)) ≡ min most (length ps - at)
  next_length = length-take most (drop at ps) ∙ ap (min most) (length-drop at ps)

  next_get : (k : ℕ) → k < most → get_or (take most (drop at ps)) k 0 ≡ get_or ps (at + k) 0
  next_get k l = get_or-take most (drop at ps) k 0 l ∙ get_or-drop at ps k 0

  pub front_is : (place len : ℕ) → IsLongest ps at most place len
      → consecutive (take most (drop at ps)) ≡ take len (take most (drop at ps))
  unfolding consecutive
  front_is place zero h =
      consecutive-is (first_place (take most (drop at ps))) (take most (drop at ps)) 0 (omega arith)
      (λ k l. absurd (omega arith))
      (λ l e. let z = next_length in absurd (omega (arith, z, h.some (omega (arith, z, l)) (omega (arith, z, l)))))
  front_is place (suc n) h =
      let z = next_length in
      let w = h.within (omega arith) in
      let f = h.fits in
      let s : 0 < most = omega arith in
      let p : first_place (take most (drop at ps)) ≡ place =
      first_get (take most (drop at ps)) ∙ (next_get 0 s ∙ (h.row 0 (omega arith) ∙ add-zero place)) in
      ap (λ (v : ℕ). consecutive_from v (take most (drop at ps))) p
      ∙ consecutive-is place (take most (drop at ps)) (suc n) (omega arith)
      (λ k l. let lm : k < most = omega arith in next_get k lm ∙ h.row k l)
      (λ l e. let lm : suc n < most = omega arith in h.ends lm (omega arith) (sym (next_get (suc n) lm) ∙ e))

  pub front_length : (place len : ℕ) → IsLongest ps at most place len
      → length (consecutive (take most (drop at ps))) ≡ len
  front_length place len h =
      let z = next_length in
      let f = h.fits in
      ap length (front_is place len h) ∙
      (length-take len (take most (drop at ps))
      ∙ short len (length (take most (drop at ps))) (λ l. omega (arith, z, h.within l)))

  pub front_get : (place len : ℕ) → IsLongest ps at most place len → (k : ℕ) → k < len
      → get_or (consecutive (take most (drop at ps))) k 0 ≡ place + k
  front_get place len h k l =
      let f = h.fits in
      let lm : k < most = omega arith in
      ap (λ (v : List ℕ). get_or v k 0) (front_is place len h)
      ∙ (get_or-take len (take most (drop at ps)) k 0 l ∙ (next_get k lm ∙ h.row k l))

  pub front_first : (place len : ℕ) → IsLongest ps at most place len
      → first_place (consecutive (take most (drop at ps))) ≡ place
  front_first place zero h = ap first_place (front_is place zero h) ∙ sym (h.none refl)
  front_first place (suc n) h =
      first_get (consecutive (take most (drop at ps))) ∙ (front_get place (suc n) h 0 (omega arith) ∙ add-zero place)

  -- the front's bytes and the offset of the first
  pub front_lent : (b : List ℕ) (place len : ℕ) → IsLongest ps at most place len → place + len ≤ length b
      → lent b (consecutive (take most (drop at ps))) ≡ lent_of place (take len (drop place b))
  front_lent b place len h w =
      ap (λ (v : ℕ). lent_of v (map (λ p. slice_index b p) (consecutive (take most (drop at ps)))))
      (front_first place len h)
      ∙ ap (lent_of place) (sym (row_bytes b (consecutive (take most (drop at ps))) place len
      (sym (front_length place len h)) (front_get place len h) w))

  pub lend_gives : (i : Option ℕ) (b whole text : List ℕ) (place len : ℕ) → IsLongest ps at most place len
      → place + len ≤ length b → whole ≡ b → text ≡ take len (drop place whole)
      → lend_within i b ps at most ≡ Ok ((i, lent_of place text), at + len)
  lend_gives i b whole text place len h w q t =
      let ok : Lent → ℕ → Outcome (Of Lent) = λ v n. Ok ((i, v), at + n) in
      ap (λ (v : Lent). ok v (length (consecutive (take most (drop at ps)))))
      (front_lent b place len h w ∙ ap (lent_of place) (sym (t ∙ ap (λ (v : List ℕ). take len (drop place v)) q)))
      ∙ ap (ok (lent_of place text)) (front_length place len h)

-- the end of a front in the image
pub longest_end : (m : Image) (n : ℕ) (x : Node) (at most place len : ℕ) → image_node m n ≡ Some x
    → IsLongest (places_of x) at most place len → place + len ≤ length m.bytes
longest_end m n x at most place zero e h = let z = h.none refl in omega arith
longest_end m n x at most place (suc k) e h =
    row_end m n x at (record { place = place; len = suc k }) e
    (record { some = omega arith; within = h.within (omega arith); row = h.row })

-- the refusals and the answer of map
map_zero : (i : Option ℕ) (b : List ℕ) (at : ℕ) (ps : List ℕ) (off len : ℕ) → len ≡ 0
    → map_within i b at ps off len ≡ Err Einval
map_zero i b at ps off len e = rw e

module _ (i : Option ℕ) (b : List ℕ) (at : ℕ) (ps : List ℕ) (off len : ℕ) where
  pub map_none : len ≡ 0 → map_within i b at ps off len ≡ Err Einval
  map_none e = map_zero i b at ps off len e

  pub map_past : 0 < len → length ps < off + len → map_within i b at ps off len ≡ Err Einval
  map_past s l = rw (not_zero len s, lt_is (length ps) (off + len) l)

  pub map_inside : 0 < len → off + len ≤ length ps
      → map_within i b at ps off len ≡ map_places i b at (take len (drop off ps)) len
  map_inside s l = rw (not_zero len s, le_is (length ps) (off + len) l)

  pub map_apart : (place n : ℕ) → IsLongest ps off len place n → n < len → 0 < len → off + len ≤ length ps
      → map_within i b at ps off len ≡ Err Erange
  map_apart place n h d s l = map_inside s l
      ∙ places_apart i b at (take len (drop off ps)) len (λ e. omega (arith, front_length ps off len place n h, e))

  pub map_whole : (place n : ℕ) (whole text : List ℕ) → IsLongest ps off len place n → len ≤ n → 0 < len
      → off + len ≤ length ps → place + n ≤ length b → whole ≡ b → text ≡ take len (drop place whole)
      → map_within i b at ps off len ≡ Ok ((i, lent_of place text), at)
  map_whole place n whole text h d s l w q t =
      let f = h.fits in
      let e : n ≡ len = omega arith in
      let P : ℕ → Type 0 = λ v. IsLongest ps off len place v in
      let k : IsLongest ps off len place len = subst P e h in
      let z = next_length ps off len in
      let r : consecutive (take len (drop off ps)) ≡ take len (drop off ps) =
      front_is ps off len place len k ∙ take_all (take len (drop off ps)) len (omega (arith, z)) in
      map_inside s l ∙ (places_whole i b at (take len (drop off ps)) len (front_length ps off len place len k)
      ∙ ap (λ (v : Lent). Ok ((i, v), at))
      (ap (lent b) (sym r) ∙ front_lent ps off len b place len k (omega (arith, w, e))
      ∙ ap (lent_of place) (sym (t ∙ ap (λ (v : List ℕ). take len (drop place v)) q))))
