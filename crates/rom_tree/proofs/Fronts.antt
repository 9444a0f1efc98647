-- The bytes with which a file begins.
use Rattle.std.proofs.Common.{◌≡◌, ℕ, zero, suc, ◌+◌, ◌<◌, ◌≤◌, List, [], ◌∷◌, length, take, drop, refl, sym, ap, ◌∙◌}
use Rattle.std.proofs.Common.{arith, inl, inr, zero-add, Some, subst}
use Rattle.std.specs.Prelude.{slice_index}
use Rattle.std.proofs.lemmas.Bool.Decides.{eqb_tells}
use Rattle.rom_tree.specs.declared.types.Stat.{Stat}
use Rattle.rom_tree.specs.Image.{Image, image_node, stat_of}
use Rattle.rom_tree.specs.Runs.{IsLongest, front_of, row_len}
use Rattle.rom_tree.specs.Tree.{Node, places_of}
use Rattle.rom_tree.proofs.Rows.{row_end}

pub row_len_is : (p : ℕ) (ps : List ℕ) (n : ℕ) → ((k : ℕ) → k < n → slice_index ps k ≡ p + k) → n ≤ length ps
    → (n < length ps → slice_index ps n ≡ p + n → ⊥) → row_len p ps ≡ n
row_len_is p [] n row within ends = omega arith
row_len_is p (q ∷ qs) zero row within ends =
    elim (eqb_tells q p) [
      | inl e ↦ absurd (ends (omega arith) (e.1 ∙ omega arith))
      | inr d ↦ rw d.0 refl
    ]
row_len_is p (q ∷ qs) (suc n) row within ends =
    let e : q ≡ p = row 0 (omega arith) ∙ omega arith in
    let more : row_len (suc p) qs ≡ n =
    row_len_is (suc p) qs n (λ k l. row (suc k) (omega arith) ∙ omega arith) (omega arith)
    (λ l h. ends (omega arith) (h ∙ omega arith)) in
    elim (eqb_tells q p) [
      | inl t ↦ rw t.0 (ap (λ (k : ℕ). suc k) more)
      | inr d ↦ absurd (d.1 e)
    ]

-- the front of a file whose longest run from its first byte on is this one
pub front_is : (b ps : List ℕ) (place len : ℕ) → IsLongest ps 0 (length ps) place len
    → take len (drop place b) ≡ front_of b ps
front_is b [] place len l = let z : len ≡ 0 = omega (arith, l.fits) in rw z refl
front_is b (p ∷ rest) place len l =
    let some : 0 < len = over len (λ e. l.some (omega (arith, e)) (omega arith)) in
    let e : p ≡ place = l.row 0 some ∙ omega arith in
    let n : row_len p (p ∷ rest) ≡ len =
    row_len_is p (p ∷ rest) len
    (λ k s. ap (slice_index (p ∷ rest)) (sym (zero-add k)) ∙ (l.row k s ∙ omega (arith, e)))
    (let w = l.within some in omega arith)
    (λ s h. l.ends s (omega (arith, s)) (ap (slice_index (p ∷ rest)) (zero-add len) ∙ (h ∙ omega (arith, e)))) in
    sym (ap (λ (k : ℕ). take k (drop p b)) n ∙ ap (λ (k : ℕ). take len (drop k b)) e)
  where
    over : (n : ℕ) → (n ≡ 0 → 0 < n) → 0 < n
    over zero h = h refl
    over (suc n) h = omega arith

-- a run up to the size that a node's attributes have is one up to the number of its bytes
pub sized : (x : Node) (s : Stat) (size place len : ℕ) → s ≡ stat_of x → size ≡ s.size
    → IsLongest (places_of x) 0 size place len → IsLongest (places_of x) 0 (length (places_of x)) place len
sized x s size place len e h l =
    subst (λ (n : ℕ). IsLongest (places_of x) 0 n place len) (h ∙ ap (λ (v : Stat). v.size) e) l

-- the front of a file ends within the image's bytes
pub front_within : (m : Image) (n : ℕ) (x : Node) (place len : ℕ) → image_node m n ≡ Some x
    → IsLongest (places_of x) 0 (length (places_of x)) place len → place + len ≤ length m.bytes
front_within m n x place zero e l = omega (arith, l.none refl)
front_within m n x place (suc len) e l =
    row_end m n x 0 (record { place = place; len = suc len }) e
    (record { some = omega arith; within = l.within (omega arith); row = l.row })
