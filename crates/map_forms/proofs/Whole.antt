-- The address of a file whose bytes follow one another.
use Rattle.std.proofs.Common.{◌≡◌, ℕ, ◌+◌, ◌-◌, ◌%◌, ◌^◌, ◌<◌, ◌≤◌, List, [], ◌∷◌, length, drop}
use Rattle.std.proofs.Common.{refl, sym, ap, ◌∙◌, subst, arith, length-drop, Some, None}
use Rattle.std.proofs.lemmas.List.{drop_all}
use Rattle.std.specs.Prelude.{slice_index}
use Rattle.rom_tree.specs.Runs.{IsLongest}
use Rattle.image_info.specs.Runs.{Piece, piece, runs, runs_from, joined}
use Rattle.image_info.proofs.Pieces.{runs_nil, runs_first, runs_joined}
use Rattle.map_forms.specs.Header.{only_address}

none_more : (k : ℕ) → 0 + k ≡ k
none_more k = omega arith

-- the longest run from the first byte on is the first of the runs
front : (ps : List ℕ) (place len : ℕ) → IsLongest ps 0 (length ps) place len → 0 < len
    → runs ps ≡ piece place len 0 ∷ runs_from len (drop len ps)
front ps place len h s =
    let row : (k : ℕ) → k < len → slice_index ps k ≡ place + k = λ k l.
    ap (slice_index ps) (sym (none_more k)) ∙ h.row k l in
    let ends : len < length ps → slice_index ps len ≡ place + len → ⊥ = λ l e.
    h.ends l (subst (λ v. v < length ps) (sym (none_more len)) l) (ap (slice_index ps) (none_more len) ∙ e) in
    runs_first ps place 0 len s h.fits row ends
    ∙ ap (λ (v : ℕ). piece place len 0 ∷ runs_from v (drop len ps)) (none_more len)

pub whole_address : (base : ℕ) (ps : List ℕ) (place len : ℕ) → IsLongest ps 0 (length ps) place len → 0 < length ps
    → len ≡ length ps → Some ((base + place) % 2 ^ 64) ≡ only_address base (runs ps)
whole_address base ps place len h s e =
    let over : length ps ≤ len = omega (arith, e) in
    let some : 0 < len = omega (arith, e, s) in
    let none : runs_from len (drop len ps) ≡ [] = ap (runs_from len) (drop_all len ps over) ∙ runs_nil len in
    sym (ap (only_address base) (front ps place len h some ∙ ap (λ (v : List Piece). piece place len 0 ∷ v) none))

-- some runs and one before them
two : (base : ℕ) (r : Piece) (rs : List Piece) → (rs ≡ [] → ⊥) → only_address base (r ∷ rs) ≡ None
two base r [] n = absurd (n refl)
two base r (s ∷ rs) n = refl

pub no_address : (base : ℕ) (ps : List ℕ) (place len : ℕ) → IsLongest ps 0 (length ps) place len
    → (0 < length ps → len ≡ length ps → ⊥) → None ≡ only_address base (runs ps)
no_address base [] place len h n = sym (ap (only_address base) (runs_nil 0))
no_address base (p ∷ ps) place len h n =
    let all : List ℕ = p ∷ ps in
    let less : len < length all = omega (arith, h.fits, λ (e : len ≡ length all). n (omega arith) e) in
    let some : 0 < len = h.some less (subst (λ v. v < length all) (sym (none_more len)) less) in
    let d : length (drop len all) ≡ length all - len = length-drop len all in
    let left : runs_from len (drop len all) ≡ [] → ⊥ = λ e.
    let t : drop len all ≡ [] = sym (runs_joined len (drop len all)) ∙ ap joined e in
    let l = ap length t in omega (arith, d, l, less) in
    sym (ap (only_address base) (front all place len h some)
    ∙ two base (piece place len 0) (runs_from len (drop len all)) left)
