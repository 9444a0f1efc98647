-- The run with which a file begins.
use Rattle.std.proofs.Common.{◌≡◌, ℕ, Bool, ◌+◌, ◌<◌, ◌≤◌, true, false, List, [], ◌∷◌, length, refl, sym, ap}
use Rattle.std.proofs.Common.{◌∙◌, arith, Option, Some, None, zero-add, rules}
use Rattle.std.specs.Prelude.{slice_index, IfSome}
use Rattle.rom_fields.specs.Words.{part_of}
use Rattle.rom_tree.specs.Image.{Image, image_node}
use Rattle.rom_tree.specs.Runs.{IsLongest, row_len}
use Rattle.rom_tree.specs.Tree.{Node, places_of}
use Rattle.rom_tree.proofs.Fronts.{row_len_is}
use Rattle.rom_tree.proofs.Rows.{row_end}
use Rattle.image_check.specs.Any.{any_view}
use Rattle.image_check.specs.declared.any.AnyImage.{AnyImage}
use Rattle.program_report.specs.declared.question.Question.{Question}
use Rattle.program_report.specs.declared.finding.Found.{Found}
use Rattle.program_report.specs.declared.finding.Verdict.{Verdict}
use Rattle.program_report.specs.Found.{found, found_at, found_on, is_found, verdict_in}

kind_same : (a : AnyImage) (q : Question) (start len : ℕ) (k : Bool) (front b : List ℕ) {y : Bool}
    → k ≡ is_found q front → front ≡ part_of b start len → b ≡ (any_view a).bytes → k ≡ y
    → is_found q (part_of (any_view a).bytes start len) ≡ y
kind_same a q start len k front b {y} s f c g =
    sym (ap (λ (v : List ℕ). is_found q (part_of v start len)) c)
    ∙ (sym (ap (λ (v : List ℕ). is_found q v) f) ∙ (sym s ∙ g))

-- what is found of a file whose longest run from its first byte on is this one
pub front_is : (a : AnyImage) (q : Question) (ps : List ℕ) (place len : ℕ) → IsLongest ps 0 (length ps) place len
    → 0 < len → found_on a q ps ≡ found_at a q place len (length ps)
front_is a q [] place len l some = absurd (let w = l.within some in omega arith)
front_is a q (p ∷ rest) place len l some =
    let e : p ≡ place = l.row 0 some ∙ omega arith in
    let n : row_len p (p ∷ rest) ≡ len =
    row_len_is p (p ∷ rest) len
    (λ k s. ap (slice_index (p ∷ rest)) (sym (zero-add k)) ∙ (l.row k s ∙ omega (arith, e)))
    (let w = l.within some in omega arith)
    (λ s h. l.ends s (omega (arith, s)) (ap (slice_index (p ∷ rest)) (zero-add len) ∙ (h ∙ omega (arith, e)))) in
    ap (λ (k : ℕ). found_at a q p k (length (p ∷ rest))) n
    ∙ ap (λ (k : ℕ). found_at a q k len (length (p ∷ rest))) e

-- nothing is found of a file whose longest run is empty
pub none_found : (a : AnyImage) (q : Question) (ps : List ℕ) (place len : ℕ) → IsLongest ps 0 (length ps) place len
    → len ≡ 0 → None ≡ found_on a q ps
none_found a q [] place len l e = refl
none_found a q (p ∷ rest) place len l e = absurd (let s = l.some (omega arith) (omega arith) in omega arith)

-- a run of some offsets ends within the bytes
pub run_within : (m : Image) (n : ℕ) (x : Node) (place len : ℕ) → image_node m n ≡ Some x
    → IsLongest (places_of x) 0 (length (places_of x)) place len → 0 < len → place + len ≤ length m.bytes
run_within m n x place len e l some =
    row_end m n x 0 (record { place = place; len = len }) e
    (record { some = some; within = l.within some; row = l.row })

-- the answer by what was read
pub found_one : (a : AnyImage) (q : Question) (start len size : ℕ) (k : Bool) (front b : List ℕ) (v : Verdict)
    → k ≡ is_found q front → front ≡ part_of b start len → b ≡ (any_view a).bytes → k ≡ true
    → v ≡ verdict_in a q start len size → Some (found start size v) ≡ found_at a q start len size
unfolding found_at
found_one a q start len size k front b v s f c y r =
    let z : is_found q (part_of (any_view a).bytes start len) ≡ true = kind_same a q start len k front b s f c y in
    rw z (ap (λ (w : Verdict). Some (found start size w)) r)

pub found_none : (a : AnyImage) (q : Question) (start len size : ℕ) (k : Bool) (front b : List ℕ)
    → k ≡ is_found q front → front ≡ part_of b start len → b ≡ (any_view a).bytes → k ≡ false
    → None ≡ found_at a q start len size
unfolding found_at
found_none a q start len size k front b s f c y =
    let z : is_found q (part_of (any_view a).bytes start len) ≡ false = kind_same a q start len k front b s f c y in
    rw z refl

-- what is found begins where the run begins
pub some_start : (r : Option Found) (s n : ℕ) → IfSome r (λ f. f.start ≡ s) → s < n → IfSome r (λ f. f.start < n)
some_start None s n h l = search rules
some_start (Some f) s n h l = rw h l
