-- Files that begin with a page.
use Rattle.std.proofs.Common.{◌≡◌, ℕ, zero, suc, ◌-◌, ◌<◌, ◌≤◌, List, [], ◌∷◌, length, refl}
use Rattle.std.proofs.Common.{sym, ap, ◌∙◌, arith, Some}
use Rattle.std.proofs.lemmas.Bool.{eq-eqb, ne_eqb}
use Rattle.std.specs.Prelude.{slice_index}
use Rattle.rom_tree.specs.Image.{Image, IsRun, image_node}
use Rattle.rom_tree.specs.Tree.{Node, places_of}
use Rattle.rom_tree.specs.declared.types.Run.{Run}
use Rattle.rom_tree.proofs.Rows.{row_end}
use Rattle.image_check.specs.declared.any.AnyImage.{AnyImage}
use Rattle.program_report.specs.declared.question.Question.{Question}
use Rattle.program_report.specs.Lines.{object_at, object_line, zeros_before}

pub zeros_stop : (b : List ℕ) (at n : ℕ) → 0 < at → (slice_index b (at - 1) ≡ 0 → ⊥) → zeros_before b at n ≡ 0
zeros_stop b zero n s d = absurd (omega arith)
zeros_stop b (suc p) zero s d = refl
zeros_stop b (suc p) (suc n) s d =
    let k : suc p - 1 ≡ p = omega arith in
    rw (ne_eqb (slice_index b p) 0 (λ e. d (ap (slice_index b) k ∙ e))) refl

pub zeros_on : (b : List ℕ) (at n : ℕ) → 0 < at → 0 < n → slice_index b (at - 1) ≡ 0
    → zeros_before b at n ≡ suc (zeros_before b (at - 1) (n - 1))
zeros_on b zero n s l e = absurd (omega arith)
zeros_on b (suc p) zero s l e = absurd (omega arith)
zeros_on b (suc p) (suc n) s l e =
    let k : suc p - 1 ≡ p = omega arith in
    let j : suc n - 1 ≡ n = omega arith in
    let z : slice_index b p ≡ 0 = sym (ap (slice_index b) k) ∙ e in
    rw (eq-eqb (slice_index b p) 0 z, k, j) refl

pub zeros_front : (b : List ℕ) (at n : ℕ) → at ≡ 0 → zeros_before b at n ≡ 0
zeros_front b zero zero e = refl
zeros_front b zero (suc n) e = refl
zeros_front b (suc p) n e = absurd (omega arith)

pub zeros_full : (b : List ℕ) (at n : ℕ) → n ≡ 0 → zeros_before b at n ≡ 0
zeros_full b at zero e = refl
zeros_full b at (suc n) e = absurd (omega arith)

-- the line of a file whose bytes begin with a run
pub object_some : (a : AnyImage) (q : Question) (path ps : List ℕ) (r : Run) → IsRun ps 0 r
    → object_line a q path r.place ≡ object_at a q path ps
object_some a q path [] r i = absurd (let s = i.some in let w = i.within in omega arith)
object_some a q path (p ∷ ps) r i =
    let e : p ≡ r.place = i.row 0 i.some ∙ omega arith in
    ap (λ (k : ℕ). object_line a q path k) (sym e)

pub object_none : (a : AnyImage) (q : Question) (path ps : List ℕ) → length ps ≤ 0 → [] ≡ object_at a q path ps
object_none a q path [] l = refl
object_none a q path (p ∷ ps) l = absurd (omega arith)

pub run_begins : (m : Image) (n : ℕ) (x : Node) (r : Run) → image_node m n ≡ Some x → IsRun (places_of x) 0 r
    → r.place < length m.bytes
run_begins m n x r e i = let w = row_end m n x 0 r e i in let s = i.some in omega arith
