-- What is found of a file in one run is what its bytes say.
use Rattle.std.proofs.Common.{◌≡◌, ℕ, zero, suc, ◌+◌, ◌≤◌, Bool, true, false, not, ◌&&◌, List, []}
use Rattle.std.proofs.Common.{◌∷◌, length, drop, refl, sym, ap, ◌∙◌, subst, arith, add-one, le_refl, length-drop}
use Rattle.std.proofs.Common.{inl, inr, Option, None, Result}
use Rattle.std.proofs.lemmas.Bool.{eq-eqb, false≢true}
use Rattle.std.proofs.lemmas.Bool.Decides.{eqb_tells}
use Rattle.std.proofs.lemmas.List.{drop_all, length-take-le, take_all}
use Rattle.std.specs.Prelude.{if◌then◌else◌, nat_lt}
use Rattle.rom_fields.specs.Words.{part_of}
use Rattle.rom_tree.specs.Runs.{row_len}
use Rattle.rom_tree.specs.Tree.{Node, is_regular, places_of, row_from}
use Rattle.rom_tree.proofs.Numbers.{length_row}
use Rattle.image_check.specs.declared.any.AnyImage.{AnyImage}
use Rattle.image_check.specs.Any.{any_view}
use Rattle.elf_format.specs.Dynamic.{file_moves_text}
use Rattle.elf_format.specs.Header.{header_of, is_magic, kind_by, kind_in, named_in}
use Rattle.program_pages.specs.Counted.{flash_at, pages_by, pages_of}
use Rattle.program_pages.specs.Flat.{is_flat}
use Rattle.program_pages.specs.Physmem.{shares_page}
use Rattle.program_pages.specs.declared.counting.NoProgram.{NoProgram}
use Rattle.program_pages.specs.declared.counting.ProgramPages.{ProgramPages}
use Rattle.program_report.specs.declared.question.Question.{Question}
use Rattle.program_report.specs.declared.finding.Found.{Found}
use Rattle.program_report.specs.declared.finding.Verdict.{Verdict}
use Rattle.program_report.specs.Alike.{AreAlike, IsFoundAs}
use Rattle.program_report.specs.Found.{found_at, found_in, found_on, is_program, is_romfs, judged, run_verdict}
use Rattle.program_report.specs.Found.{unless_moved, verdict_at}
use Rattle.program_report.proofs.SameVerdict.{judged_alike, moved_alike}

-- a row is one run
row_whole : (p n : ℕ) → row_len p (row_from p n) ≡ n
row_whole p zero = refl
row_whole p (suc n) =
    let e : p + 1 ≡ suc p = add-one p in
    rw (eq-eqb p p refl)
    (ap suc (ap (λ (k : ℕ). row_len (suc p) (row_from k n)) e ∙ row_whole (suc p) n))

part_whole : (b : List ℕ) → part_of b 0 (length b) ≡ b
part_whole b = take_all (length b) b (le_refl (length b))

length_part : (b : List ℕ) (start n : ℕ) → start + n ≤ length b → length (part_of b start n) ≡ n
length_part b start n l = length-take-le n (drop start b) (let e = length-drop start b in omega arith)

no_kind : (t : Bool) (b : List ℕ) → is_program (kind_by b (if t then None else None)) ≡ false
no_kind true b = refl
no_kind false b = refl

not_and : (t : Bool) → (not t && false) ≡ false
not_and true = refl
not_and false = refl

-- bytes that begin as an ELF file do not begin as a flat one
not_flat : (b : List ℕ) → is_program (kind_in b) ≡ true → is_flat b ≡ false
unfolding named_in
not_flat [] e = absurd (false≢true e)
not_flat (x ∷ xs) e =
    elim (eqb_tells x 98) [
      | inl h ↦
          let m : is_magic (x ∷ xs) ≡ false = rw h.1 refl in
          absurd (false≢true (sym (no_kind (nat_lt (length (x ∷ xs)) 52) (x ∷ xs)) ∙ rw m at e))
      | inr h ↦ rw h.0 (not_and (nat_lt (length (x ∷ xs)) 64))
    ]

-- the file of n bytes from `start` on
module _ (a : AnyImage) (q : Question) (start n : ℕ) where
  bytes : List ℕ
  bytes = (any_view a).bytes

  shared : Bool
  shared = shares_page bytes (start + n) n

  -- the address of the file, with nothing else asked
  address : Question
  address = record { base = q.base + start; no_mmu = false; advice = false }

  -- the pages of the file alone, and in the image, by its header
  alone : List ℕ → Result ProgramPages NoProgram
  alone b = pages_by (flash_at b (q.base + start)) false 0 n b (header_of b)

  inside : List ℕ → Result ProgramPages NoProgram
  inside b = pages_by (flash_at bytes q.base) false start n b (header_of b)

  alone_is : (b : List ℕ) → length b ≡ n → pages_of (flash_at b (q.base + start)) false 0 (length b) ≡ alone b
  unfolding pages_of alone
  alone_is b l =
      ap (λ (v : List ℕ). pages_by (flash_at b (q.base + start)) false 0 (length b) v (header_of v)) (part_whole b)
      ∙ ap (λ (k : ℕ). pages_by (flash_at b (q.base + start)) false 0 k b (header_of b)) l

  inside_is : q.no_mmu ≡ false
      → pages_of (flash_at bytes q.base) q.no_mmu start n ≡ inside (part_of bytes start n)
  unfolding pages_of inside
  inside_is nq =
      ap (λ (v : Bool). pages_by (flash_at bytes q.base) v start n (part_of bytes start n)
      (header_of (part_of bytes start n))) nq

  verdict_alone : List ℕ → Verdict
  verdict_alone b =
      unless_moved (file_moves_text b)
      (judged (is_romfs a) address 0 (pages_of (flash_at b (q.base + start)) false 0 (length b)))

  runs_alike : q.no_mmu ≡ false → length (part_of bytes start n) ≡ n
      → is_program (kind_in (part_of bytes start n)) ≡ true
      → AreAlike shared (verdict_alone (part_of bytes start n)) (run_verdict a q start n)
  unfolding address verdict_alone alone inside bytes shared
  runs_alike nq l e =
      let b : List ℕ = part_of bytes start n in
      rw (alone_is b l, not_flat b e, inside_is nq)
      (moved_alike shared (file_moves_text b) (judged (is_romfs a) address 0 (alone b))
      (judged (is_romfs a) q start (inside b))
      (judged_alike (is_romfs a) address q b bytes 0 start n b refl nq (omega arith) (drop_all (0 + n) b (omega arith))
      (header_of b)))

  -- what is found of these bytes, if they are a program or not
  found_by : q.no_mmu ≡ false → (k : Bool) → is_program (kind_in (part_of bytes start n)) ≡ k
      → length (part_of bytes start n) ≡ n
      → IsFoundAs shared (verdict_at (is_romfs a) (q.base + start) (part_of bytes start n)) start n
      (found_at a q start n n)
  unfolding verdict_at found_at verdict_alone address bytes shared
  found_by nq true e l = rw (e, eq-eqb n n refl) (record { begins = refl; long = refl; alike = runs_alike nq l e })
  found_by nq false e l = rw (e, nq) tt

on_row : (a : AnyImage) (q : Question) (start k : ℕ)
    → found_on a q (row_from start (suc k)) ≡ found_at a q start (suc k) (suc k)
on_row a q start k =
    ap (λ (n : ℕ). found_at a q start n (length (row_from start (suc k)))) (row_whole start (suc k))
    ∙ ap (found_at a q start (suc k)) (length_row start (suc k))

row_as : (a : AnyImage) (q : Question) (start n : ℕ) → q.no_mmu ≡ false → start + n ≤ length (any_view a).bytes
    → IsFoundAs (shares_page (any_view a).bytes (start + n) n)
    (verdict_at (is_romfs a) (q.base + start) (part_of (any_view a).bytes start n)) start n
    (found_on a q (row_from start n))
unfolding bytes shared verdict_at named_in
row_as a q start zero nq l = tt
row_as a q start (suc k) nq l =
    let b : List ℕ = part_of (any_view a).bytes start (suc k) in
    subst
    (λ (r : Option Found). IsFoundAs (shares_page (any_view a).bytes (start + suc k) (suc k))
    (verdict_at (is_romfs a) (q.base + start) b) start (suc k) r)
    (sym (on_row a q start k))
    (found_by a q start (suc k) nq (is_program (kind_in b)) refl (length_part (any_view a).bytes start (suc k) l))

pub found_as : (a : AnyImage) (q : Question) (x : Node) (start : ℕ) → q.no_mmu ≡ false → is_regular x ≡ true
    → places_of x ≡ row_from start (length (places_of x)) → start + length (places_of x) ≤ length (any_view a).bytes
    → IsFoundAs (shares_page (any_view a).bytes (start + length (places_of x)) (length (places_of x)))
    (verdict_at (is_romfs a) (q.base + start)
    (part_of (any_view a).bytes start (length (places_of x)))) start (length (places_of x)) (found_in a q x)
found_as a q x start nq r run l =
    let n : ℕ = length (places_of x) in
    let v : Option Verdict = verdict_at (is_romfs a) (q.base + start) (part_of (any_view a).bytes start n) in
    let s : Bool = shares_page (any_view a).bytes (start + n) n in
    rw r
    (subst (λ (ps : List ℕ). IsFoundAs s v start n (found_on a q ps)) (sym run) (row_as a q start n nq l))
