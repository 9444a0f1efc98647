-- The verdict on a program is the same, whatever follows its file.
use Rattle.std.proofs.Common.{◌≡◌, ℕ, ◌+◌, ◌%◌, Bool, true, false, eqb, List, [], drop, refl, sym, ap, ap₂, ◌∙◌, subst}
use Rattle.std.proofs.Common.{arith, Result, Ok, Err}
use Rattle.std.proofs.lemmas.Bool.{eqb-true}
use Rattle.std.specs.Prelude.{if◌then◌else◌}
use Rattle.elf_format.specs.declared.error.ElfError.{ElfError}
use Rattle.elf_format.specs.declared.error.ElfError.TheVariants as elf
use Rattle.elf_format.specs.declared.header.Header.{Header}
use Rattle.program_pages.specs.Counted.{all_load, flash_at, pages_by, pages_sum}
use Rattle.program_pages.specs.Physmem.{shares_page}
use Rattle.program_pages.specs.declared.counting.NoProgram.TheVariants.{Unloadable}
use Rattle.program_pages.specs.declared.counting.ProgramPages.{ProgramPages}
use Rattle.program_report.specs.declared.question.Question.{Question}
use Rattle.program_report.specs.declared.finding.Reason.TheVariants.{Unaligned, Romfs, TextRelocations, Writable}
use Rattle.program_report.specs.declared.finding.Verdict.{Verdict}
use Rattle.program_report.specs.declared.finding.Verdict.TheVariants.{InPlace, Not}
use Rattle.program_report.specs.Alike.{AreAlike, HaveSamePages}
use Rattle.program_report.specs.Found.{judged, placed, unless_moved}
use Rattle.program_report.proofs.SamePages.{AreSame, sum_same}

-- of a program that begins with a page, and of one with no pages
begins : (aligned shared : Bool) (p q : ProgramPages) → AreSame aligned shared p q → aligned ≡ true
    → HaveSamePages shared p q
begins aligned shared p q h a = record {
  loaded = h.loaded;
  in_place = h.placed a;
  fixed = h.fixed;
  zero = h.zero;
  used = h.used;
}

none_either : (t : Bool) (m n k : ℕ) → m ≡ 0 → n ≡ 0 → k ≡ 0 → m ≡ (if t then n else k)
none_either true m n k a b c = omega arith
none_either false m n k a b c = omega arith

empty : (aligned shared : Bool) (p q : ProgramPages) → AreSame aligned shared p q → q.fixed ≡ 0
    → q.in_place + q.copied ≡ 0 → HaveSamePages shared p q
empty aligned shared p q h f n =
    let a = h.loaded in
    let b = h.fixed in
    record {
      loaded = h.loaded;
      in_place = none_either shared q.in_place p.in_place p.fixed (omega arith) (omega arith) (omega arith);
      fixed = h.fixed;
      zero = h.zero;
      used = h.used;
    }

-- `placed` by its tests, with an MMU
by_tests : Bool → Bool → Bool → Bool → ProgramPages → ℕ → Verdict
by_tests is_written none romfs aligned p n =
    if is_written then (if none then InPlace p else Not Writable n)
    else (if romfs then Not Romfs n else (if aligned then InPlace p else Not Unaligned n))

tests_alike : (shared a b c d : Bool) (p q : ProgramPages) (n : ℕ) → (a ≡ true → b ≡ true → HaveSamePages shared p q)
    → (d ≡ true → HaveSamePages shared p q) → AreAlike shared (by_tests a b c d p n) (by_tests a b c d q n)
unfolding by_tests
tests_alike shared true true c d p q n h k = h refl refl
tests_alike shared true false c d p q n h k = (refl, refl)
tests_alike shared false b true d p q n h k = (refl, refl)
tests_alike shared false b false true p q n h k = k refl
tests_alike shared false b false false p q n h k = (refl, refl)

-- by the numbers of its pages
by_pages : Bool → Bool → ProgramPages → ℕ → ℕ → Verdict
by_pages romfs aligned p fixed loaded = by_tests (eqb fixed 0) (eqb loaded 0) romfs aligned p loaded

placed_is : (romfs : Bool) (q : Question) (start : ℕ) (p : ProgramPages) → q.no_mmu ≡ false
    → placed romfs q start p ≡ by_pages romfs (eqb ((q.base + start) % 4096) 0) p p.fixed (p.in_place + p.copied)
unfolding by_tests by_pages
placed_is romfs q start p e = rw e refl

pages_alike : (aligned shared romfs : Bool) (p q : ProgramPages) → AreSame aligned shared p q
    → AreAlike shared (by_pages romfs aligned p p.fixed (p.in_place + p.copied))
    (by_pages romfs aligned q q.fixed (q.in_place + q.copied))
unfolding by_pages
pages_alike aligned shared romfs p q h =
    let n : ℕ = q.in_place + q.copied in
    subst (λ (v : Verdict). AreAlike shared v (by_pages romfs aligned q q.fixed n))
    (sym (ap₂ (λ (k m : ℕ). by_pages romfs aligned p k m) h.fixed h.loaded))
    (tests_alike shared (eqb q.fixed 0) (eqb n 0) romfs aligned p q n
    (λ a b. empty aligned shared p q h (eqb-true q.fixed 0 a) (eqb-true n 0 b)) (begins aligned shared p q h))

-- with an MMU, at the same address
placed_alike : (shared romfs : Bool) (u q : Question) (s t : ℕ) (p r : ProgramPages) → u.no_mmu ≡ false
    → q.no_mmu ≡ false → u.base + s ≡ q.base + t → AreSame (eqb ((q.base + t) % 4096) 0) shared p r
    → AreAlike shared (placed romfs u s p) (placed romfs q t r)
placed_alike shared romfs u q s t p r nu nq e h =
    let aligned : Bool = eqb ((q.base + t) % 4096) 0 in
    let left : placed romfs u s p ≡ by_pages romfs aligned p p.fixed (p.in_place + p.copied) =
    placed_is romfs u s p nu
    ∙ ap (λ (n : ℕ). by_pages romfs (eqb (n % 4096) 0) p p.fixed (p.in_place + p.copied)) e in
    let right : placed romfs q t r ≡ by_pages romfs aligned r r.fixed (r.in_place + r.copied) =
    placed_is romfs q t r nq in
    subst (λ (v : Verdict). AreAlike shared v (placed romfs q t r)) (sym left)
    (subst (λ (v : Verdict). AreAlike shared (by_pages romfs aligned p p.fixed (p.in_place + p.copied)) v) (sym right)
    (pages_alike aligned shared romfs p r h))

-- if the dynamic linker writes into the text of a program of which some pages are not written
by_fixed : Bool → ProgramPages → ℕ → Verdict
by_fixed none p n = if none then InPlace p else Not TextRelocations n

fixed_alike : (shared none : Bool) (p q : ProgramPages) (n : ℕ) → HaveSamePages shared p q
    → AreAlike shared (by_fixed none p n) (by_fixed none q n)
unfolding by_fixed
fixed_alike shared true p q n h = h
fixed_alike shared false p q n h = (refl, refl)

pub moved_alike : (shared moved : Bool) (v w : Verdict) → AreAlike shared v w
    → AreAlike shared (unless_moved moved v) (unless_moved moved w)
unfolding by_fixed
moved_alike shared moved (Not r n) (Not s m) h = h
moved_alike shared moved (Not r n) (InPlace q) h = absurd h
moved_alike shared moved (InPlace p) (Not s m) h = absurd h
moved_alike shared false (InPlace p) (InPlace q) h = h
moved_alike shared true (InPlace p) (InPlace q) h =
    let n : ℕ = q.in_place + q.copied in
    subst (λ (v : Verdict). AreAlike shared v (by_fixed (eqb q.fixed 0) q n))
    (sym (ap₂ (λ (k m : ℕ). by_fixed (eqb k 0) p m) h.fixed h.loaded))
    (fixed_alike shared (eqb q.fixed 0) p q n h)

-- The file of `size` bytes, which are b, is in the flash c at s and in the flash d at t, at the same
-- address. Nothing is behind it in c.
module _ (romfs : Bool) (u q : Question) (c d : List ℕ) (s t size : ℕ) (b : List ℕ) (nu : u.no_mmu ≡ false)
    (nq : q.no_mmu ≡ false) (e : u.base + s ≡ q.base + t) (ends : drop (s + size) c ≡ []) where
  loads_alike : (h : Header) (l : Bool)
      → AreAlike (shares_page d (t + size) size)
      (judged romfs u s (if l then Ok (pages_sum (flash_at c u.base) false s size b h h.count) else Err Unloadable))
      (judged romfs q t (if l then Ok (pages_sum (flash_at d q.base) false t size b h h.count) else Err Unloadable))
  loads_alike h true =
      placed_alike (shares_page d (t + size) size) romfs u q s t
      (pages_sum (flash_at c u.base) false s size b h h.count)
      (pages_sum (flash_at d q.base) false t size b h h.count) nu nq e
      (sum_same (flash_at c u.base) (flash_at d q.base) s t size ends e b h h.count)
  loads_alike h false = (refl, refl)

  pub judged_alike : (r : Result Header ElfError)
      → AreAlike (shares_page d (t + size) size)
      (judged romfs u s (pages_by (flash_at c u.base) false s size b r))
      (judged romfs q t (pages_by (flash_at d q.base) false t size b r))
  judged_alike (Ok h) = loads_alike h (all_load size b h h.count)
  judged_alike (Err elf.NotElf) = (refl, refl)
  judged_alike (Err elf.Table) = (refl, refl)
