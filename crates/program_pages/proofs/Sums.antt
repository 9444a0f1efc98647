-- The pages of the program headers one after the other.
use Rattle.std.proofs.Common.{◌≡◌, ℕ, zero, suc, ◌+◌, ◌<◌, List, Bool, true, false, refl, ap, sym, ◌∙◌, arith, inl, inr}
use Rattle.std.proofs.Common.{Result, Ok, Err, Some, None}
use Rattle.std.specs.Prelude.{if◌then◌else◌}
use Rattle.std.proofs.lemmas.Bool.{cases_lt}
use Rattle.rom_fields.specs.Words.{part_of}
use Rattle.program_pages.specs.Physmem.{Flash}
use Rattle.elf_format.specs.Header.{header_of, program_at}
use Rattle.elf_format.specs.Loading.{loaded}
use Rattle.elf_format.specs.declared.error.ElfError.{ElfError}
use Rattle.elf_format.specs.declared.header.Header.{Header}
use Rattle.elf_format.specs.declared.program.Program.{Program}
use Rattle.program_pages.specs.declared.counting.ProgramPages.{ProgramPages}
use Rattle.program_pages.specs.declared.counting.NoProgram.TheVariants.{Unloadable}
use Rattle.program_pages.specs.Counted.{all_load, flash_at, is_linked, is_refused, pages_by, pages_of, pages_sum, plus}
use Rattle.program_pages.specs.Counted.{segment_pages}

-- a program header that does not load is one of the first n
pub some_refused : (size : ℕ) (b : List ℕ) (h : Header) (i n : ℕ) → i < n
    → is_refused (loaded size (program_at b h i)) ≡ true → all_load size b h n ≡ false
some_refused size b h i zero k r = absurd (omega arith)
some_refused size b h i (suc n) k r =
    elim (cases_lt i n) [
      | inl s ↦ earlier (is_refused (loaded size (program_at b h n))) (some_refused size b h i n s r)
      | inr s ↦
          let z : n ≡ i = omega arith in
          rw z (rw r refl)
    ]
  where
    earlier : {x : Bool} (t : Bool) → x ≡ false → (if t then false else x) ≡ false
    earlier true e = refl
    earlier false e = e

-- what an answer says of its test
pub none_then : {A : Type 0} (t : Bool) (s : A) → None ≡ (if t then None else Some s) → t ≡ true
none_then true s e = refl
none_then false s e = grind arith

pub some_then : {A : Type 0} (t : Bool) (s m : A) → Some m ≡ (if t then None else Some s) → (t ≡ false) × (m ≡ s)
some_then true s m e = grind arith
some_then false s m e = (refl, grind arith)

pub sums_more : (f : Flash) (no_mmu : Bool) (start size : ℕ) (b : List ℕ) (h : Header) (n : ℕ)
    (so_far more all : ProgramPages) (p : Program) → all ≡ plus so_far more → p ≡ program_at b h n
    → more ≡ segment_pages f no_mmu start size (is_linked no_mmu b h) p → so_far ≡ pages_sum f no_mmu start size b h n
    → all ≡ pages_sum f no_mmu start size b h (n + 1)
sums_more f no_mmu start size b h n so_far more all p a e m s =
    let k : n + 1 ≡ suc n = omega arith in
    let z : more ≡ segment_pages f no_mmu start size (is_linked no_mmu b h) (program_at b h n) =
    m ∙ ap (λ (q : Program). segment_pages f no_mmu start size (is_linked no_mmu b h) q) e in
    a ∙ rw (k, s, z) refl

pub load_more : (size : ℕ) (b : List ℕ) (h : Header) (n : ℕ) (p : Program) → p ≡ program_at b h n
    → is_refused (loaded size p) ≡ false → all_load size b h n ≡ true → all_load size b h (n + 1) ≡ true
load_more size b h n p e r l =
    let k : n + 1 ≡ suc n = omega arith in
    let z : is_refused (loaded size (program_at b h n)) ≡ false =
    sym (ap (λ (q : Program). is_refused (loaded size q)) e) ∙ r in
    rw (k, z) l

-- the answer by what was read of the header
pub found : (flash : List ℕ) (address : ℕ) (no_mmu : Bool) (start size : ℕ) (b : List ℕ) (r : Result Header ElfError)
    → b ≡ part_of flash start size → r ≡ header_of b
    → pages_by (flash_at flash address) no_mmu start size b r ≡ pages_of (flash_at flash address) no_mmu start size
unfolding pages_of
found flash address no_mmu start size b r e h =
    ap (λ (v : Result Header ElfError). pages_by (flash_at flash address) no_mmu start size b v) h
    ∙ ap (λ (v : List ℕ). pages_by (flash_at flash address) no_mmu start size v (header_of v)) e

pub loads : (f : Flash) (no_mmu : Bool) (start size : ℕ) (b : List ℕ) (h : Header) (n : ℕ) (p : ProgramPages)
    → n ≡ h.count → all_load size b h n ≡ true → p ≡ pages_sum f no_mmu start size b h n
    → Ok p ≡ pages_by f no_mmu start size b (Ok h)
loads f no_mmu start size b h n p e l s =
    let a : all_load size b h h.count ≡ true = sym (ap (all_load size b h) e) ∙ l in
    let q : p ≡ pages_sum f no_mmu start size b h h.count = s ∙ ap (pages_sum f no_mmu start size b h) e in
    rw a (ap Ok q)

pub refuses : (f : Flash) (no_mmu : Bool) (start size : ℕ) (b : List ℕ) (h : Header)
    → all_load size b h h.count ≡ false → Err Unloadable ≡ pages_by f no_mmu start size b (Ok h)
refuses f no_mmu start size b h l = rw l refl
