-- A program has the same pages, whatever follows its file.
use Rattle.std.proofs.Common.{◌≡◌, ◌≢◌, ℕ, zero, suc, ◌+◌, ◌-◌, ◌/◌, ◌%◌, ◌<◌, ◌≤◌, min, max, Bool, true, false, eqb}
use Rattle.std.proofs.Common.{List, [], drop, refl, sym, ap, ap₂, ◌∙◌, arith}
use Rattle.std.proofs.lemmas.Bool.{eq-eqb, eqb-true, false≢true, lt-ltb, ltb-false, ltb-true, ne_eqb}
use Rattle.std.specs.Prelude.{if◌then◌else◌, nat_lt}
use Rattle.cramfs_format.specs.Inode.{block_count}
use Rattle.elf_format.specs.Header.{program_at}
use Rattle.elf_format.specs.Loading.{is_loadable, is_loaded, is_writable, loaded}
use Rattle.elf_format.specs.declared.header.Header.{Header}
use Rattle.elf_format.specs.declared.loading.Loading.{Loading}
use Rattle.elf_format.specs.declared.loading.Loading.TheVariants.{Nothing, Refused, Pages}
use Rattle.elf_format.specs.declared.program.Program.{Program}
use Rattle.program_pages.specs.Counted.{fixed_pages, is_linked, is_zeroed, kept, loaded_pages, pages_sum, placed_of}
use Rattle.program_pages.specs.Counted.{plus, segment_pages}
use Rattle.program_pages.specs.InPlace.{pages_in_place}
use Rattle.program_pages.specs.Physmem.{Flash, begins_with_zeros, shares_page}
use Rattle.program_pages.specs.declared.counting.ProgramPages.{ProgramPages}
use Rattle.program_pages.specs.declared.mapping.Mapping.{Mapping}

-- The same pages, of which those of the second are in place if the file begins with a page of the
-- flash. The first has nothing behind it.
pub record AreSame (aligned shared : Bool) (p q : ProgramPages) : Type 0 where
  pub loaded : p.in_place + p.copied ≡ q.in_place + q.copied
  pub placed : aligned ≡ true → q.in_place ≡ (if shared then p.in_place else p.fixed)
  pub fixed : p.fixed ≡ q.fixed
  pub zero : p.zero ≡ q.zero
  pub used : p.used ≡ q.used

-- what is loaded has some pages, which are in the file
abbrev IsInside : ℕ → Loading → Type 0
IsInside size Nothing = Unit {0}
IsInside size Refused = Unit {0}
IsInside size (Pages first count writable) = (0 < count) × (first + count ≤ block_count size)

both_are : (t u : Bool) → (if t then u else false) ≡ true → (t ≡ true) × (u ≡ true)
both_are true u e = (refl, e)
both_are false u e = absurd (false≢true e)

other_is : (t u : Bool) → (if t then false else u) ≡ true → (t ≡ false) × (u ≡ true)
other_is true u e = absurd (false≢true e)
other_is false u e = (refl, e)

in_file : (size : ℕ) (p : Program) → IsInside size (loaded size p)
in_file size p = by (is_loaded p) (is_loadable size p) refl refl
  where
    by : (l k : Bool) → is_loaded p ≡ l → is_loadable size p ≡ k
        → IsInside size (if l then (if k then Pages (p.offset / 4096)
        ((p.address % 4096 + p.file_size + 4095) / 4096) (is_writable p) else Refused) else Nothing)
    by false k e d = tt
    by true false e d = tt
    by true true e d =
        let l = both_are (eqb p.kind 1) (nat_lt 0 p.file_size) e in
        let some : 0 < p.file_size = ltb-true 0 p.file_size l.1 in
        let a =
        both_are (eqb (p.offset % 4096) (p.address % 4096))
        (if nat_lt p.memory_size p.file_size then false
        else (if nat_lt size (p.offset + p.file_size) then false else true)) d in
        let same : p.offset % 4096 ≡ p.address % 4096 = eqb-true (p.offset % 4096) (p.address % 4096) a.0 in
        let b =
        other_is (nat_lt p.memory_size p.file_size)
        (if nat_lt size (p.offset + p.file_size) then false else true) a.1 in
        let c = other_is (nat_lt size (p.offset + p.file_size)) true b.1 in
        let within : p.offset + p.file_size ≤ size = ltb-false size (p.offset + p.file_size) c.0 in
        (omega arith, omega arith)

-- `pages_in_place` by its tests
by_tests : Bool → Bool → Bool → Bool → Bool → ℕ → ℕ
by_tests writable inside aligned last shared n =
    if writable then 0
    else (if inside then (if aligned then (if last then (if shared then n - 1 else n) else n) else 0) else 0)

tests_few : (a b c d e : Bool) (n : ℕ) → by_tests a b c d e n ≤ n
unfolding by_tests
tests_few true b c d e n = omega arith
tests_few false false c d e n = omega arith
tests_few false true false d e n = omega arith
tests_few false true true false e n = omega arith
tests_few false true true true true n = omega arith
tests_few false true true true false n = omega arith

-- all that are not written, or as many as if the last page is shared
tests_last : (shared z w last : Bool) (n : ℕ)
    → kept z n (by_tests w true true last shared n)
    ≡ (if shared then kept z n (by_tests w true true last true n) else (if w then 0 else kept z n n))
unfolding by_tests
tests_last true z w last n = refl
tests_last false true true last n = omega arith
tests_last false false true last n = refl
tests_last false z false true n = refl
tests_last false z false false n = refl

by_flash : Bool → ℕ → ℕ → Mapping → Bool → ℕ
by_flash aligned size left m shared =
    by_tests m.writable (nat_lt m.first (block_count size)) aligned (eqb (m.first + left) (block_count size)) shared
    left

mapped_by : (f : Flash) (start size : ℕ) (m : Mapping)
    → pages_in_place f start size m
    ≡ by_flash (eqb ((f.address + start) % 4096) 0) size (min m.count (block_count size - m.first)) m
    (shares_page f.bytes (start + size) size)
unfolding by_tests by_flash
mapped_by f start size m = refl

-- of pages that are in the file
inside_by : (f : Flash) (start size : ℕ) (m : Mapping) → 0 < m.count → m.first + m.count ≤ block_count size
    → (f.address + start) % 4096 ≡ 0
    → pages_in_place f start size m
    ≡ by_tests m.writable true true (eqb (m.first + m.count) (block_count size))
    (shares_page f.bytes (start + size) size) m.count
unfolding by_flash
inside_by f start size m some within a =
    let n : min m.count (block_count size - m.first) ≡ m.count = omega arith in
    let l : nat_lt m.first (block_count size) ≡ true = lt-ltb m.first (block_count size) (omega arith) in
    let s : Bool = shares_page f.bytes (start + size) size in
    mapped_by f start size m
    ∙ (ap (λ (v : Bool). by_flash v size (min m.count (block_count size - m.first)) m s)
    (eq-eqb ((f.address + start) % 4096) 0 a)
    ∙ (ap (λ (k : ℕ). by_flash true size k m s) n
    ∙ ap (λ (v : Bool). by_tests m.writable v true (eqb (m.first + m.count) (block_count size)) s m.count) l))

-- no more pages are in place than are loaded
mapped_few : (f : Flash) (start size : ℕ) (m : Mapping) → pages_in_place f start size m ≤ m.count
unfolding by_tests
mapped_few f start size m =
    let left : ℕ = min m.count (block_count size - m.first) in
    let few : pages_in_place f start size m ≤ left =
    tests_few m.writable (nat_lt m.first (block_count size)) (eqb ((f.address + start) % 4096) 0)
    (eqb (m.first + left) (block_count size)) (shares_page f.bytes (start + size) size) left in
    omega arith

kept_few : (z : Bool) (count placed : ℕ) → placed ≤ count → kept z count placed ≤ count
kept_few true count placed l = omega arith
kept_few false count placed l = l

placed_few : (f : Flash) (start size : ℕ) (z : Bool) (l : Loading)
    → placed_of f false start size z l ≤ loaded_pages l
placed_few f start size z Nothing = omega arith
placed_few f start size z Refused = omega arith
placed_few f start size z (Pages first count writable) =
    let m : Mapping = record { first = first; count = count; writable = writable } in
    kept_few z count (pages_in_place f start size m) (mapped_few f start size m)

-- the last page of a file that has whole pages, and of one with nothing behind it
none_shared : (b : List ℕ) (end size : ℕ) → size % 4096 ≡ 0 → shares_page b end size ≡ false
none_shared b end size e = rw (eq-eqb (size % 4096) 0 e) refl

no_zeros : (n : ℕ) → 0 < n → begins_with_zeros n [] ≡ false
no_zeros zero l = absurd (omega arith)
no_zeros (suc n) l = refl

last_shared : (b : List ℕ) (end size : ℕ) → drop end b ≡ [] → size % 4096 ≢ 0 → shares_page b end size ≡ true
last_shared b end size e d = rw (ne_eqb (size % 4096) 0 d, e, no_zeros (4096 - size % 4096) (omega arith)) refl

-- those of one segment and of others
both_if : (t : Bool) (a b c d : ℕ) → (if t then a else b) + (if t then c else d) ≡ (if t then a + c else b + d)
both_if true a b c d = refl
both_if false a b c d = refl

plus_same : (aligned shared : Bool) (p q r s : ProgramPages) → AreSame aligned shared p q → AreSame aligned shared r s
    → AreSame aligned shared (plus p r) (plus q s)
plus_same aligned shared p q r s h k =
    let a = h.loaded in
    let b = k.loaded in
    record {
      loaded = omega arith;
      placed = λ e. ap₂ (λ (m n : ℕ). m + n) (h.placed e) (k.placed e)
          ∙ both_if shared p.in_place p.fixed r.in_place r.fixed;
      fixed = ap₂ (λ (m n : ℕ). m + n) h.fixed k.fixed;
      zero = ap₂ (λ (m n : ℕ). m + n) h.zero k.zero;
      used = ap₂ max h.used k.used;
    }

either : (t : Bool) (n : ℕ) → n ≡ (if t then n else n)
either true n = refl
either false n = refl

-- the file is in one flash with nothing behind it, and in another one at the same address
module _ (f g : Flash) (s t size : ℕ) (ends : drop (s + size) f.bytes ≡ []) (e : f.address + s ≡ g.address + t) where
  aligned : Bool
  aligned = eqb ((g.address + t) % 4096) 0

  shared : Bool
  shared = shares_page g.bytes (t + size) size

  first_shared : shared ≡ true → shares_page f.bytes (s + size) size ≡ true
  unfolding shared
  first_shared h =
      last_shared f.bytes (s + size) size ends
      (λ z. absurd (false≢true (sym (none_shared g.bytes (t + size) size z) ∙ h)))

  -- if the last page is shared, it is copied of both
  if_shared : (h : Bool) (z w last : Bool) (n k : ℕ) → shared ≡ h
      → (if h then kept z n (by_tests w true true last true n) else k)
      ≡ (if h then kept z n (by_tests w true true last (shares_page f.bytes (s + size) size) n) else k)
  if_shared true z w last n k h =
      ap (λ (v : Bool). kept z n (by_tests w true true last v n)) (sym (first_shared h))
  if_shared false z w last n k h = refl

  placed_last : aligned ≡ true → (z : Bool) (l : Loading) → IsInside size l
      → placed_of g false t size z l ≡ (if shared then placed_of f false s size z l else fixed_pages z l)
  unfolding aligned shared
  placed_last a z Nothing i = either shared 0
  placed_last a z Refused i = either shared 0
  placed_last a z (Pages first count writable) i =
      let m : Mapping = record { first = first; count = count; writable = writable } in
      let last : Bool = eqb (first + count) (block_count size) in
      let there : (g.address + t) % 4096 ≡ 0 = eqb-true ((g.address + t) % 4096) 0 a in
      let here : (f.address + s) % 4096 ≡ 0 = ap (λ (n : ℕ). n % 4096) e ∙ there in
      let k : ℕ = if writable then 0 else kept z count count in
      ap (kept z count) (inside_by g t size m i.0 i.1 there)
      ∙ (tests_last shared z writable last count
      ∙ (if_shared shared z writable last count k refl
      ∙ ap (λ (n : ℕ). if shared then kept z count n else k) (sym (inside_by f s size m i.0 i.1 here))))

  segment_same : (linked : Bool) (p : Program)
      → AreSame aligned shared (segment_pages f false s size linked p) (segment_pages g false t size linked p)
  segment_same linked p =
      let z : Bool = is_zeroed linked p in
      let l : Loading = loaded size p in
      let a : placed_of f false s size z l ≤ loaded_pages l = placed_few f s size z l in
      let b : placed_of g false t size z l ≤ loaded_pages l = placed_few g t size z l in
      record {
        loaded = omega arith;
        placed = λ h. placed_last h z l (in_file size p);
        fixed = refl;
        zero = refl;
        used = refl;
      }

  sum_alike : (b : List ℕ) (h : Header) (n : ℕ)
      → AreSame aligned shared (pages_sum f false s size b h n) (pages_sum g false t size b h n)
  sum_alike b h zero = record {
    loaded = refl;
    placed = λ a. either shared 0;
    fixed = refl;
    zero = refl;
    used = refl;
  }
  sum_alike b h (suc n) =
      plus_same aligned shared (pages_sum f false s size b h n) (pages_sum g false t size b h n)
      (segment_pages f false s size (is_linked false b h) (program_at b h n))
      (segment_pages g false t size (is_linked false b h) (program_at b h n)) (sum_alike b h n)
      (segment_same (is_linked false b h) (program_at b h n))

  pub sum_same : (b : List ℕ) (h : Header) (n : ℕ)
      → AreSame (eqb ((g.address + t) % 4096) 0) (shares_page g.bytes (t + size) size)
      (pages_sum f false s size b h n) (pages_sum g false t size b h n)
  unfolding aligned shared
  sum_same = sum_alike
