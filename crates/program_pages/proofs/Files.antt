-- What Linux maps of the regular files of an image's tree.
use Rattle.std.proofs.Common.{◌≡◌, ◌≢◌, ℕ, ◌+◌, ◌-◌, ◌*◌, ◌%◌, ◌^◌, ◌<◌, ◌≤◌, min, Bool, true, false}
use Rattle.std.proofs.Common.{List, ◌++◌, length, take, drop, inl, inr, refl, sym, ap, subst, ◌∙◌, arith}
use Rattle.std.proofs.Common.{if◌then◌else◌, take-append-drop, length-take, append_assoc}
use Rattle.std.proofs.lemmas.Bool.{eq-eqb, false≢true, lt-ltb, cases_lt}
use Rattle.std.proofs.lemmas.Bool.Decides.{eqb_tells}
use Rattle.std.specs.Prelude.{slice_index}
use Rattle.rom_tree.specs.Tree.{Node, IsIn, nodes, ino_of, is_regular, places_of, row_from}
use Rattle.rom_tree.proofs.Numbers.{row_at}
use Rattle.cramfs_format.specs.declared.order.Order.{Order}
use Rattle.cramfs_format.specs.Inode.{type_of, size_of, block_count, block_start, pointer_of}
use Rattle.cramfs_format.specs.Superblock.{IsSuperblock, accessible_size, has_crc, size_word}
use Rattle.cramfs_format.specs.Tree.{CramfsTree, kind_numbers, node_of, entries_at, places_at}
use Rattle.cramfs_format.specs.Made.{made, list_at}
use Rattle.cramfs_format.proofs.Bridge.{accepted}
use Rattle.cramfs_format.proofs.Contents.{made_places, length_places}
use Rattle.cramfs_format.proofs.Trees.{all_made}
use Rattle.program_pages.specs.declared.mapping.Mapping.{Mapping}
use Rattle.program_pages.specs.Physmem.{Flash, mapped_pages, shares_page, without_shared}
use Rattle.program_pages.specs.Physmem.{is_whole}
use Rattle.program_pages.specs.InPlace.{pages_in_place, IsOwnPage, IsInPlace}
use Rattle.program_pages.proofs.Mapped.{IsFileAt, mapped_is, flash_begins, whole_is}
use Rattle.program_pages.proofs.Regular.{only_regular}

long_if : (c : Bool) (n s all : ℕ) → 76 ≤ all → (c ≡ true → (76 ≤ s) × (s ≤ all))
    → n ≡ (if c then s else min all (2 ^ 28))
    → 76 ≤ min n all
long_if true n s all l h e = let k = h refl in let a = k.0 in let b = k.1 in omega arith
long_if false n s all l h e = omega arith

-- the superblock is among the accessible bytes
long_cut : (o : Order) (bytes b : List ℕ) → IsSuperblock o bytes b → 76 ≤ length b
unfolding accessible_size
long_cut o bytes b s =
    let e : length b ≡ min (accessible_size o bytes) (length bytes) =
    ap length s.cut ∙ length-take (accessible_size o bytes) bytes in
    let l : 76 ≤ min (accessible_size o bytes) (length bytes) =
    long_if (has_crc o bytes) (accessible_size o bytes) (size_word o bytes) (length bytes) s.long s.size refl in
    omega arith

short_cut : (o : Order) (bytes b : List ℕ) → IsSuperblock o bytes b → length b ≤ length bytes
short_cut o bytes b s =
    let e : length b ≡ min (accessible_size o bytes) (length bytes) =
    ap length s.cut ∙ length-take (accessible_size o bytes) bytes in
    omega arith

front_cut : (o : Order) (bytes rest c b : List ℕ) → IsSuperblock o bytes b → c ≡ bytes ++ rest
    → c ≡ b ++ (drop (accessible_size o bytes) bytes ++ rest)
front_cut o bytes rest c b s e =
    e ∙ ap (λ (xs : List ℕ). xs ++ rest) (sym (take-append-drop (accessible_size o bytes) bytes))
    ∙ append_assoc (take (accessible_size o bytes) bytes) (drop (accessible_size o bytes) bytes) rest
    ∙ ap (λ (xs : List ℕ). xs ++ (drop (accessible_size o bytes) bytes ++ rest)) (sym s.cut)

regular_made : (o : Order) (b : List ℕ) (k p : ℕ) → is_regular (made o b k p) ≡ true → type_of o b p ≡ 8
unfolding made node_of
regular_made o b k p e =
    only_regular kind_numbers (type_of o b p) (places_at o b p) (entries_at o b (list_at o b k p)) e

places_made : (o : Order) (b : List ℕ) (k p : ℕ) → type_of o b p ≡ 8 → places_of (made o b k p) ≡ places_at o b p
places_made o b k p t = made_places o b k p ∙ (rw t refl)

-- a regular file of the tree
file_at : (o : Order) (bytes rest : List ℕ) (most deepest start : ℕ) (t x : Node) (f : Flash)
    → CramfsTree o bytes most deepest t → length bytes < 2 ^ 32 → f.bytes ≡ bytes ++ rest → IsIn x (nodes t)
    → is_regular x ≡ true → places_of x ≡ row_from start (length (places_of x))
    → IsFileAt o f (ino_of x) start (length (places_of x))
file_at o bytes rest most deepest start t x f c small e i r run =
    let b : List ℕ = c.b in
    let long = long_cut o bytes b c.super in
    let short = short_cut o bytes b c.super in
    let is = accepted o b most deepest c.forest c.whole long (omega arith) c.super.root.directory in
    let m = all_made is.0 x (subst (λ (v : Node). IsIn x (nodes v)) (c.same ∙ is.1) i) in
    let file : type_of o b (ino_of x) ≡ 8 =
    regular_made o b _ (ino_of x) (subst (λ (v : Node). is_regular v ≡ true) m.is r) in
    let places : places_of x ≡ places_at o b (ino_of x) = ap places_of m.is ∙ places_made o b _ (ino_of x) file in
    let size : size_of o b (ino_of x) ≡ length (places_of x) =
    sym (ap length places ∙ length_places o b (ino_of x)) in
    record {
      b = b;
      rest = drop (accessible_size o bytes) bytes ++ rest;
      front = front_cut o bytes rest f.bytes b c.super e;
      header = m.known.header;
      body = m.known.body;
      file = file;
      run = sym places ∙ run ∙ ap (row_from start) (sym size);
      long = size;
    }

pub run_mapped : (o : Order) (bytes rest : List ℕ) (most deepest start : ℕ) (t x : Node) (f : Flash) (m : Mapping)
    → CramfsTree o bytes most deepest t → length bytes < 2 ^ 32 → f.bytes ≡ bytes ++ rest → f.address ≢ 0
    → IsIn x (nodes t) → is_regular x ≡ true → places_of x ≡ row_from start (length (places_of x))
    → mapped_pages o f (ino_of x) m ≡ pages_in_place f start (length (places_of x)) m
run_mapped o bytes rest most deepest start t x f m c small e a i r run =
    let h = file_at o bytes rest most deepest start t x f c small e i r run in
    mapped_is h a m

-- a page that is shared is not full
partial : (b : List ℕ) (end size : ℕ) → shares_page b end size ≡ true → size % 4096 ≢ 0
partial b end size e = λ z. false≢true (rw (eq-eqb (size % 4096) 0 z) at e)

-- each page but a shared last one is counted
counted_if : (v : Bool) (size first n k : ℕ) → (v ≡ true → size % 4096 ≢ 0) → (size < 4096 * (k + 1) → v ≡ false)
    → first ≤ k → k < first + n → first + n ≤ block_count size → k < first + without_shared v size first n
counted_if v size first n k p own l w f =
    elim (eqb_tells (first + n) (block_count size)) [
      | inl h ↦ rw h.0 (last v h.1 p own)
      | inr h ↦ rw h.0 w
    ]
  where
    last : (u : Bool) → first + n ≡ block_count size → (u ≡ true → size % 4096 ≢ 0)
        → (size < 4096 * (k + 1) → u ≡ false) → k < first + (if u then n - 1 else n)
    last true e q g =
        let z : size % 4096 ≢ 0 = q refl in
        elim (cases_lt size (4096 * (k + 1)))
        [ inl s ↦ absurd (false≢true (sym (g s))) | inr s ↦ omega arith ]
    last false e q g = w

counted : (f : Flash) (x : Node) (start : ℕ) (m : Mapping) (k : ℕ) → IsOwnPage f x start m k
    → (f.address + start) % 4096 ≡ 0 → k < m.first + pages_in_place f start (length (places_of x)) m
counted f x start m k h a =
    let size : ℕ = length (places_of x) in
    let b = h.begins in
    let w = h.within in
    let d = h.filled in
    rw (h.fixed, lt-ltb m.first (block_count size) (omega arith), eq-eqb ((f.address + start) % 4096) 0 a)
    (counted_if (shares_page f.bytes (start + size) size) size m.first (min m.count (block_count size - m.first)) k
    (partial f.bytes (start + size) size) h.own b (omega arith) (omega arith))

pub in_place : (o : Order) (bytes rest : List ℕ) (most deepest start : ℕ) (t x : Node) (f : Flash)
    → CramfsTree o bytes most deepest t → length bytes < 2 ^ 32 → f.bytes ≡ bytes ++ rest → f.address ≢ 0
    → IsIn x (nodes t) → is_regular x ≡ true → places_of x ≡ row_from start (length (places_of x))
    → (f.address + start) % 4096 ≡ 0 → IsInPlace o f x start
in_place o bytes rest most deepest start t x f c small e a i r run aligned m k h =
    let g = file_at o bytes rest most deepest start t x f c small e i r run in
    let within = counted f x start m k h aligned in
    let n = run_mapped o bytes rest most deepest start t x f m c small e a i r run in
    let l : m.first ≤ k = h.begins in
    let d : k < block_count (length (places_of x)) = h.filled in
    let begins : block_start (pointer_of o f.bytes (ino_of x) m.first) ≡ start + 4096 * m.first =
    flash_begins g m.first (omega arith) in
    let here : slice_index (places_of x) (4096 * k) ≡ start + 4096 * k =
    ap (λ (ps : List ℕ). slice_index ps (4096 * k)) run
    ∙ row_at start (length (places_of x)) (4096 * k) (omega arith) in
    record {
      begins = l;
      within = subst (λ (v : ℕ). k < m.first + v) (sym n) within;
      here = omega arith;
    }

pub run_whole : (o : Order) (bytes rest : List ℕ) (most deepest start : ℕ) (t x : Node) (f : Flash) (m : Mapping)
    → CramfsTree o bytes most deepest t → length bytes < 2 ^ 32 → f.bytes ≡ bytes ++ rest → f.address ≢ 0
    → IsIn x (nodes t) → is_regular x ≡ true → places_of x ≡ row_from start (length (places_of x))
    → m.writable ≡ false → m.first < block_count (length (places_of x))
    → m.first + m.count ≤ block_count (length (places_of x)) → is_whole o f (ino_of x) m ≡ true
run_whole o bytes rest most deepest start t x f m c small e a i r run =
    whole_is (file_at o bytes rest most deepest start t x f c small e i r run) a m
