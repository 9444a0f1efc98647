-- The headers of a layout can be written, and are one after the other.
use Rattle.std.proofs.Common.{◌≡◌, ◌≢◌, ℕ, zero, suc, ◌+◌, ◌*◌, ◌%◌, ◌^◌, ◌<◌, ◌≤◌, Bool, true, false, eqb}
use Rattle.std.proofs.Common.{if◌then◌else◌, List, [], ◌∷◌, ◌++◌, length, refl, sym, ap, ◌∙◌, arith, rules}
use Rattle.std.specs.List.{AllByRecursion as Every, Contains}
use Rattle.rom_tree.specs.declared.types.Kind.{Kind}
use Rattle.rom_tree.specs.declared.types.Kind.TheVariants.{Directory, Regular, Symlink, Block, Character, Socket, Fifo}
use Rattle.record_forest.proofs.Lists.{every_join}
use Rattle.romfs_format.specs.Record.{pad16}
use Rattle.rom_tree.specs.Dots.{dot, dot_dot}
use Rattle.manifest_tree.specs.Names.{Fill, no_bytes, Inode, Names, nothing, leaf, link, subdirectory, bytes_of}
use Rattle.romfs_layout.specs.Layout.{Header, record_len, number_of, mode_bit, runnable, code_of, device_of, leaf_end}
use Rattle.romfs_layout.specs.Layout.{header_end, ends, first_place, headers}
use Rattle.romfs_layout.specs.Reads.{IsHeader}
use Rattle.manifest_tree.specs.Lists.{IsName}
use Rattle.romfs_layout.specs.Wells.{FitsKind, IsFile, AreWell}
use Rattle.romfs_layout.proofs.Places.{place_after, ends_after, first_even, first_within}

bit_cases : (t : Bool) (P : ℕ → Type 0) → P 8 → P 0 → P (if t then 8 else 0)
bit_cases true P h k = h
bit_cases false P h k = k

-- the low bits of a code are the kind's number
pub record IsCode (i : Inode) : Type 0 where
  pub small : code_of i < 16
  pub kind : code_of i % 8 ≡ number_of i.kind

code_by : (k : Kind) (m : ℕ) → (number_of k + mode_bit k m < 16) × ((number_of k + mode_bit k m) % 8 ≡ number_of k)
code_by Directory m =
    bit_cases (eqb m runnable) (λ x. (1 + x < 16) × ((1 + x) % 8 ≡ 1)) (omega arith, refl) (omega arith, refl)
code_by Regular m =
    bit_cases (eqb m runnable) (λ x. (2 + x < 16) × ((2 + x) % 8 ≡ 2)) (omega arith, refl) (omega arith, refl)
code_by Symlink m = (omega arith, refl)
code_by Block m = (omega arith, refl)
code_by Character m = (omega arith, refl)
code_by Socket m = (omega arith, refl)
code_by Fifo m = (omega arith, refl)

pub code_is : (i : Inode) → IsCode i
unfolding code_of
code_is i = let c = code_by i.kind i.mode in record { small = c.0; kind = c.1 }

-- the numbers of a device fit a word, and a link's text has a length
fits_by : (k : Kind) (i : Inode) → FitsKind k i
    → (i.major * 65536 + i.minor < 2 ^ 32) × (number_of k ≡ 3 → (1 ≤ i.size) × (i.size ≤ 4095))
fits_by Directory i h = absurd h
fits_by Regular i h = let a = h.0 in let c = h.1 in (omega arith, λ e. absurd (omega arith))
fits_by Symlink i h = let a = h.0 in let c = h.1 in (omega arith, λ e. (h.2, h.3))
fits_by Block i h = let a = h.0 in let c = h.1 in (omega arith, λ e. absurd (omega arith))
fits_by Character i h = let a = h.0 in let c = h.1 in (omega arith, λ e. absurd (omega arith))
fits_by Socket i h = let a = h.0 in let c = h.1 in (omega arith, λ e. absurd (omega arith))
fits_by Fifo i h = let a = h.0 in let c = h.1 in (omega arith, λ e. absurd (omega arith))

pub device_small : (cs : List (List ℕ)) (i : Inode) → IsFile cs i → device_of i < 2 ^ 32
unfolding device_of
device_small cs i h = (fits_by i.kind i h.kind).0

dot_slash : Contains dot 47 → ⊥
dot_slash (zero, k, e) = absurd (omega arith)
dot_slash (suc i, k, e) = absurd (omega arith)

dots_slash : Contains dot_dot 47 → ⊥
dots_slash (zero, k, e) = absurd (omega arith)
dots_slash (suc zero, k, e) = absurd (omega arith)
dots_slash (suc (suc i), k, e) = absurd (omega arith)

pub dot_name : IsName dot
dot_name = record { named = omega arith; short = omega arith; no_zero = search rules; no_slash = dot_slash }

pub dots_name : IsName dot_dot
dots_name = record { named = omega arith; short = omega arith; no_zero = search rules; no_slash = dots_slash }

-- an item without data
pub alone_header : (cs : List (List ℕ)) (i : Header) → i.fill ≡ no_bytes → i.size ≡ 0 → i.next < 2 ^ 32
    → i.spec < 2 ^ 32 → IsName i.name → i.next % 8 ≢ 3 → IsHeader cs i
alone_header cs i fill size next spec name other = record {
  next = next;
  spec = spec;
  size = omega (arith, size);
  name = name;
  content = ap (λ (f : Fill). length (bytes_of cs f)) fill ∙ sym size;
  link = λ e. absurd (other e);
}

-- each item can be written
pub headers_well : (cs : List (List ℕ)) (at : ℕ → ℕ) (dir from : ℕ) (n : Names) → ((k : ℕ) → at k < 2 ^ 32)
    → AreWell cs n → dir < 2 ^ 32 → ends from n + 64 < 2 ^ 32 → Every (IsHeader cs) (headers at dir from n)
headers_well cs at dir from nothing up h low fits = tt
headers_well cs at dir from (leaf name i after) up h low fits =
    let q = leaf_end from name i in
    let c = code_is i in
    let cs' = c.small in
    let ck = c.kind in
    let e = ends_after cs q after h.2 in
    let w = first_within cs q after h.2 in
    let v = first_even cs q after h.2 in
    let k = (fits_by i.kind i h.1.kind).1 in (
      record {
        next = omega arith;
        spec = device_small cs i h.1;
        size = omega arith;
        name = h.0.written;
        content = h.1.bytes;
        link = λ z. k (omega arith);
      },
      headers_well cs at dir q after up h.2 low fits,
    )
headers_well cs at dir from (link name i after) up h low fits =
    let q = header_end from name in
    let e = ends_after cs q after h.2 in
    let w = first_within cs q after h.2 in
    let v = first_even cs q after h.2 in (
      alone_header cs (record {
        place = pad16 from;
        next = first_place q after;
        spec = at i.line;
        size = 0;
        name = name;
        start = 0;
        fill = no_bytes;
      }) refl refl (omega arith) (up i.line) h.0.written (λ z. absurd (omega arith)),
      headers_well cs at dir q after up h.2 low fits,
    )
headers_well cs at dir from (subdirectory name i own after) up h low fits =
    let p = pad16 from in
    let he = header_end from name in
    let q = ends (he + 64) own in
    let c = code_is i in
    let cs' = c.small in
    let ck : code_of i % 8 ≡ 1 = c.kind ∙ ap number_of h.1.kind in
    let o = ends_after cs (he + 64) own h.2 in
    let e = ends_after cs q after h.3 in
    let w = first_within cs q after h.3 in
    let v = first_even cs q after h.3 in
    let w1 = first_within cs (he + 64) own h.2 in
    let v1 = first_even cs (he + 64) own h.2 in (
      alone_header cs (record {
        place = p;
        next = first_place q after + code_of i;
        spec = he;
        size = 0;
        name = name;
        start = 0;
        fill = no_bytes;
      }) refl refl (omega arith) (omega arith) h.0.written (λ z. absurd (omega arith)),
      (
        alone_header cs (record {
          place = he;
          next = he + 32;
          spec = p;
          size = 0;
          name = dot;
          start = 0;
          fill = no_bytes;
        }) refl refl (omega arith) (omega arith) dot_name (λ z. absurd (omega arith)),
        (
          alone_header cs (record {
            place = he + 32;
            next = first_place (he + 64) own;
            spec = dir;
            size = 0;
            name = dot_dot;
            start =
                0;
            fill = no_bytes;
          }) refl refl (omega arith) low dots_name (λ z. absurd (omega arith)),
          every_join (IsHeader cs) (headers at p (he + 64) own) (headers at dir q after)
              (headers_well cs at p (he + 64) own up h.2 (omega arith) (omega arith))
              (headers_well cs at dir q after up h.3 low fits),
        ),
      ),
    )

-- headers that are one after the other, from one offset to another
abbrev pub Ascend : ℕ → ℕ → List Header → Type 0
Ascend from to [] = from ≤ to
Ascend from to (i ∷ is) = (from ≤ i.place) × Ascend (i.place + record_len i.name + i.size) to is

pub ascend_later : (from up to : ℕ) (is : List Header) → from ≤ up → Ascend up to is → Ascend from to is
ascend_later from up to [] h k = omega arith
ascend_later from up to (i ∷ is) h k = let l = k.0 in (omega arith, k.1)

pub ascend_join : (from mid to : ℕ) (is js : List Header) → Ascend from mid is → Ascend mid to js
    → Ascend from to (is ++ js)
ascend_join from mid to [] js h k = ascend_later from mid to js h k
ascend_join from mid to (i ∷ is) js h k = (h.0, ascend_join (i.place + record_len i.name + i.size) mid to is js h.1 k)

pub headers_ascend : (cs : List (List ℕ)) (at : ℕ → ℕ) (dir from : ℕ) (n : Names) → AreWell cs n
    → Ascend from (ends from n) (headers at dir from n)
headers_ascend cs at dir from nothing h = omega arith
headers_ascend cs at dir from (leaf name i after) h =
    (place_after cs from name i h.1, headers_ascend cs at dir (leaf_end from name i) after h.2)
headers_ascend cs at dir from (link name i after) h =
    let q = header_end from name in (
      omega arith,
      ascend_later (q + 0) q (ends q after) (headers at dir q after) (omega arith)
          (headers_ascend cs at dir q after h.2),
    )
headers_ascend cs at dir from (subdirectory name i own after) h =
    let p = pad16 from in
    let he = header_end from name in
    let q = ends (he + 64) own in
    let both = headers at p (he + 64) own ++ headers at dir q after in
    let joined = ascend_join (he + 64) q (ends q after) (headers at p (he + 64) own) (headers at dir q after)
    (headers_ascend cs at p (he + 64) own h.2) (headers_ascend cs at dir q after h.3) in (
      omega arith,
      (
        omega arith,
        (
          omega arith,
          ascend_later (he + 32 + 32 + 0) (he + 64) (ends q after) both (omega arith) joined,
        ),
      ),
    )
