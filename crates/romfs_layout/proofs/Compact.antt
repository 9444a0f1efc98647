-- Between the sections of a layout is no room that alignment does not need.
use Rattle.std.proofs.Common.{◌≡◌, ◌≢◌, ℕ, ◌+◌, ◌-◌, ◌<◌, ◌==◌, max, if◌then◌else◌, List, [], ◌∷◌, ◌++◌, map}
use Rattle.std.proofs.Common.{length, drop, refl, sym, ap, subst, arith, inl, inr}
use Rattle.std.proofs.Math.Nat.{div-mul-le_self}
use Rattle.std.proofs.lemmas.Bool.Decides.{eqb_tells}
use Rattle.std.specs.List.{AllByRecursion as Every}
use Rattle.rom_fields.specs.Padding.{pad}
use Rattle.rom_fields.proofs.Padding.{pad-after}
use Rattle.romfs_format.specs.Record.{pad16}
use Rattle.manifest_tree.specs.Names.{Fill, no_bytes, text, source, Inode, Names, nothing, leaf, link, subdirectory}
use Rattle.manifest_tree.specs.Names.{bytes_of}
use Rattle.manifest_tree.specs.Alignments.{align_by, HaveAlignments}
use Rattle.manifest_tree.specs.Items.{Item, Section, fill_section}
use Rattle.manifest_tree.proofs.Bodies.{item_here, items_later}
use Rattle.romfs_layout.specs.Layout.{Header, record_len, data_align, place_of, leaf_end, header_end, ends, headers}
use Rattle.romfs_layout.specs.Layout.{all_headers, place_with, placed, root_at, full_size_of}
use Rattle.romfs_layout.specs.Items.{item_of, items_of, sections_from, sections_of}
use Rattle.romfs_layout.specs.Compact.{header_align, AreCompact}
use Rattle.romfs_layout.specs.Reads.{IsHeader}
use Rattle.romfs_layout.specs.Wells.{IsFile, AreWell}
use Rattle.romfs_layout.specs.Planned.{IsPlanned}
use Rattle.romfs_layout.proofs.Places.{place_even}
use Rattle.romfs_layout.proofs.Sectioned.{DataBehind}
use Rattle.romfs_layout.proofs.Image.{planned_headers}
use Rattle.romfs_layout.proofs.Composed.{all_behind}

pad_close : (n k : ℕ) → 0 < k → pad n k < n + k
pad_close n k h = omega (arith, div-mul-le_self (n + (k - 1)) k)

place_close : (cs : List (List ℕ)) (from : ℕ) (name : List ℕ) (i : Inode) → IsFile cs i
    → place_of from name i < from + data_align i
unfolding place_of
place_close cs from name i h =
    let a : 0 < data_align i = rw h.aligned (let s = h.some in omega arith) in
    let f = pad16 from + record_len name in
    let low = pad-after f (data_align i) a in
    let high = pad_close f (data_align i) a in
    let even = place_even cs from name i h in
    let aligned = h.aligned in
    omega (arith, low, high, even, aligned)

-- headers that are close to one another, from one offset to another
abbrev Reach : (ℕ → ℕ) → ℕ → ℕ → List Header → Type 0
Reach align from to [] = from ≡ to
Reach align from to (h ∷ hs) =
    (h.place < from + header_align align (item_of h)) × Reach align (h.place + record_len h.name + h.size) to hs

reach_join : (align : ℕ → ℕ) (from mid to : ℕ) (is js : List Header) → Reach align from mid is → Reach align mid to js
    → Reach align from to (is ++ js)
reach_join align from mid to [] js r k = subst (λ (v : ℕ). Reach align v to js) (sym r) k
reach_join align from mid to (i ∷ is) js r k =
    (r.0, reach_join align (i.place + record_len i.name + i.size) mid to is js r.1 k)

-- the alignment of a file's data is that of its header
same_align : (align : ℕ → ℕ) (i : Inode) → i.align ≡ align_by align i.fill
    → data_align i ≡ (if i.size == 0 then 16 else max 16 (align_by align i.fill))
unfolding data_align
same_align align i e = ap (λ (a : ℕ). if i.size == 0 then 16 else max 16 a) e

headers_reach : (cs : List (List ℕ)) (align : ℕ → ℕ) (at : ℕ → ℕ) (dir from : ℕ) (n : Names) → AreWell cs n
    → HaveAlignments align n → Reach align from (ends from n) (headers at dir from n)
headers_reach cs align at dir from nothing h al = refl
headers_reach cs align at dir from (leaf name i after) h al = (
  subst (λ (v : ℕ). place_of from name i < from + v) (same_align align i al.0) (place_close cs from name i h.1),
  headers_reach cs align at dir (leaf_end from name i) after h.2 al.1,
)
headers_reach cs align at dir from (link name i after) h al =
    let q = header_end from name in
    let e : q ≡ q + 0 = omega arith in (
      omega arith,
      subst (λ (v : ℕ). Reach align v (ends q after) (headers at dir q after)) e
          (headers_reach cs align at dir q after h.2 al),
    )
headers_reach cs align at dir from (subdirectory name i own after) h al =
    let p = pad16 from in
    let he = header_end from name in
    let q = ends (he + 64) own in
    let both = headers at p (he + 64) own ++ headers at dir q after in
    let joined = reach_join align (he + 64) q (ends q after) (headers at p (he + 64) own) (headers at dir q after)
    (headers_reach cs align at p (he + 64) own h.2 al.0) (headers_reach cs align at dir q after h.3 al.1) in
    let e : he + 64 ≡ he + 32 + 32 + 0 = omega arith in (
      omega arith,
      (
        omega arith,
        (
          omega arith,
          subst (λ (v : ℕ). Reach align v (ends q after) both) e joined,
        ),
      ),
    )

module _ (align : ℕ → ℕ) (cs : List (List ℕ)) (all : List Item) (to end : ℕ) (last : end < to + 1024) where
  -- the bytes of an item, at once behind its header, and what is behind them
  bytes_close : (index q start len : ℕ) (f : Fill) (rest : List Section) → length (bytes_of cs f) ≡ len
      → (len ≢ 0 → start ≡ q) → AreCompact align all (q + len) end rest
      → AreCompact align all q end ((if len == 0 then [] else fill_section index start len f) ++ rest)
  bytes_close index q start len f rest n begins later = elim (eqb_tells len 0) [
    | inl t ↦
        let z = t.1 in
        let e : q + len ≡ q = omega (arith, z) in
        rw t.0 (subst (λ (v : ℕ). AreCompact align all v end rest) e later)
    | inr t ↦ rw t.0 (some f n (begins t.1) t.1)
  ] where
    some : (g : Fill) → length (bytes_of cs g) ≡ len → start ≡ q → len ≢ 0
        → AreCompact align all q end (fill_section index start len g ++ rest)
    some no_bytes n e z = absurd (z (sym n))
    some (text x) n e z =
        (omega (arith, e), subst (λ (v : ℕ). AreCompact align all (v + len) end rest) (sym e) later)
    some (source k) n e z =
        (omega (arith, e), subst (λ (v : ℕ). AreCompact align all (v + len) end rest) (sym e) later)

  compact : (index from : ℕ) (hs : List Header) → drop index all ≡ map item_of hs → Every (IsHeader cs) hs
      → Every DataBehind hs → Reach align from to hs
      → AreCompact align all from end (sections_from index (map item_of hs))
  compact index from [] e w d r = subst (λ (v : ℕ). end < v + 1024) (sym r) last
  compact index from (h ∷ hs) e w d r =
      let i = item_of h in
      let is = map item_of hs in
      let q = h.place + record_len h.name in
      let later = compact (index + 1) (q + h.size) hs (items_later all index i is e) w.1 d.1 r.1 in (
        subst (λ (x : Item). h.place < from + header_align align x) (sym (item_here all index i is e)) r.0,
        bytes_close index q h.start h.size h.fill (sections_from (index + 1) is) w.0.content d.0 later,
      )

pub are_compact : (volume : List ℕ) (root : Inode) (n : Names) (cs : List (List ℕ)) (align : ℕ → ℕ)
    → IsPlanned volume root n cs → HaveAlignments align n
    → AreCompact align (items_of volume root n) 0 (pad (full_size_of (root_at volume) n) 1024)
    (sections_of volume (items_of volume root n))
are_compact volume root n cs align h al =
    let r = root_at volume in
    let at = place_with (placed (r + 64) n) in
    let to = ends (r + 64) n in
    let e : r + 64 ≡ r + 32 + 32 + 0 = omega arith in
    let below = subst (λ (v : ℕ). Reach align v to (headers at r (r + 64) n)) e
    (headers_reach cs align at r (r + 64) n h.well al) in
    let reach : Reach align (0 + r) to (all_headers r root n) = (omega arith, (omega arith, below)) in (
      omega arith,
      compact align cs (items_of volume root n) to (pad (full_size_of r n) 1024) (omega arith) 0 (0 + r)
          (all_headers r root n) refl (planned_headers volume root n cs h) (all_behind r root n) reach,
    )
