-- The files of a romfs image, as Linux without an MMU maps them.
use Rattle.std.proofs.Common.{◌≡◌, ◌≢◌, ℕ, zero, suc, ◌+◌, ◌-◌, ◌*◌, ◌/◌, ◌%◌, ◌^◌, ◌<◌, ◌≤◌, true, false}
use Rattle.std.proofs.Common.{List, [], ◌∷◌, length, take, drop, Some, refl, sym, ap, subst, ◌∙◌, arith, inl, inr, cond}
use Rattle.std.proofs.Common.{length-take, length-drop, length-append, ◌⊎◌}
use Rattle.std.specs.Prelude.{slice_index, ◌==◌}
use Rattle.std.proofs.lemmas.Bool.{lt-ltb, le-ltb}
use Rattle.std.proofs.lemmas.Bool.Decides.{eqb_tells}
use Rattle.std.proofs.lemmas.List.{drop-take, take-append-le}
use Rattle.record_forest.specs.Forest.{all_rows}
use Rattle.rom_tree.specs.Tree.{Node, IsIn, ino_of, nodes, places_of, row_from}
use Rattle.rom_tree.proofs.Numbers.{length_row, row_at}
use Rattle.romfs_format.specs.Record.{IsSound, before_zero, end_of, name_of, size_of, type_of}
use Rattle.romfs_format.specs.Refers.{references}
use Rattle.romfs_format.specs.Tree.{RomfsTree, by_type, full_size, root_of}
use Rattle.romfs_format.proofs.Bridge.{accepted}
use Rattle.romfs_format.proofs.Contents.{file_fits, file_size, made_places}
use Rattle.romfs_format.proofs.Trees.{all_made}
use Rattle.image_check.proofs.Fronts.{front_be}
use Rattle.program_pages.specs.Physmem.{Flash}
use Rattle.program_pages.specs.declared.mapping.Mapping.{Mapping}
use Rattle.linux_misreads.specs.Readers.{romfs_data}
use Rattle.headline.specs.Romfs.{FillsPages, IsMappedInRomfs, area_of, page_count, romfs_area}

-- the area of a mapping within a file of s bytes, whose data begin at d
area_is : (s d : ℕ) (f : Flash) (m : Mapping) → 0 < d → d + s ≤ length f.bytes → length f.bytes % 4096 ≡ 0
    → m.first < page_count s → m.first + m.count ≤ page_count s
    → area_of s d f m ≡ Some (f.address + (d + 4096 * m.first))
area_is s d f m some fits whole begins within =
    let n : ℕ = length f.bytes in
    rw (
      lt-ltb m.first (page_count s) begins,
      le-ltb (page_count s - m.first) m.count (omega (arith, within, begins)),
      le-ltb n (4096 * m.count) (omega (arith, within, fits, whole, some)),
      lt-ltb m.first (n / 4096) (omega (arith, begins, fits, whole, some)),
      lt-ltb (d + 4096 * m.first) n (omega (arith, begins, fits)),
    ) refl

-- a name that ends within a front is the same in all bytes
name_front : (k : ℕ) (xs : List ℕ) → length (before_zero (take k xs)) < length (take k xs)
    → before_zero xs ≡ before_zero (take k xs)
name_front zero xs h = absurd (omega (arith, h))
name_front (suc k) [] h = absurd (omega (arith, h))
name_front (suc k) (x ∷ xs) h = elim (x == 0) as
    (λ t. length (cond t [] (x ∷ before_zero (take k xs))) < suc (length (take k xs))
    → cond t [] (x ∷ before_zero xs) ≡ cond t [] (x ∷ before_zero (take k xs))) [
      | true ↦ λ l. refl
      | false ↦ λ l. ap (λ (v : List ℕ). x ∷ v) (name_front k xs (omega (arith, l)))
    ] h

-- a record in a front of the flash is the same in the flash
same_size : (c : List ℕ) (n p : ℕ) → p + 32 ≤ n → size_of c p ≡ size_of (take n c) p
unfolding size_of
same_size c n p l = sym (front_be c n (p + 8) (omega (arith, l)))

same_name : (c : List ℕ) (n p : ℕ) → n ≤ length c → p + 16 + length (name_of (take n c) p) < n
    → name_of c p ≡ name_of (take n c) p
unfolding name_of
same_name c n p l h =
    let k : ℕ = n - (p + 16) in
    let e : n ≡ p + 16 + k = omega (arith, h) in
    let cut : drop (p + 16) (take n c) ≡ take k (drop (p + 16) c) =
    ap (λ (v : ℕ). drop (p + 16) (take v c)) e ∙ drop-take (p + 16) k c in
    let own : length (before_zero (take k (drop (p + 16) c))) < k =
    (let z = ap (λ (v : List ℕ). length (before_zero v)) cut in omega (arith, h, z)) in
    let long : length (take k (drop (p + 16) c)) ≡ k = simp (length-take, length-drop) (omega (arith, l, e)) in
    name_front k (drop (p + 16) c) (omega (arith, own, long)) ∙ sym (ap before_zero cut)

-- where Linux reads the data of a record whose name has at most 128 bytes
data_is : (c b : List ℕ) (p : ℕ) → length (name_of c p) ≤ 128 → name_of c p ≡ name_of b p → romfs_data c p ≡ end_of b p
unfolding name_of end_of
data_is c b p short e = let l = ap length e in omega (arith, short, l)

-- what a file or a link of a romfs image is in its bytes
pub record IsFileAt (all : List ℕ) (x : Node) : Type 0 where
  pub b : List ℕ
  pub n : ℕ
  pub within : n ≤ length all
  pub cut : b ≡ take n all
  pub root : ℕ
  pub sound : IsSound b root (ino_of x)
  pub run : places_of x ≡ row_from (end_of b (ino_of x)) (file_size b (ino_of x))

live : (b : List ℕ) (r : ℕ) → r ≡ root_of b → r ≢ 0
unfolding root_of
live b r e z = omega (arith, e, z)

pub file_at : (all : List ℕ) (most deepest : ℕ) (t x : Node) → RomfsTree all most deepest t → length all < 2 ^ 32
    → IsIn x (nodes t) → IsFileAt all x
file_at all most deepest t x h small i =
    let n : ℕ = full_size all in
    let long : length h.b ≤ length all =
    (let e = ap length h.super.cut in let l = simp (length-take) at e in omega (arith, l)) in
    let a = accepted h.b h.r most deepest h.forest (live h.b h.r h.super.root) h.whole (omega (arith, small, long))
    h.super.directory in
    let k : ℕ = length (all_rows (references h.b h.r) h.forest) in
    let m = all_made a.0 x (subst (λ (y : Node). IsIn x (nodes y)) (h.same ∙ a.1) i) in
    record {
      b = h.b;
      n = n;
      within = h.super.size.1;
      cut = h.super.cut;
      root = h.r;
      sound = m.known.sound;
      run = ap places_of m.is ∙ made_places h.b h.r k (ino_of x);
    }

-- a record has as many data as its size says, or none
size_or_none : (t s : ℕ) → (by_type t 0 s s 0 0 0 0 ≡ s) ⊎ (by_type t 0 s s 0 0 0 0 ≡ 0)
size_or_none t s = elim (eqb_tells t 1) [
  | inl a ↦ inr (rw a.0 refl)
  | inr a ↦ elim (eqb_tells t 2) [
    | inl b ↦ inl (rw (a.0, b.0) refl)
    | inr b ↦ elim (eqb_tells t 3) [
      | inl c ↦ inl (rw (a.0, b.0, c.0) refl)
      | inr c ↦ elim (eqb_tells t 4) [
        | inl d ↦ inr (rw (a.0, b.0, c.0, d.0) refl)
        | inr d ↦ elim (eqb_tells t 5) [
          | inl e ↦ inr (rw (a.0, b.0, c.0, d.0, e.0) refl)
          | inr e ↦ elim (eqb_tells t 6) [
            | inl g ↦ inr (rw (a.0, b.0, c.0, d.0, e.0, g.0) refl)
            | inr g ↦ inr (rw (a.0, b.0, c.0, d.0, e.0, g.0) refl)
          ]
        ]
      ]
    ]
  ]
]

above : (b : List ℕ) (p : ℕ) → 0 < end_of b p
unfolding end_of
above b p = omega arith

pub mapped : (all : List ℕ) (f : Flash) (x : Node) → IsFileAt all x → FillsPages f all
    → length (name_of f.bytes (ino_of x)) ≤ 128 → IsMappedInRomfs f x
unfolding romfs_area
mapped all f x is held short m begins within =
    let p : ℕ = ino_of x in
    let c : List ℕ = f.bytes in
    let b : List ℕ = is.b in
    let long : length all ≤ length c =
    (let e = ap length held.front in let l = simp (length-append) at e in omega (arith, l)) in
    let front : take is.n c ≡ b =
    ap (take is.n) held.front ∙ take-append-le is.n all held.rest is.within ∙ sym is.cut in
    let size : length b ≡ is.n =
    (let e = ap length is.cut in let w = is.within in let l = simp (length-take) at e in omega (arith, l, w)) in
    let header = is.sound.header in
    let ends = is.sound.name_ends in
    let named : p + 16 + length (name_of (take is.n c) p) < is.n =
    (let e = ap (λ (v : List ℕ). length (name_of v p)) front in omega (arith, e, ends, size)) in
    let w = is.within in
    let sizes : size_of c p ≡ size_of b p =
    same_size c is.n p (omega (arith, header, size)) ∙ ap (λ (v : List ℕ). size_of v p) front in
    let name : name_of c p ≡ name_of b p =
    same_name c is.n p (omega (arith, w, long)) named ∙ ap (λ (v : List ℕ). name_of v p) front in
    let begin : romfs_data c p ≡ end_of b p = data_is c b p short name in
    let filled : length (places_of x) ≡ file_size b p =
    ap length is.run ∙ length_row (end_of b p) (file_size b p) in
    let own : file_size b p ≡ size_of b p =
    elim (size_or_none (type_of b p) (size_of b p)) [
      | inl e ↦ e
      | inr z ↦ absurd (omega (arith, z, filled, begins))
    ] in
    let fits = file_fits b is.root p is.sound in
    let s : ℕ = size_of b p in
    let d : ℕ = end_of b p in
    let in_file : 4096 * m.first < file_size b p = omega (arith, filled, begins) in
    let at : slice_index (places_of x) (4096 * m.first) ≡ d + 4096 * m.first =
    ap (λ (ps : List ℕ). slice_index ps (4096 * m.first)) is.run
    ∙ row_at d (file_size b p) (4096 * m.first) in_file in
    let whole = held.pages in
    ap (λ (v : ℕ). area_of v (romfs_data c p) f m) sizes ∙ ap (λ (v : ℕ). area_of s v f m) begin
    ∙ area_is s d f m (above b p) (omega (arith, fits, own, size, w, long)) whole
    (omega (arith, begins, filled, own)) (omega (arith, within, filled, own))
    ∙ ap (λ (v : ℕ). Some (f.address + v)) (sym at)
