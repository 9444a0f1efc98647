-- An image composed of its sections is the layout.
use Rattle.std.proofs.Common.{◌≡◌, ◌≢◌, ℕ, ◌+◌, ◌-◌, ◌==◌, true, false, if◌then◌else◌, List, [], ◌∷◌, ◌++◌, map, length}
use Rattle.std.proofs.Common.{drop, replicate, get_or, refl, sym, ap, subst, ◌∙◌, arith, inl, inr, append-nil}
use Rattle.std.proofs.lemmas.Bool.Decides.{eqb_tells}
use Rattle.std.specs.List.{AllByRecursion as Every}
use Rattle.record_forest.proofs.Lists.{every_join}
use Rattle.rom_fields.specs.Padding.{pad}
use Rattle.rom_fields.specs.Parts.{Part, part, with_part, laid}
use Rattle.rom_fields.specs.Sums.{sealed}
use Rattle.rom_fields.proofs.Parts.{length-with_part}
use Rattle.manifest_tree.specs.Names.{Fill, no_bytes, text, source, Inode, Names, bytes_of}
use Rattle.manifest_tree.specs.Items.{Item, Section, fill_section, bytes_section}
use Rattle.manifest_tree.specs.Bodies.{item_at, body_bytes}
use Rattle.manifest_tree.proofs.Bodies.{item_here, items_later}
use Rattle.romfs_layout.specs.Layout.{Header, record_len, all_headers, root_at, full_size_of, ends, place_with, placed}
use Rattle.romfs_layout.specs.Layout.{parts, superblock, header_bytes, image_of, layout}
use Rattle.romfs_layout.specs.Items.{item_of, items_of, sections_from, sections_of}
use Rattle.romfs_layout.specs.Composed.{written, romfs_part, composed}
use Rattle.romfs_layout.specs.Reads.{IsHeader}
use Rattle.romfs_layout.specs.Planned.{IsPlanned}
use Rattle.romfs_layout.proofs.ReadBack.{length-header, length-padded_name}
use Rattle.romfs_layout.proofs.Headers.{Ascend}
use Rattle.romfs_layout.proofs.Whole.{all_ascend}
use Rattle.romfs_layout.proofs.Image.{planned_headers}
use Rattle.romfs_layout.proofs.Sectioned.{DataBehind, data_behind}

no_more : (xs : List ℕ) → length xs ≡ 0 → xs ≡ []
no_more [] e = refl
no_more (x ∷ xs) e = absurd (omega arith)

-- no bytes, laid at the end of the others, change nothing
with_nothing : (out : List ℕ) (q : ℕ) → length out ≡ q → with_part out (part q []) ≡ out
unfolding with_part
with_nothing out q e =
    let z : q - length out ≡ 0 = omega arith in
    ap (λ (k : ℕ). out ++ (replicate k 0 ++ [])) z ∙ append-nil out

module _ (volume : List ℕ) (size : ℕ) (cs : List (List ℕ)) (all : List Item) where
  -- the bytes of an item, behind its record
  filled : (index q start len : ℕ) (f : Fill) (out : List ℕ) (rest : List Section) (tail : List Part)
      → (item_at all index).fill ≡ f
      → length (bytes_of cs f) ≡ len → length out ≡ q → (len ≢ 0 → start ≡ q)
      → laid (with_part out (part q (bytes_of cs f))) (map (romfs_part volume size cs all) rest ++ tail)
      ≡ laid out (map (romfs_part volume size cs all)
      ((if len == 0 then [] else fill_section index start len f) ++ rest) ++ tail)
  filled index q start len f out rest tail is n at begins = elim (eqb_tells len 0) [
    | inl t ↦
        let none : bytes_of cs f ≡ [] = no_more (bytes_of cs f) (n ∙ t.1) in
        rw t.0 (ap (λ (v : List ℕ). laid (with_part out (part q v))
        (map (romfs_part volume size cs all) rest ++ tail)) none
        ∙ ap (λ (v : List ℕ). laid v (map (romfs_part volume size cs all) rest ++ tail)) (with_nothing out q at))
    | inr t ↦ rw t.0 (some f is n (begins t.1) t.1)
  ] where
    some : (g : Fill) → (item_at all index).fill ≡ g → length (bytes_of cs g) ≡ len → start ≡ q → len ≢ 0
        → laid (with_part out (part q (bytes_of cs g))) (map (romfs_part volume size cs all) rest ++ tail)
        ≡ laid out (map (romfs_part volume size cs all) (fill_section index start len g ++ rest) ++ tail)
    some no_bytes is n e z = absurd (z (sym n))
    some (text x) is n e z =
        ap (λ (k : ℕ). laid (with_part out (part k x)) (map (romfs_part volume size cs all) rest ++ tail)) (sym e)
        ∙ ap (λ (g : Fill). laid (with_part out (part start (bytes_of cs g)))
        (map (romfs_part volume size cs all) rest ++ tail)) (sym is)
    some (source k) is n e z =
        ap (λ (v : ℕ). laid (with_part out (part v (get_or cs k [])))
        (map (romfs_part volume size cs all) rest ++ tail)) (sym e)

  -- headers and data are what the sections hold
  same : (index to : ℕ) (hs : List Header) (out : List ℕ) (tail : List Part) → drop index all ≡ map item_of hs
      → Every (IsHeader cs) hs → Every DataBehind hs → Ascend (length out) to hs
      → laid out (parts cs hs ++ tail) ≡ laid out
      (map (romfs_part volume size cs all) (sections_from index (map item_of hs)) ++ tail)
  same index to [] out tail e w d a = refl
  same index to (h ∷ hs) out tail e w d a =
      let sp = romfs_part volume size cs all in
      let i = item_of h in
      let is = map item_of hs in
      let here = item_here all index i is e in
      let q = h.place + record_len h.name in
      let record_part = part h.place (header_bytes h.next h.spec h.size h.name) in
      let out' = with_part out record_part in
      let n : length out' ≡ q = length-with_part out record_part a.0
      ∙ ap (λ (k : ℕ). h.place + k) (length-header h.next h.spec h.size h.name) in
      let data_part = part q (bytes_of cs h.fill) in
      let m : length (with_part out' data_part) ≡ q + h.size =
      length-with_part out' data_part (omega arith) ∙ ap (λ (k : ℕ). q + k) w.0.content in
      let later = same (index + 1) to hs (with_part out' data_part) tail (items_later all index i is e) w.1 d.1
      (subst (λ (k : ℕ). Ascend k to hs) (sym m) a.1) in
      let rest = sections_from (index + 1) is in
      later
      ∙ filled index q h.start h.size h.fill out' rest tail (ap (λ (x : Item). x.fill) here) w.0.content n d.0
      ∙ ap (λ (x : Item). laid (with_part out (part h.place (written x)))
      (map sp (bytes_section index i ++ rest) ++ tail)) (sym here)

  -- the number of bytes of a section
  abbrev IsLong : Section → Type 0
  IsLong s = length (body_bytes (superblock size volume) written (λ i. []) cs all s.body) ≡ s.len

  filled_long : (index start len : ℕ) (f : Fill) → (item_at all index).fill ≡ f → length (bytes_of cs f) ≡ len
      → Every IsLong (if len == 0 then [] else fill_section index start len f)
  filled_long index start len f is n =
      elim (len == 0) as (λ t. Every IsLong (if t then [] else fill_section index start len f)) [
        | true ↦ tt
        | false ↦ some f is n
      ] where
        some : (g : Fill) → (item_at all index).fill ≡ g → length (bytes_of cs g) ≡ len
            → Every IsLong (fill_section index start len g)
        some no_bytes is n = tt
        some (text x) is n = (ap (λ (g : Fill). length (bytes_of cs g)) is ∙ n, tt)
        some (source k) is n = (n, tt)

  long : (index : ℕ) (hs : List Header) → drop index all ≡ map item_of hs → Every (IsHeader cs) hs
      → Every IsLong (sections_from index (map item_of hs))
  long index [] e w = tt
  long index (h ∷ hs) e w =
      let i = item_of h in
      let is = map item_of hs in
      let here = item_here all index i is e in (
        ap (λ (x : Item). length (written x)) here ∙ length-header h.next h.spec h.size h.name,
        every_join IsLong (bytes_section index i) (sections_from (index + 1) is)
            (filled_long index h.start h.size h.fill (ap (λ (x : Item). x.fill) here) w.0.content)
            (long (index + 1) hs (items_later all index i is e) w.1),
      )

length-superblock : (size : ℕ) (volume : List ℕ) → length (superblock size volume) ≡ root_at volume
length-superblock size volume = let e = length-padded_name volume in omega (arith, e)

pub all_behind : (r : ℕ) (root : Inode) (n : Names) → Every DataBehind (all_headers r root n)
all_behind r root n =
    ((λ z. absurd (z refl)), ((λ z. absurd (z refl)), data_behind (place_with (placed (r + 64) n)) r (r + 64) n))

pub is_composed : (volume : List ℕ) (root : Inode) (n : Names) (cs : List (List ℕ)) → IsPlanned volume root n cs
    → layout volume root n cs ≡ composed volume (full_size_of (root_at volume) n) cs (items_of volume root n)
unfolding layout image_of composed with_part
is_composed volume root n cs h =
    let r = root_at volume in
    let size = full_size_of r n in
    let hs = all_headers r root n in
    let all = items_of volume root n in
    let sb = superblock size volume in
    let l = length-superblock size volume in
    let tail = part size [] ∷ [] in
    let up = subst (λ (k : ℕ). Ascend k (ends (r + 64) n) hs) (sym l) (all_ascend r cs root n h.well) in
    let e = same volume size cs all 0 (ends (r + 64) n) hs sb tail refl (planned_headers volume root n cs h)
    (all_behind r root n) up in
    ap (λ (v : List ℕ). sealed v ++ replicate (pad size 1024 - size) 0) e

pub are_long : (volume : List ℕ) (root : Inode) (n : Names) (cs : List (List ℕ)) → IsPlanned volume root n cs
    → Every (λ s. length (romfs_part volume (full_size_of (root_at volume) n) cs (items_of volume root n) s).bytes
    ≡ s.len) (sections_of volume (items_of volume root n))
are_long volume root n cs h =
    let r = root_at volume in
    let size = full_size_of r n in (
      length-superblock size volume,
      long volume size cs (items_of volume root n) 0 (all_headers r root n) refl
          (planned_headers volume root n cs h),
    )
