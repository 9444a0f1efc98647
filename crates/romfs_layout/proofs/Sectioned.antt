-- The sections of a layout rise, and none is empty.
use Rattle.std.proofs.Common.{◌≡◌, ◌≢◌, ℕ, ◌+◌, ◌<◌, ◌≤◌, ◌==◌, true, false, cond, if◌then◌else◌, List, [], ◌∷◌, ◌++◌}
use Rattle.std.proofs.Common.{map, refl, sym, subst, ◌∙◌, arith, inl, inr}
use Rattle.std.proofs.lemmas.Bool.Decides.{eqb_tells}
use Rattle.std.specs.List.{AllByRecursion as Every}
use Rattle.record_forest.proofs.Lists.{every_join}
use Rattle.manifest_tree.specs.Names.{Fill, no_bytes, text, source, Inode, Names, nothing, leaf, link, subdirectory}
use Rattle.romfs_format.specs.Record.{pad16}
use Rattle.manifest_tree.specs.Items.{Section, SectionsRise, fill_section}
use Rattle.manifest_tree.proofs.Sections.{rise_later}
use Rattle.romfs_layout.specs.Layout.{Header, record_len, data_of, leaf_end, header_end, ends, headers, all_headers}
use Rattle.romfs_layout.specs.Layout.{root_at, full_size_of, place_with, placed}
use Rattle.romfs_layout.specs.Items.{item_of, items_of, sections_from, sections_of}
use Rattle.romfs_layout.specs.Planned.{IsPlanned}
use Rattle.romfs_layout.proofs.Headers.{Ascend, ascend_later, headers_ascend}

-- data are right behind their header
abbrev pub DataBehind : Header → Type 0
DataBehind h = h.size ≢ 0 → h.start ≡ h.place + record_len h.name

behind : (size start : ℕ) → size ≢ 0 → (if size == 0 then 0 else start) ≡ start
behind size start z = elim (eqb_tells size 0) [ inl t ↦ absurd (z t.1) | inr t ↦ rw t.0 refl ]

pub data_behind : (at : ℕ → ℕ) (dir from : ℕ) (n : Names) → Every DataBehind (headers at dir from n)
data_behind at dir from nothing = tt
data_behind at dir from (leaf name i after) =
    (behind i.size (data_of from name i), data_behind at dir (leaf_end from name i) after)
data_behind at dir from (link name i after) = (λ z. absurd (z refl), data_behind at dir (header_end from name) after)
data_behind at dir from (subdirectory name i own after) =
    let h = header_end from name in
    let q = ends (h + 64) own in (
      λ z. absurd (z refl),
      (
        λ z. absurd (z refl),
        (
          λ z. absurd (z refl),
          every_join DataBehind (headers at (pad16 from) (h + 64) own) (headers at dir q after)
              (data_behind at (pad16 from) (h + 64) own) (data_behind at dir q after),
        ),
      ),
    )

-- the bytes of an item, and what is behind them
bytes_rise : (index from start len end : ℕ) (f : Fill) (ss : List Section) → from ≤ start → 0 < len
    → SectionsRise (start + len) end ss → SectionsRise from end (fill_section index start len f ++ ss)
bytes_rise index from start len end no_bytes ss h l r = rise_later from (start + len) end ss (omega arith) r
bytes_rise index from start len end (text t) ss h l r = (h, l, r)
bytes_rise index from start len end (source k) ss h l r = (h, l, r)

sections_rise : (index from end : ℕ) (hs : List Header) → Ascend from end hs → Every DataBehind hs
    → SectionsRise from end (sections_from index (map item_of hs))
sections_rise index from end [] a d = a
sections_rise index from end (h ∷ hs) a d =
    let q = h.place + record_len h.name in
    let later = sections_rise (index + 1) (q + h.size) end hs a.1 d.1 in
    let rest = sections_from (index + 1) (map item_of hs) in (
      a.0,
      omega arith,
      elim (h.size == 0) as (λ t. (h.size == 0) ≡ t
          → SectionsRise q end (cond t [] (fill_section index h.start h.size h.fill) ++ rest)) [
            | true ↦ λ e. rise_later q (q + h.size) end rest (omega arith) later
            | false ↦ λ e. elim (eqb_tells h.size 0) [
              | inl t ↦ let z : true ≡ false = sym t.0 ∙ e in absurd (cc)
              | inr t ↦
                  let s = d.0 t.1 in
                  let n = t.1 in
                  bytes_rise index q h.start h.size end h.fill rest (omega (arith, s)) (omega arith)
                  (subst (λ (v : ℕ). SectionsRise (v + h.size) end rest) (sym s) later)
            ]
          ] refl,
    )

pub ascend_end : (from to end : ℕ) (hs : List Header) → to ≤ end → Ascend from to hs → Ascend from end hs
ascend_end from to end [] h a = omega arith
ascend_end from to end (x ∷ xs) h a = (a.0, ascend_end (x.place + record_len x.name + x.size) to end xs h a.1)

pub rise : (volume : List ℕ) (root : Inode) (n : Names) (cs : List (List ℕ)) → IsPlanned volume root n cs
    → SectionsRise 0 (full_size_of (root_at volume) n) (sections_of volume (items_of volume root n))
rise volume root n cs h =
    let r = root_at volume in
    let at = place_with (placed (r + 64) n) in
    let end = full_size_of r n in
    let below = ascend_end (r + 64) (ends (r + 64) n) end (headers at r (r + 64) n) (omega arith)
    (headers_ascend cs at r (r + 64) n h.well) in
    let all : Ascend (0 + r) end (all_headers r root n) = (
      omega arith,
      (
        omega arith,
        ascend_later (r + 32 + 32 + 0) (r + 64) end (headers at r (r + 64) n)
            (omega arith) below,
      ),
    ) in (
      omega arith,
      omega arith,
      sections_rise 0 (0 + r) end (all_headers r root n) all
          ((λ z. absurd (z refl)), ((λ z. absurd (z refl)), data_behind at r (r + 64) n)),
    )
