-- What a layout places does not overlap, except tables and blocks that are shared.
use Rattle.std.proofs.Common.{◌≡◌, ℕ, zero, suc, ◌+◌, ◌-◌, ◌*◌, ◌<◌, ◌≤◌, List, [], ◌∷◌, ◌++◌, refl, sym, ap, subst}
use Rattle.std.proofs.Common.{◌∙◌, arith, min, inl, inr, append_assoc}
use Rattle.std.proofs.lemmas.Bool.Decides.{eqb_tells}
use Rattle.std.specs.List.{AllByRecursion as Every}
use Rattle.rom_fields.specs.declared.span.Extent.TheVariants.{List as ListOf, Table as TableOf, Data}
use Rattle.rom_fields.specs.declared.span.Span.{Span}
use Rattle.rom_fields.specs.Extents.{OverlapsAt, added}
use Rattle.record_forest.specs.declared.reference.Row.{Row}
use Rattle.record_forest.specs.Members.{Has, Pairs}
use Rattle.record_forest.proofs.Lists.{every_weaker, pairs_pick, has_of}
use Rattle.record_forest.proofs.Spans.{overlaps_in}
use Rattle.cramfs_format.specs.declared.order.Order.{Order}
use Rattle.cramfs_format.specs.Inode.{block_count}
use Rattle.cramfs_format.specs.Tree.{extents_of}
use Rattle.cramfs_format.proofs.Spans.{ListsApart, extents_pairs}
use Rattle.manifest_tree.specs.Names.{Inode, Names, nothing, leaf, link, subdirectory}
use Rattle.rom_fields.proofs.Climbs.{Climbs, climbs_later, climbs_added}
use Rattle.cramfs_layout.specs.Layout.{pad4, list_len, State, Kept, nowhere, shared, fresh, kept, data_of, after_by}
use Rattle.cramfs_layout.specs.Layout.{after_file, after_list, after_names}
use Rattle.cramfs_layout.specs.Wells.{IsFile, AreWell}
use Rattle.cramfs_layout.proofs.Stored.{data_after}

-- k blocks of `size` bytes in all, without gaps
abbrev pub blocks : ℕ → ℕ → ℕ → List Span
blocks zero place size = []
blocks (suc k) place size = added Data place (min 4096 size) ++ blocks k (place + 4096) (size - 4096)

blocks_none : (k place : ℕ) → blocks k place 0 ≡ []
blocks_none zero place = refl
blocks_none (suc k) place = blocks_none k (place + 4096)

blocks_climb : (k place size to : ℕ) (more : List Span) → size ≤ 4096 * k → Climbs (place + size) to more
    → Climbs place to (blocks k place size ++ more)
blocks_climb zero place size to more l c = climbs_later place (place + size) to more (omega arith) c
blocks_climb (suc k) place size to more l c =
    let m = min 4096 size in
    let rest = blocks k (place + 4096) (size - 4096) in
    subst (λ (xs : List Span). Climbs place to xs) (sym (append_assoc (added Data place m) rest more))
    (climbs_added Data place place m to (rest ++ more) (omega arith) (elim (eqb_tells (size - 4096) 0) [
      | inl z ↦
          let e : rest ≡ [] = ap (λ (n : ℕ). blocks k (place + 4096) n) z.1 ∙ blocks_none k (place + 4096) in
          let y = z.1 in
          subst (λ (xs : List Span). Climbs (place + m) to (xs ++ more)) (sym e)
          (climbs_later (place + m) (place + size) to more (omega (arith, y)) c)
      | inr z ↦
          let y = z.1 in
          let p : place + m ≡ place + 4096 = omega (arith, y) in
          let q : place + size ≡ place + 4096 + (size - 4096) = omega (arith, y) in
          subst (λ (v : ℕ). Climbs v to (rest ++ more)) (sym p)
          (blocks_climb k (place + 4096) (size - 4096) to more (omega arith)
          (subst (λ (v : ℕ). Climbs v to more) q c))
    ]))

-- what a file that is kept so places
abbrev pub file_spans : Kept → State → Inode → List Span
file_spans nowhere s i = []
file_spans (shared t) s i = []
file_spans fresh s i =
    added TableOf (pad4 s.at) (4 * block_count i.size) ++ blocks (block_count i.size) (data_of s.at i) i.size

-- what names place after s
abbrev pub spans : State → Names → List Span
spans s nothing = []
spans s (leaf name i rest) = file_spans (kept s.tables i) s i ++ spans (after_file s i) rest
spans s (link name i rest) = file_spans (kept s.tables i) s i ++ spans (after_file s i) rest
spans s (subdirectory name i own rest) = added ListOf (pad4 s.at) (list_len own)
    ++ (spans (after_list s own) own ++ spans (after_names (after_list s own) own) rest)

file_climbs : (cs : List (List ℕ)) (s : State) (i : Inode) (k : Kept) (to : ℕ) (more : List Span) → IsFile cs i
    → Climbs (after_by k s i).at to more → Climbs s.at to (file_spans k s i ++ more)
file_climbs cs s i nowhere to more h c = c
file_climbs cs s i (shared t) to more h c = c
file_climbs cs s i fresh to more h c =
    let d = data_after cs s.at i h in
    let d0 = d.0 in
    let n = block_count i.size in
    let bs = blocks n (data_of s.at i) i.size in
    subst (λ (xs : List Span). Climbs s.at to xs) (sym (append_assoc (added TableOf (pad4 s.at) (4 * n)) bs more))
    (climbs_added TableOf s.at (pad4 s.at) (4 * n) to (bs ++ more) (omega arith)
    (climbs_later (pad4 s.at + 4 * n) (data_of s.at i) to (bs ++ more) d0
    (blocks_climb n (data_of s.at i) i.size to more (omega arith) c)))

pub climbs_join : (from mid to : ℕ) (xs ys : List Span) → Climbs from mid xs → Climbs mid to ys
    → Climbs from to (xs ++ ys)
climbs_join from mid to [] ys h k = climbs_later from mid to ys h k
climbs_join from mid to (x ∷ xs) ys h k = (h.0, climbs_join (x.start + x.len) mid to xs ys h.1 k)

pub spans_climb : (cs : List (List ℕ)) (s : State) (n : Names) → AreWell cs n
    → Climbs s.at (after_names s n).at (spans s n)
spans_climb cs s nothing h = omega arith
spans_climb cs s (leaf name i rest) h =
    file_climbs cs s i (kept s.tables i) (after_names (after_file s i) rest).at (spans (after_file s i) rest) h.1
    (spans_climb cs (after_file s i) rest h.2)
spans_climb cs s (link name i rest) h = absurd h
spans_climb cs s (subdirectory name i own rest) h =
    let s1 = after_list s own in
    let s' = after_names s1 own in
    let t = (after_names s' rest).at in
    climbs_added ListOf s.at (pad4 s.at) (list_len own) t (spans s1 own ++ spans s' rest) (omega arith)
    (climbs_join s1.at s'.at t (spans s1 own) (spans s' rest) (spans_climb cs s1 own h.2)
    (spans_climb cs s' rest h.3))

-- no byte is in both
abbrev pub AreDisjoint : Span → Span → Type 0
AreDisjoint x y = (p : ℕ) → x.start ≤ p → p < x.start + x.len → y.start ≤ p → p < y.start + y.len → ⊥

pub climbs_from : (from to : ℕ) (xs : List Span) → Climbs from to xs → Every (λ (y : Span). from ≤ y.start) xs
climbs_from from to [] c = tt
climbs_from from to (x ∷ xs) c = let a =
    c.0 in (
      a,
      every_weaker (λ (y : Span). x.start + x.len ≤ y.start) (λ (y : Span). from ≤ y.start)
          (λ y l. omega arith) xs (climbs_from (x.start + x.len) to xs c.1),
    )

pub climbs_disjoint : (from to : ℕ) (xs : List Span) → Climbs from to xs → Pairs AreDisjoint xs
climbs_disjoint from to [] c = tt
climbs_disjoint from to (x ∷ xs) c = (
  every_weaker (λ (y : Span). x.start + x.len ≤ y.start) (AreDisjoint x) (λ y l p a u v w. omega arith) xs
      (climbs_from (x.start + x.len) to xs c.1),
  climbs_disjoint (x.start + x.len) to xs c.1,
)

-- extents that are all among disjoint ones, and different except if they may be the same, do not overlap
pub no_overlap : (o : Order) (b : List ℕ) (all : List Row) (ps : List Span) (p : ℕ) → Pairs (ListsApart o b) all
    → Pairs AreDisjoint ps → Every (λ e. Has (λ z. z ≡ e) ps) (extents_of o b all) → OverlapsAt (extents_of o b all) p
    → ⊥
no_overlap o b all ps p lists apart among over =
    let k = overlaps_in (extents_of o b all) p (extents_pairs o b all lists) over in
    let one = has_of (λ e. Has (λ z. z ≡ e) ps) (extents_of o b all) k.one k.one_in among in
    let other = has_of (λ e. Has (λ z. z ≡ e) ps) (extents_of o b all) k.other k.other_in among in
    let c = k.overlap.0 in
    elim (pairs_pick AreDisjoint (λ z. z ≡ k.one) (λ z. z ≡ k.other) ps apart one other) [
      | inl s ↦ k.differ (sym s.1 ∙ s.2)
      | inr s ↦ elim s.4 [
        | inl d ↦ d c.0 (subst (λ (z : Span). z.start ≤ c.0) (sym s.2) c.1.0)
            (subst (λ (z : Span). c.0 < z.start + z.len) (sym s.2) c.1.1)
            (subst (λ (z : Span). z.start ≤ c.0) (sym s.3) c.2.0)
            (subst (λ (z : Span). c.0 < z.start + z.len) (sym s.3) c.2.1)
        | inr d ↦ d c.0 (subst (λ (z : Span). z.start ≤ c.0) (sym s.3) c.2.0)
            (subst (λ (z : Span). c.0 < z.start + z.len) (sym s.3) c.2.1)
            (subst (λ (z : Span). z.start ≤ c.0) (sym s.2) c.1.0)
            (subst (λ (z : Span). c.0 < z.start + z.len) (sym s.2) c.1.1)
      ]
    ]
