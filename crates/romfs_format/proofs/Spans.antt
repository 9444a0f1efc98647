-- The extents of an image as a set, and as the list that the rows of a forest give.
use Rattle.std.proofs.Common.{◌≡◌, ◌≢◌, ℕ, ◌-◌, ◌<◌, true, false, List, [], ◌∷◌, ◌⊎◌, inl, inr, refl, sym, ap, subst}
use Rattle.std.proofs.Common.{◌∙◌, arith, if◌then◌else◌}
use Rattle.std.specs.List.{flat_map, AllByRecursion as Every}
use Rattle.rom_fields.specs.declared.span.Extent.TheVariants.{Super, Record, Data}
use Rattle.rom_fields.specs.declared.span.Span.{Span}
use Rattle.rom_fields.specs.Extents.{OverlapsAt, added}
use Rattle.rom_fields.specs.declared.fault.Fault.{Fault}
use Rattle.record_forest.specs.declared.reference.Row.{Row}
use Rattle.record_forest.specs.Members.{Has, Pairs}
use Rattle.record_forest.proofs.Lists.{every_join, every_weaker, has_every, has_left, has_right, pairs_join}
use Rattle.record_forest.proofs.Spans.{NotTwin, overlaps_in, overlaps_of, pairs_flat, every_added, pairs_added}
use Rattle.record_forest.proofs.Spans.{has_added, has_flat, every_flat}
use Rattle.romfs_format.specs.Record.{end_of, size_of, type_of, has_data}
use Rattle.romfs_format.specs.Tree.{row_extents, extents_of}
use Rattle.romfs_format.specs.Faults.{IsReached, IsExtent, superblock, record_at, data_of, HasExtentFault}

-- a row's extents: a record's at its offset, and shareable data
pub record IsOf (p : ℕ) (s : Span) : Type 0 where
  pub record_start : s.kind ≡ Record → s.start ≡ p
  pub kinds : (s.kind ≡ Record) ⊎ (s.kind ≡ Data)

of_record : (p len : ℕ) → IsOf p (record { kind = Record; start = p; len = len })
of_record p len = record { record_start = λ e. refl; kinds = inl refl }

of_data : (p s len : ℕ) → IsOf p (record { kind = Data; start = s; len = len })
of_data p s len = record { record_start = λ e. absurd (cc); kinds = inr refl }

row_of : (b : List ℕ) (x : Row) → Every (IsOf x.offset) (row_extents b x)
row_of b x = every_join (IsOf x.offset) (added Record x.offset (end_of b x.offset - x.offset))
    (if has_data (type_of b x.offset) then added Data (end_of b x.offset) (size_of b x.offset) else [])
    (every_added (IsOf x.offset) Record x.offset (end_of b x.offset - x.offset)
    (λ l. of_record x.offset (end_of b x.offset - x.offset)))
    (elim (has_data (type_of b x.offset)) as
    (λ v. Every (IsOf x.offset) (if v then added Data (end_of b x.offset) (size_of b x.offset) else [])) [
      | true ↦ every_added (IsOf x.offset) Data (end_of b x.offset) (size_of b x.offset)
          (λ l. of_data x.offset (end_of b x.offset) (size_of b x.offset))
      | false ↦ tt
    ])

-- of two rows with different offsets, no two extents are one, except data
twin_apart : (p q : ℕ) (s t : Span) → p ≢ q → IsOf p s → IsOf q t → NotTwin s t
twin_apart p q s t n i j e = elim i.kinds [
  | inl k ↦ absurd (n (sym (i.record_start k)
      ∙ (ap (λ (z : Span). z.start) e ∙ j.record_start (sym (ap (λ (z : Span). z.kind) e) ∙ k))))
  | inr k ↦ rw k refl
]

rows_apart : (b : List ℕ) (x y : Row) → x.offset ≢ y.offset
    → Every (λ u. Every (NotTwin u) (row_extents b y)) (row_extents b x)
rows_apart b x y n =
    every_weaker (IsOf x.offset) (λ u. Every (NotTwin u) (row_extents b y))
    (λ u i. every_weaker (IsOf y.offset) (NotTwin u) (λ v j. twin_apart x.offset y.offset u v n i j) (row_extents b y)
    (row_of b y)) (row_extents b x) (row_of b x)

-- a record's header and its own data are two
row_pairs : (b : List ℕ) (x : Row) → Pairs NotTwin (row_extents b x)
row_pairs b x = pairs_join NotTwin (added Record x.offset (end_of b x.offset - x.offset))
    (if has_data (type_of b x.offset) then added Data (end_of b x.offset) (size_of b x.offset) else [])
    (pairs_added NotTwin Record x.offset (end_of b x.offset - x.offset))
    (elim (has_data (type_of b x.offset)) as
    (λ v. Pairs NotTwin (if v then added Data (end_of b x.offset) (size_of b x.offset) else [])) [
      | true ↦ pairs_added NotTwin Data (end_of b x.offset) (size_of b x.offset)
      | false ↦ tt
    ])
    (every_added (λ u. Every (NotTwin u)
    (if has_data (type_of b x.offset) then added Data (end_of b x.offset) (size_of b x.offset)
    else [])) Record x.offset (end_of b x.offset - x.offset) (λ l.
    elim (has_data (type_of b x.offset)) as
    (λ v. Every (NotTwin (record { kind = Record; start = x.offset; len = end_of b x.offset - x.offset }))
    (if v then added Data (end_of b x.offset) (size_of b x.offset) else [])) [
      | true ↦ every_added (NotTwin (record
          { kind = Record; start = x.offset; len = end_of b x.offset - x.offset })) Data (end_of b x.offset)
          (size_of b x.offset)
          (λ m e. let k : Record ≡ Data = ap (λ (z : Span). z.kind) e in absurd (cc))
      | false ↦ tt
    ]))

-- no two extents of an image are one, except data
pub extents_pairs : (b : List ℕ) (r : ℕ) (all : List Row) → Pairs (λ (x : Row) (y : Row). x.offset ≢ y.offset) all
    → Pairs NotTwin (extents_of b r all)
extents_pairs b r all single =
    pairs_join NotTwin (added Super 0 r) (flat_map (row_extents b) all) (pairs_added NotTwin Super 0 r)
    (pairs_flat NotTwin (λ (x : Row) (y : Row). x.offset ≢ y.offset) (row_extents b) (row_pairs b)
    (rows_apart b) all single)
    (every_added (λ u. Every (NotTwin u) (flat_map (row_extents b) all)) Super 0 r (λ l. super_apart all))
  where
    super_apart : (xs : List Row) → Every (NotTwin (record { kind = Super; start = 0; len = r }))
        (flat_map (row_extents b) xs)
    super_apart [] = tt
    super_apart (x ∷ xs) = every_join (NotTwin (record { kind = Super; start = 0; len = r })) (row_extents b x)
        (flat_map (row_extents b) xs)
        (every_weaker (IsOf x.offset) (NotTwin (record { kind = Super; start = 0; len = r }))
        (λ v j e. absurd (elim j.kinds [
          | inl k ↦ (let z : Super ≡ Record = ap (λ (z : Span). z.kind) e ∙ k in cc)
          | inr k ↦ (let z : Super ≡ Data = ap (λ (z : Span). z.kind) e ∙ k in cc)
        ])) (row_extents b x) (row_of b x)) (super_apart xs)

end_past : (b : List ℕ) (p : ℕ) → p < end_of b p
unfolding end_of
end_past b p = omega arith

-- the extents of rows that are reached are extents of the image
pub extents_are : (b : List ℕ) (r : ℕ) (all : List Row) → Every (λ (y : Row). IsReached b r y.offset) all
    → Every (IsExtent b r) (extents_of b r all)
extents_are b r all h = every_join (IsExtent b r) (added Super 0 r) (flat_map (row_extents b) all)
    (every_added (IsExtent b r) Super 0 r (λ l. superblock refl))
    (every_flat (IsExtent b r) (λ (y : Row). IsReached b r y.offset) (row_extents b) row_are all h)
  where
    row_are : (y : Row) → IsReached b r y.offset → Every (IsExtent b r) (row_extents b y)
    row_are y k = every_join (IsExtent b r) (added Record y.offset (end_of b y.offset - y.offset))
        (if has_data (type_of b y.offset) then added Data (end_of b y.offset) (size_of b y.offset) else [])
        (every_added (IsExtent b r) Record y.offset (end_of b y.offset - y.offset) (λ l. record_at k refl))
        (elim (has_data (type_of b y.offset)) as
        (λ v. has_data (type_of b y.offset) ≡ v
        → Every (IsExtent b r) (if v then added Data (end_of b y.offset) (size_of b y.offset) else [])) [
          | true ↦ λ e. every_added (IsExtent b r) Data (end_of b y.offset) (size_of b y.offset)
              (λ l. data_of k e l refl)
          | false ↦ λ e. tt
        ] refl)

-- an extent of the image is one of the rows'
pub extent_in : (b : List ℕ) (r : ℕ) (all : List Row) → 0 < r
    → ((p : ℕ) → IsReached b r p → Has (λ (y : Row). y.offset ≡ p) all) → (s : Span) → IsExtent b r s
    → Has (λ z. z ≡ s) (extents_of b r all)
extent_in b r all above rows s (superblock e) =
    subst (λ (v : Span). Has (λ z. z ≡ v) (extents_of b r all)) (sym e)
    (has_left (λ z. z ≡ record { kind = Super; start = 0; len = r }) (added Super 0 r) (flat_map (row_extents b) all)
    (has_added Super 0 r above))
extent_in b r all above rows s (record_at {p} k e) =
    has_right (λ z. z ≡ s) (added Super 0 r) (flat_map (row_extents b) all)
    (has_flat (λ z. z ≡ s) (λ (y : Row). y.offset ≡ p) (row_extents b) here all (rows p k))
  where
    here : (y : Row) → y.offset ≡ p → Has (λ z. z ≡ s) (row_extents b y)
    here y i =
        let l = end_past b y.offset in
        let is : s ≡ record { kind = Record; start = y.offset; len = end_of b y.offset - y.offset } =
        e ∙ ap (λ (v : ℕ). let z : Span = record { kind = Record; start = v; len = end_of b v - v } in z) (sym i) in
        has_left (λ z. z ≡ s) (added Record y.offset (end_of b y.offset - y.offset))
        (if has_data (type_of b y.offset) then added Data (end_of b y.offset) (size_of b y.offset) else [])
        (subst (λ (v : Span). Has (λ z. z ≡ v) (added Record y.offset (end_of b y.offset - y.offset))) (sym is)
        (has_added Record y.offset (end_of b y.offset - y.offset) (omega arith)))
extent_in b r all above rows s (data_of {p} k d l e) =
    has_right (λ z. z ≡ s) (added Super 0 r) (flat_map (row_extents b) all)
    (has_flat (λ z. z ≡ s) (λ (y : Row). y.offset ≡ p) (row_extents b) here all (rows p k))
  where
    here : (y : Row) → y.offset ≡ p → Has (λ z. z ≡ s) (row_extents b y)
    here y i =
        let is : s ≡ record { kind = Data; start = end_of b y.offset; len = size_of b y.offset } =
        e ∙ ap (λ (v : ℕ). let z : Span = record { kind = Data; start = end_of b v; len = size_of b v } in z)
        (sym i) in
        let data' : has_data (type_of b y.offset) ≡ true = subst (λ (v : ℕ). has_data (type_of b v) ≡ true) (sym i) d in
        let some : 0 < size_of b y.offset = subst (λ (v : ℕ). 0 < size_of b v) (sym i) l in
        has_right (λ z. z ≡ s) (added Record y.offset (end_of b y.offset - y.offset))
        (if has_data (type_of b y.offset) then added Data (end_of b y.offset) (size_of b y.offset) else [])
        (rw data' (subst (λ (v : Span). Has (λ z. z ≡ v) (added Data (end_of b y.offset) (size_of b y.offset))) (sym is)
        (has_added Data (end_of b y.offset) (size_of b y.offset) some)))

-- overlaps in the list are those of the set
module _ {b : List ℕ} {r : ℕ} (all : List Row) (above : 0 < r)
    (single : Pairs (λ (x : Row) (y : Row). x.offset ≢ y.offset) all)
    (reached : Every (λ (y : Row). IsReached b r y.offset) all)
    (rows : (p : ℕ) → IsReached b r p → Has (λ (y : Row). y.offset ≡ p) all) where
  pub overlap_fault : (p : ℕ) → OverlapsAt (extents_of b r all) p → HasExtentFault b r (record { number = 22; at = p })
  overlap_fault p h =
      let o = overlaps_in (extents_of b r all) p (extents_pairs b r all single) h in
      let one = has_every (IsExtent b r) (λ z. z ≡ o.one) (extents_of b r all) (extents_are b r all reached) o.one_in in
      let other =
      has_every (IsExtent b r) (λ z. z ≡ o.other) (extents_of b r all) (extents_are b r all reached) o.other_in in
      record {
        one = o.one;
        other = o.other;
        differ = o.differ;
        one_is = subst (IsExtent b r) one.2 one.1;
        other_is = subst (IsExtent b r) other.2 other.1;
        overlap = o.overlap;
        at = o.place;
        number = refl;
      }

  pub fault_overlap : (e : Fault) → HasExtentFault b r e → OverlapsAt (extents_of b r all) e.at
  fault_overlap e h = subst (OverlapsAt (extents_of b r all)) (sym h.at)
      (overlaps_of h.one h.other (extents_of b r all) (extent_in b r all above rows h.one h.one_is)
      (extent_in b r all above rows h.other h.other_is) h.differ h.overlap)
