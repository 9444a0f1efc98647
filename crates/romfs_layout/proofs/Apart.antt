-- The records of a layout occur once, and nothing overlaps.
use Rattle.rom_fields.proofs.Climbs.{Climbs, climbs_later, climbs_added, no_overlap}
use Rattle.std.proofs.Common.{◌≡◌, ℕ, ◌+◌, ◌-◌, ◌<◌, ◌≤◌, Bool, true, false, if◌then◌else◌, List, [], ◌∷◌, ◌++◌, map}
use Rattle.std.proofs.Common.{refl, sym, ap, subst, ◌∙◌, arith, append_assoc}
use Rattle.std.specs.List.{AllByRecursion as Every, flat_map}
use Rattle.rom_fields.specs.declared.span.Extent.TheVariants.{Super, Record, Data}
use Rattle.rom_fields.specs.declared.span.Span.{Span}
use Rattle.rom_fields.specs.Extents.{OverlapsAt, added}
use Rattle.record_forest.specs.declared.reference.Row.{Row}
use Rattle.record_forest.specs.Members.{Pairs}
use Rattle.record_forest.proofs.Lists.{every_weaker}
use Rattle.romfs_format.specs.Record.{end_of, size_of, type_of, has_data}
use Rattle.romfs_format.specs.Tree.{row_extents}
use Rattle.romfs_layout.specs.Layout.{Header, record_len}
use Rattle.romfs_layout.specs.Reads.{Reads}
use Rattle.romfs_layout.proofs.Headers.{Ascend}

pub ascend_low : (from to : ℕ) (is : List Header) → Ascend from to is → Every (λ i. from ≤ i.place) is
ascend_low from to [] h = tt
ascend_low from to (i ∷ is) h =
    let a = h.0 in (
      a,
      every_weaker (λ j. i.place + record_len i.name + i.size ≤ j.place) (λ j. from ≤ j.place) (λ j l. omega arith) is
          (ascend_low (i.place + record_len i.name + i.size) to is h.1),
    )

pub ascend_end : (from to : ℕ) (is : List Header) → Ascend from to is → from ≤ to
ascend_end from to [] h = h
ascend_end from to (i ∷ is) h =
    let a = h.0 in let e = ascend_end (i.place + record_len i.name + i.size) to is h.1 in omega arith

-- each ends within
pub ascend_high : (from to : ℕ) (is : List Header) → Ascend from to is
    → Every (λ i. i.place + record_len i.name + i.size ≤ to) is
ascend_high from to [] h = tt
ascend_high from to (i ∷ is) h = (
  ascend_end (i.place + record_len i.name + i.size) to is h.1,
  ascend_high (i.place + record_len i.name + i.size) to is h.1,
)

pub places_rise : (from to : ℕ) (is : List Header) → Ascend from to is → Pairs (λ i j. i.place < j.place) is
places_rise from to [] h = tt
places_rise from to (i ∷ is) h =
    let q = i.place + record_len i.name + i.size in (
      every_weaker (λ j. q ≤ j.place) (λ j. i.place < j.place) (λ j l. omega arith) is (ascend_low q to is h.1),
      places_rise q to is h.1,
    )

-- the bytes of the record at p
abbrev pub taken : List ℕ → ℕ → List Span
taken b p =
    added Record p (end_of b p - p) ++ (if has_data (type_of b p) then added Data (end_of b p) (size_of b p) else [])

climbs_data : (t : Bool) (e s to : ℕ) (ss : List Span) → Climbs (e + s) to ss
    → Climbs e to ((if t then added Data e s else []) ++ ss)
climbs_data true e s to ss c = climbs_added Data e e s to ss (omega arith) c
climbs_data false e s to ss c = climbs_later e (e + s) to ss (omega arith) c

pub climbs_headers : (b : List ℕ) (cs : List (List ℕ)) (from to : ℕ) (is : List Header) → Every (Reads b cs) is
    → Ascend from to is → Climbs from to (flat_map (taken b) (map (λ (i : Header). i.place) is))
climbs_headers b cs from to [] r a = a
climbs_headers b cs from to (i ∷ is) r a =
    let p = i.place in
    let e = r.0.ends in
    let s = r.0.size in
    let rest = flat_map (taken b) (map (λ (j : Header). j.place) is) in
    let later = climbs_headers b cs (p + record_len i.name + i.size) to is r.1 a.1 in
    let m : p + record_len i.name + i.size ≡ end_of b p + size_of b p = omega (arith, e, s) in
    let here = climbs_data (has_data (type_of b p)) (end_of b p) (size_of b p) to rest
    (subst (λ (v : ℕ). Climbs v to rest) m later) in
    let bytes = if has_data (type_of b p) then added Data (end_of b p) (size_of b p) else [] in
    let w : end_of b p ≡ p + (end_of b p - p) = omega (arith, e) in
    let all = climbs_added Record from p (end_of b p - p) to (bytes ++ rest) a.0
    (subst (λ (v : ℕ). Climbs v to (bytes ++ rest)) w here) in
    subst (λ (ss : List Span). Climbs from to ss) (sym (append_assoc (added Record p (end_of b p - p)) bytes rest)) all

pub taken_rows : (b : List ℕ) (xs : List Row)
    → flat_map (row_extents b) xs ≡ flat_map (taken b) (map (λ (y : Row). y.offset) xs)
taken_rows b [] = refl
taken_rows b (x ∷ xs) = ap (λ (ss : List Span). taken b x.offset ++ ss) (taken_rows b xs)

pub apart : (b : List ℕ) (cs : List (List ℕ)) (r to : ℕ) (is : List Header) (xs : List Row) (p : ℕ)
    → Every (Reads b cs) is → Ascend r to is → map (λ (y : Row). y.offset) xs ≡ map (λ (i : Header). i.place) is
    → OverlapsAt (added Super 0 r ++ flat_map (row_extents b) xs) p → ⊥
apart b cs r to is xs p reads a e o =
    let c = climbs_headers b cs r to is reads a in
    let t : flat_map (row_extents b) xs ≡ flat_map (taken b) (map (λ (i : Header). i.place) is) =
    taken_rows b xs ∙ ap (flat_map (taken b)) e in
    let whole = climbs_added Super 0 0 r to (flat_map (taken b) (map (λ (i : Header). i.place) is)) (omega arith)
    (climbs_later (0 + r) r to (flat_map (taken b) (map (λ (i : Header). i.place) is)) (omega arith) c) in
    no_overlap 0 to (added Super 0 r ++ flat_map (taken b) (map (λ (i : Header). i.place) is)) p whole
    (subst (λ (ss : List Span). OverlapsAt (added Super 0 r ++ ss) p) t o)
