-- An image composed of its sections is the layout.
use Rattle.std.proofs.Common.{◌≡◌, ◌≢◌, ℕ, List, [], ◌∷◌, ◌++◌, map, length, drop, get_or, refl, sym, ap, subst, ◌∙◌}
use Rattle.std.proofs.Common.{arith}
use Rattle.std.specs.List.{AllByRecursion as Every}
use Rattle.record_forest.proofs.Lists.{every_join, every_left, every_right, every_weaker, every_of}
use Rattle.cramfs_format.specs.declared.order.Order.{Order}
use Rattle.rom_fields.specs.Parts.{Part, part, laid, HasParts, IsOutside}
use Rattle.rom_fields.proofs.Parts.{HasParts-laid, zero_outside}
use Rattle.rom_fields.proofs.Determined.{determined}
use Rattle.manifest_tree.specs.Names.{Inode, Names, bytes_of}
use Rattle.manifest_tree.specs.Items.{Item, Section}
use Rattle.manifest_tree.specs.Bodies.{body_bytes}
use Rattle.manifest_tree.proofs.Bodies.{sections_are}
use Rattle.manifest_tree.proofs.Sections.{order_every, order_back}
use Rattle.cramfs_layout.specs.Layout.{after_names, first_state, parts, size_of, superblock, with_crc, layout}
use Rattle.cramfs_layout.specs.Items.{AreAlignedBy, entries, below, items_of, sections_from, sections_of}
use Rattle.cramfs_layout.specs.Composed.{written, table, cramfs_part, composed}
use Rattle.cramfs_layout.specs.Planned.{IsPlanned}
use Rattle.cramfs_layout.proofs.Super.{length-list}
use Rattle.cramfs_layout.proofs.Stored.{parts_both}
use Rattle.cramfs_layout.proofs.Image.{all_parts, are_laid}
use Rattle.cramfs_layout.proofs.Tabled.{IsTabled, all_tabled, IsBare, entries_bare, below_bare}
use Rattle.cramfs_layout.proofs.Runs.{IsRun, IsIn, runs, runs_fresh, are_runs}
use Rattle.cramfs_layout.proofs.Shown.{Out, OutOf, OutOfItem, OfSection, OfItem, all_of}
use Rattle.cramfs_layout.proofs.Covered.{list_out, covered}
use Rattle.cramfs_layout.proofs.Sectioned.{rise}
use Rattle.cramfs_layout.proofs.Composed.{Stands, entries_stand, below_stand}
use Rattle.cramfs_layout.proofs.Filled.{IsFilled, are_filled}
use Rattle.cramfs_layout.proofs.Held.{Held, sections_held}

module _ (o : Order) (volume : List ℕ) (root : Inode) (n : Names) (cs : List (List ℕ)) (A : ℕ → ℕ)
    (h : IsPlanned volume root n cs) (al : AreAlignedBy A n) where
  abbrev block : List ℕ
  block = superblock o volume root n

  abbrev all : List Item
  all = items_of o root n

  -- the items behind the root's
  abbrev others : List Item
  others = entries o 76 (first_state n) n ++ below o (first_state n) n

  abbrev whole : List ℕ
  whole = laid [] (all_parts o volume root n cs)

  abbrev bytes : Section → List ℕ
  bytes s = body_bytes block (written o) (table o) cs all s.body

  abbrev IsLong : Section → Type 0
  IsLong s = length (bytes s) ≡ s.len

  have : HasParts whole (all_parts o volume root n cs)
  have = HasParts-laid [] (all_parts o volume root n cs) (are_laid o volume root n cs h).rises

  own : HasParts whole (parts o cs (first_state n) n)
  own = (parts_both whole (parts o cs (first_state n) n) (part (size_of n) [] ∷ []) have.1.1).0

  filled : Every (IsFilled o cs whole) others
  filled =
      let s = first_state n in
      let f = are_filled o cs A whole 76 s n refl h.well al own in
      every_join (IsFilled o cs whole) (entries o 76 s n) (below o s n) f.0 f.1

  held : Every (Held o block cs whole all) (sections_of all)
  held =
      let s = first_state n in
      let stand = every_join (Stands o whole) (entries o 76 s n) (below o s n) (entries_stand o whole 76 s n have.1.0)
      (below_stand o whole cs s n own) in (
        (have.0, (are_laid o volume root n cs h).first),
        order_every (Held o block cs whole all) (sections_from [] 1 others)
            (sections_held o block cs whole all [] 1 others refl stand filled),
      )

  pub long : Every IsLong (sections_of all)
  long = every_weaker (Held o block cs whole all) IsLong (λ x k. k.1) (sections_of all) held

  abbrev sections : List Part
  sections = map (cramfs_part o block cs all) (sections_of all) ++ part (size_of n) [] ∷ []

  all_held : (ss : List Section) → Every (Held o block cs whole all) ss
      → HasParts whole (map (cramfs_part o block cs all) ss ++ part (size_of n) [] ∷ [])
  all_held [] k = ((drop (size_of n) whole, refl), tt)
  all_held (x ∷ xs) k = (k.0.0, all_held xs k.1)

  outside : (p : ℕ) (ss : List Section) → Every IsLong ss
      → Every (IsOutside p) (map (cramfs_part o block cs all) ss ++ part (size_of n) [] ∷ [])
      → Every (OutOf p) ss × IsOutside p (part (size_of n) [])
  outside p [] l k = (tt, k.0)
  outside p (x ∷ xs) l k =
      let more = outside p xs l.1 k.1 in
      ((subst (λ (v : ℕ). Out p x.place v) l.0 k.0, more.0), more.1)

  -- what holds of all sections holds of all items
  pub of_items : (Q : ℕ → ℕ → Type 0) → Every (OfSection Q) (sections_from [] 1 others) → Every (OfItem Q) others
  of_items Q holds =
      let s = first_state n in
      let R = runs s n in
      let es = entries o 76 s n in
      let bs = below o s n in
      let t = all_tabled o cs A (IsRun R) 76 s n h.well al
      (runs_fresh cs R s n h.well (every_of (IsIn R) R (λ r k. k))) tt in
      let tabled = every_join (IsTabled (IsRun R)) es bs t.here t.under in
      let bare = every_join IsBare es bs (entries_bare o 76 s n) (below_bare o s n) in
      let lens = every_weaker (IsFilled o cs whole) (λ (i : Item). i.len ≢ 0 → length (bytes_of cs i.fill) ≡ i.len)
      (λ i k u. (k u).0) others filled in
      all_of cs s.at (after_names s n).at R (are_runs cs s n h.well) (omega arith) Q 1 others lens tabled bare holds

  zeros : (p : ℕ) → Every (IsOutside p) sections → get_or whole p 0 ≡ 0
  zeros p k =
      let s = first_state n in
      let es = entries o 76 s n in
      let bs = below o s n in
      let out = outside p (sections_of all) long k in
      let items = of_items (Out p) (order_back (OutOf p) (sections_from [] 1 others) out.0.1) in
      let here = every_left (OutOfItem p) es bs items in
      let under = every_right (OutOfItem p) es bs items in
      let list = subst (λ (v : ℕ). Out p 76 v) (sym (length-list o s n)) (list_out o p 76 s n here) in
      let rest = every_join (IsOutside p) (parts o cs s n) (part (size_of n) [] ∷ [])
      (covered o cs p 76 s n h.well here under) (out.1, tt) in
      zero_outside [] (all_parts o volume root n cs) p (are_laid o volume root n cs h).rises (k.0, (list, rest))
      (omega arith)

  pub is_composed : layout o volume root n cs ≡ composed o block (size_of n) cs all
  unfolding layout composed
  is_composed =
      let are = sections_are bytes 0 (size_of n) (size_of n) (sections_of all) (omega arith)
      (rise o volume root n cs A h al) long in
      let same = determined whole sections are.rises (all_held (sections_of all) held)
      ((are_laid o volume root n cs h).long ∙ sym are.ends_at) zeros in
      ap (with_crc o) same
