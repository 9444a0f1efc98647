-- The sections of a cramfs plan are inodes, tables, texts and contents of files.
use Rattle.std.proofs.Common.{◌≡◌, ◌≢◌, ℕ, zero, suc, ◌+◌, ◌*◌, ◌^◌, ◌<◌, ◌≤◌, Bool, true, false, if◌then◌else◌, inl}
use Rattle.std.proofs.Common.{inr, List, [], ◌∷◌, map, length, drop, get_or, refl, sym, ap, subst, ◌∙◌, arith}
use Rattle.std.proofs.lemmas.Bool.Decides.{eqb_tells}
use Rattle.std.proofs.lemmas.List.{length-drop}
use Rattle.std.specs.List.{AllByRecursion as Every}
use Rattle.record_forest.proofs.Lists.{every_join}
use Rattle.cramfs_format.specs.Inode.{block_count}
use Rattle.manifest_tree.specs.Names.{Fill, no_bytes, text, source, bytes_of}
use Rattle.manifest_tree.specs.Items.{Item, Section, section, table_of, fill_section}
use Rattle.manifest_tree.specs.Bodies.{item_at}
use Rattle.manifest_tree.proofs.Bodies.{item_here, items_later}
use Rattle.cramfs_layout.specs.Layout.{entry_len}
use Rattle.cramfs_layout.specs.Items.{has_table, table_sections, sections_from}
use Rattle.manifest_layout.proofs.Sized.{size_is}
use Rattle.cramfs_write.specs.Known.{IsBody}

inside : (xs : List ℕ) (k : ℕ) → get_or xs k 0 ≢ 0 → k < length xs
inside [] k z = absurd (z refl)
inside (x ∷ xs) zero z = omega arith
inside (x ∷ xs) (suc k) z = let l = inside xs k z in omega arith

-- an item whose name is short, and whose bytes, if it has any, are those of its file and end at 2^28 or before
pub record IsFit (cs : List (List ℕ)) (i : Item) : Type 0 where
  pub short : length i.name ≤ 252
  pub low : i.len ≢ 0 → i.start + i.len ≤ 2 ^ 28
  pub long : i.len ≢ 0 → length (bytes_of cs i.fill) ≡ i.len

module _ (cs : List (List ℕ)) (all : List Item) where
  abbrev pub IsPart : Section → Type 0
  IsPart s = IsBody all (map length cs) s.len s.body

  filled_part : (index start len : ℕ) (f : Fill) → index < length all → (item_at all index).fill ≡ f
      → length (bytes_of cs f) ≡ len
      → len ≢ 0 → Every IsPart (fill_section index start len f)
  filled_part index start len no_bytes low is n z = tt
  filled_part index start len (text x) low is n z = ((low, x, is, n), tt)
  filled_part index start len (source k) low is n z =
      let e = sym (size_is cs k) ∙ n in ((inside (map length cs) k (λ y. z (sym e ∙ y)), e), tt)

  own_by : (c : Bool) (index : ℕ) (i : Item) → index < length all → item_at all index ≡ i → i.len ≢ 0 → IsFit cs i
      → Every IsPart (if c then [] else section i.table (4 * block_count i.len) (table_of index)
      ∷ fill_section index i.start i.len i.fill)
  own_by true index i low is z f = tt
  own_by false index i low is z f = (
    (
      low,
      ap (λ (x : Item). 4 * block_count x.len) is,
      subst (λ (x : Item). x.start + x.len ≤ 2 ^ 28) (sym is) (f.low z),
    ),
    filled_part index i.start i.len i.fill low (ap (λ (x : Item). x.fill) is) (f.long z) z,
  )

  own_parts : (earlier : List Item) (index : ℕ) (i : Item) → index < length all → item_at all index ≡ i → IsFit cs i
      → Every IsPart (table_sections earlier index i)
  own_parts earlier index i low is f = elim (eqb_tells i.len 0) [
    | inl t ↦ rw t.0 tt
    | inr t ↦ rw t.0 (own_by (has_table earlier i.table) index i low is t.1 f)
  ]

  pub are_parts : (earlier : List Item) (index : ℕ) (is : List Item) → drop index all ≡ is → Every (IsFit cs) is
      → Every IsPart (sections_from earlier index is)
  are_parts earlier index [] e f = tt
  are_parts earlier index (i ∷ is) e f =
      let here = item_here all index i is e in
      let n = length-drop index all in
      let m : length (drop index all) ≡ length (i ∷ is) = ap length e in
      let low : index < length all = omega (arith, n, m) in (
        (low, subst (λ (x : Item). length x.name ≤ 252) (sym here) f.0.short, ap (λ (x : Item). entry_len x.name) here),
        every_join IsPart (table_sections earlier index i) (sections_from (i ∷ earlier) (index + 1) is)
            (own_parts earlier index i low here f.0)
            (are_parts (i ∷ earlier) (index + 1) is (items_later all index i is e) f.1),
      )
