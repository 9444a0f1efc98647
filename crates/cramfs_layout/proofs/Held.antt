-- The sections of items are at their offsets.
use Rattle.std.proofs.Common.{◌≡◌, ℕ, ◌+◌, ◌-◌, ◌*◌, Bool, true, false, if◌then◌else◌, List, [], ◌∷◌, ◌++◌, length}
use Rattle.std.proofs.Common.{drop, replicate, inl, inr, sym, ap, subst, ◌∙◌, arith, length-append}
use Rattle.std.proofs.lemmas.Bool.Decides.{eqb_tells}
use Rattle.std.proofs.lemmas.List.{length-replicate}
use Rattle.std.specs.List.{AllByRecursion as Every}
use Rattle.record_forest.proofs.Lists.{every_join}
use Rattle.cramfs_format.specs.declared.order.Order.{Order}
use Rattle.cramfs_format.specs.Inode.{block_count}
use Rattle.rom_fields.specs.Parts.{HasAt}
use Rattle.manifest_tree.specs.Names.{Fill, no_bytes, text, source, bytes_of}
use Rattle.manifest_tree.specs.Items.{Item, Section, section, table_of, fill_section}
use Rattle.manifest_tree.specs.Bodies.{item_at, body_bytes}
use Rattle.manifest_tree.proofs.Bodies.{item_here, items_later}
use Rattle.cramfs_layout.specs.Layout.{entry_len, pad4, pointers, word_bytes}
use Rattle.cramfs_layout.specs.Items.{has_table, table_sections, sections_from}
use Rattle.cramfs_layout.specs.Composed.{written, table}
use Rattle.cramfs_layout.proofs.Entries.{length-word}
use Rattle.cramfs_layout.proofs.Super.{length-pointers}
use Rattle.cramfs_layout.proofs.Composed.{Stands}
use Rattle.cramfs_layout.proofs.Filled.{FilledAt, IsFilled}

pub length-written : (o : Order) (i : Item) → length (written o i) ≡ entry_len i.name
length-written o i =
    let first_word = word_bytes o i.first in
    let second_word = word_bytes o i.second in
    let third_word = word_bytes o i.third in
    let tail = replicate {A = ℕ} (pad4 (length i.name) - length i.name) 0 in
    omega (
      arith,
      length-append first_word (second_word ++ (third_word ++ (i.name ++ tail))),
      length-append second_word (third_word ++ (i.name ++ tail)),
      length-append third_word (i.name ++ tail),
      length-append i.name tail,
      length-word o i.first,
      length-word o i.second,
      length-word o i.third,
      length-replicate {A = ℕ} (pad4 (length i.name) - length i.name) 0,
    )

module _ (o : Order) (block : List ℕ) (cs : List (List ℕ)) (b : List ℕ) (all : List Item) where
  -- the bytes of a section are at its offset, and are as many as it is long
  abbrev pub Held : Section → Type 0
  Held s =
      HasAt b s.place (body_bytes block (written o) (table o) cs all s.body)
      × (length (body_bytes block (written o) (table o) cs all s.body) ≡ s.len)

  fill_held : (index start len : ℕ) (f : Fill) → (item_at all index).fill ≡ f → length (bytes_of cs f) ≡ len
      → HasAt b start (bytes_of cs f) → Every Held (fill_section index start len f)
  fill_held index start len no_bytes is n has = tt
  fill_held index start len (text x) is n has = (
    (
      subst (λ (f : Fill). HasAt b start (bytes_of cs f)) (sym is) has,
      ap (λ (f : Fill). length (bytes_of cs f)) is ∙ n,
    ),
    tt,
  )
  fill_held index start len (source k) is n has = ((has, n), tt)

  table_held : (index : ℕ) (i : Item) → item_at all index ≡ i
      → (length (bytes_of cs i.fill) ≡ i.len) × FilledAt o cs b i.table i.start i.fill
      → Held (section i.table (4 * block_count i.len) (table_of index))
  table_held index i is h =
      let there : HasAt b i.table (table o i) =
      subst (λ (n : ℕ). HasAt b i.table (pointers o i.start (block_count n))) h.0 h.1.0 in (
        subst (λ (x : Item). HasAt b i.table (table o x)) (sym is) there,
        ap (λ (x : Item). length (table o x)) is ∙ length-pointers o i.start (block_count i.len),
      )

  own_by : (c : Bool) (index : ℕ) (i : Item) → item_at all index ≡ i
      → (length (bytes_of cs i.fill) ≡ i.len) × FilledAt o cs b i.table i.start i.fill
      → Every Held (if c then [] else section i.table (4 * block_count i.len) (table_of index)
      ∷ fill_section index i.start i.len i.fill)
  own_by true index i is h = tt
  own_by false index i is h =
      (table_held index i is h, fill_held index i.start i.len i.fill (ap (λ (x : Item). x.fill) is) h.0 h.1.1)

  own_held : (earlier : List Item) (index : ℕ) (i : Item) → item_at all index ≡ i → IsFilled o cs b i
      → Every Held (table_sections earlier index i)
  own_held earlier index i is h = elim (eqb_tells i.len 0) [
    | inl t ↦ rw t.0 tt
    | inr t ↦ rw t.0 (own_by (has_table earlier i.table) index i is (h t.1))
  ]

  pub sections_held : (earlier : List Item) (index : ℕ) (is : List Item) → drop index all ≡ is → Every (Stands o b) is
      → Every (IsFilled o cs b) is → Every Held (sections_from earlier index is)
  sections_held earlier index [] e st fi = tt
  sections_held earlier index (i ∷ is) e st fi =
      let here = item_here all index i is e in (
        (
          subst (λ (x : Item). HasAt b i.place (written o x)) (sym here) st.0,
          ap (λ (x : Item). length (written o x)) here ∙ length-written o i,
        ),
        every_join Held (table_sections earlier index i) (sections_from (i ∷ earlier) (index + 1) is)
            (own_held earlier index i here fi.0)
            (sections_held (i ∷ earlier) (index + 1) is (items_later all index i is e) st.1 fi.1),
      )
