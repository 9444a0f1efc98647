-- The sections of a romfs plan are headers, texts and contents of files.
use Rattle.std.proofs.Common.{◌≡◌, ◌≢◌, ℕ, zero, suc, ◌+◌, ◌<◌, ◌==◌, if◌then◌else◌, inl, inr, List, [], ◌∷◌, map}
use Rattle.std.proofs.Common.{length, drop, get_or, refl, sym, ap, subst, ◌∙◌, arith}
use Rattle.std.proofs.lemmas.Bool.Decides.{eqb_tells}
use Rattle.std.proofs.lemmas.List.{length-drop}
use Rattle.std.specs.List.{AllByRecursion as Every}
use Rattle.record_forest.proofs.Lists.{every_join}
use Rattle.manifest_tree.specs.Names.{Fill, no_bytes, text, source, bytes_of}
use Rattle.manifest_tree.specs.Items.{Item, Section, fill_section, bytes_section}
use Rattle.manifest_tree.specs.Bodies.{item_at}
use Rattle.manifest_tree.proofs.Bodies.{item_here, items_later}
use Rattle.manifest_layout.proofs.Sized.{size_is}
use Rattle.romfs_write.specs.Known.{IsBody}
use Rattle.romfs_layout.specs.Layout.{Header}
use Rattle.romfs_layout.specs.Composed.{written}
use Rattle.romfs_layout.specs.Items.{item_of, sections_from}
use Rattle.romfs_layout.specs.Reads.{IsHeader}
use Rattle.romfs_layout.proofs.ReadBack.{length-header}

inside : (xs : List ℕ) (k : ℕ) → get_or xs k 0 ≢ 0 → k < length xs
inside [] k z = absurd (z refl)
inside (x ∷ xs) zero z = omega arith
inside (x ∷ xs) (suc k) z = let l = inside xs k z in omega arith

module _ (cs : List (List ℕ)) (all : List Item) where
  abbrev pub IsPart : Section → Type 0
  IsPart s = IsBody all (map length cs) s.len s.body

  filled_part : (index start len : ℕ) (f : Fill) → index < length all → (item_at all index).fill ≡ f
      → length (bytes_of cs f) ≡ len
      → Every IsPart (if len == 0 then [] else fill_section index start len f)
  filled_part index start len f low is n =
      elim (eqb_tells len 0) [ inl t ↦ rw t.0 tt | inr t ↦ rw t.0 (some f is n t.1) ] where
        some : (g : Fill) → (item_at all index).fill ≡ g → length (bytes_of cs g) ≡ len → len ≢ 0
            → Every IsPart (fill_section index start len g)
        some no_bytes is n z = tt
        some (text x) is n z = ((low, x, is, n), tt)
        some (source k) is n z =
            let e = sym (size_is cs k) ∙ n in ((inside (map length cs) k (λ y. z (sym e ∙ y)), e), tt)

  pub are_parts : (index : ℕ) (hs : List Header) → drop index all ≡ map item_of hs → Every (IsHeader cs) hs
      → Every IsPart (sections_from index (map item_of hs))
  are_parts index [] e w = tt
  are_parts index (h ∷ hs) e w =
      let i = item_of h in
      let is = map item_of hs in
      let here = item_here all index i is e in
      let n = length-drop index all in
      let m : length (drop index all) ≡ length (i ∷ is) = ap length e in
      let low : index < length all = omega arith in (
        (
          low,
          subst (λ (x : Item). length x.name < 256) (sym here) w.0.name.short,
          ap (λ (x : Item). length (written x)) here ∙ length-header h.next h.spec h.size h.name,
        ),
        every_join IsPart (bytes_section index i) (sections_from (index + 1) is)
            (filled_part index h.start h.size h.fill low (ap (λ (x : Item). x.fill) here) w.0.content)
            (are_parts (index + 1) hs (items_later all index i is e) w.1),
      )
