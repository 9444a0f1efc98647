-- The places of a run, and the names before one.
use Rattle.std.proofs.Common.{◌≡◌, ℕ, ◌+◌, ◌-◌, ◌<◌, ◌≤◌, List, [], ◌∷◌, ◌++◌, sym, ap, ◌∙◌, arith, inl, inr}
use Rattle.std.specs.Prelude.{slice_index}
use Rattle.std.proofs.lemmas.Bool.{cases_lt}
use Rattle.rom_tree.specs.declared.types.Run.{Run}
use Rattle.rom_tree.specs.Image.{IsRun}
use Rattle.rom_tree.specs.Names.{Name}
use Rattle.image_compare.specs.Holders.{HasPlace, Holds, NoneHolds}

module _ (ps : List ℕ) (at : ℕ) (r : Run) (i : IsRun ps at r) (p : ℕ) where
  -- a run that covers a place has a byte there
  pub run_has : r.place ≤ p → p < r.place + r.len → HasPlace ps p
  run_has h k =
      (at + (p - r.place), omega (arith, h, k, i.within), i.row (p - r.place) (omega (arith, h, k)) ∙ omega (arith, h))

  -- and one that does not has none
  pub run_has_none : (r.place ≤ p → p < r.place + r.len → ⊥)
      → ((k : ℕ) → k < at → slice_index ps k ≡ p → ⊥)
      → (k : ℕ) → k < at + r.len → slice_index ps k ≡ p → ⊥
  run_has_none out before k l e = elim (cases_lt k at) [
    | inl h ↦ before k h e
    | inr h ↦
        let d : at + (k - at) ≡ k = omega (arith, h) in
        let q : slice_index ps (at + (k - at)) ≡ r.place + (k - at) = i.row (k - at) (omega (arith, h, l)) in
        let f : p ≡ r.place + (k - at) = sym e ∙ (ap (slice_index ps) (sym d) ∙ q) in
        out (omega (arith, f)) (omega (arith, f, h, l))
  ]

-- one more name without the byte
pub none_more : (ns : List Name) (n : Name) (p : ℕ) → NoneHolds ns p → (Holds n.node p → ⊥) → NoneHolds (ns ++ n ∷ []) p
none_more [] n p h k = (k, tt)
none_more (m ∷ ns) n p h k = (h.0, none_more ns n p h.1 k)
