-- The bytes of a file's runs, hashed one after the other.
use Rattle.std.proofs.Common.{◌≡◌, ℕ, ◌+◌, ◌-◌, List, ◌++◌, length, take, drop, length-take, length-drop, Some}
use Rattle.std.proofs.Common.{sym, ap, ◌∙◌, arith, min}
use Rattle.std.specs.Prelude.{slice_index}
use Rattle.std.proofs.Math.Seq.{take-add}
use Rattle.std.proofs.lemmas.List.{get_or-take, get_or-drop, take-map, drop-map}
use Rattle.rom_tree.specs.declared.types.Run.{Run}
use Rattle.rom_tree.specs.Tree.{Node, places_of}
use Rattle.rom_tree.specs.Image.{Image, image_node, IsRun, contents_of}
use Rattle.rom_tree.proofs.Rows.{row_bytes, row_end}

module _ (m : Image) (n : ℕ) (x : Node) (at : ℕ) (r : Run) (e : image_node m n ≡ Some x)
    (i : IsRun (places_of x) at r) where
  -- where a run lies in the image, the file's bytes are
  pub run_contents : take r.len (drop r.place m.bytes) ≡ take r.len (drop at (contents_of m.bytes x))
  run_contents =
      let ps : List ℕ = places_of x in
      let d : length (drop at ps) ≡ length ps - at = length-drop at ps in
      let t : length (take r.len (drop at ps)) ≡ min r.len (length (drop at ps)) = length-take r.len (drop at ps) in
      let f : ℕ → ℕ = λ p. slice_index m.bytes p in
      row_bytes m.bytes (take r.len (drop at ps)) r.place r.len (omega (arith, d, t, i.within))
      (λ k l. get_or-take r.len (drop at ps) k 0 l ∙ (get_or-drop at ps k 0 ∙ i.row k l))
      (row_end m n x at r e i)
      ∙ (sym (take-map f r.len (drop at ps)) ∙ ap (take r.len) (sym (drop-map f at ps)))

  -- the bytes before `at` and those of the run are the bytes before the run's end
  pub front_grows : (bs t : List ℕ) → bs ≡ m.bytes → t ≡ take r.len (drop r.place bs)
      → take at (contents_of m.bytes x) ++ t ≡ take (at + r.len) (contents_of m.bytes x)
  front_grows bs t b p =
      ap (λ (v : List ℕ). take at (contents_of m.bytes x) ++ v)
      (p ∙ (ap (λ (v : List ℕ). take r.len (drop r.place v)) b ∙ run_contents))
      ∙ sym (take-add at r.len (contents_of m.bytes x))
