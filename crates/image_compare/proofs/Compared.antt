-- The contents of two files side by side.
use Rattle.std.proofs.Common.{◌≡◌, ℕ, ◌+◌, ◌-◌, ◌≤◌, List, ◌++◌, length, take, drop, length-take, length-drop, Some}
use Rattle.std.proofs.Common.{sym, ap, ◌∙◌, subst, arith, min, true, false, Bool, refl}
use Rattle.std.specs.Prelude.{slice_index}
use Rattle.std.specs.Str.{bytes_eq}
use Rattle.std.proofs.Math.Seq.{take-add}
use Rattle.std.proofs.lemmas.Bool.{true≢false}
use Rattle.std.proofs.lemmas.Slice.Eq.{bytes_eq-Decides}
use Rattle.std.proofs.lemmas.List.{get_or-take, get_or-drop, take-map, drop-map, take_all}
use Rattle.rom_tree.specs.declared.types.Run.{Run}
use Rattle.rom_tree.specs.Tree.{Node, places_of}
use Rattle.rom_tree.specs.Image.{Image, image_node, IsRun, contents_of}
use Rattle.rom_tree.proofs.Rows.{row_bytes, row_end}

module _ (m : Image) (i : ℕ) (x : Node) (at : ℕ) (r : Run) (n : ℕ) (e : image_node m i ≡ Some x)
    (h : IsRun (places_of x) at r) (l : n ≤ r.len) where
  -- the front of a run lies in the image
  pub part_end : r.place + n ≤ length m.bytes
  part_end = let w = row_end m i x at r e h in omega (arith, w, l)

  -- and has the file's bytes
  pub part_contents : take n (drop r.place m.bytes) ≡ take n (drop at (contents_of m.bytes x))
  part_contents =
      let ps : List ℕ = places_of x in
      let d : length (drop at ps) ≡ length ps - at = length-drop at ps in
      let t : length (take n (drop at ps)) ≡ min n (length (drop at ps)) = length-take n (drop at ps) in
      let f : ℕ → ℕ = λ p. slice_index m.bytes p in
      row_bytes m.bytes (take n (drop at ps)) r.place n (omega (arith, d, t, h.within, l))
      (λ k q. get_or-take n (drop at ps) k 0 q ∙ (get_or-drop at ps k 0 ∙ h.row k (omega (arith, q, l))))
      part_end
      ∙ (sym (take-map f n (drop at ps)) ∙ ap (take n) (sym (drop-map f at ps)))

  pub part_is : (bs : List ℕ) → bs ≡ m.bytes → take n (drop r.place bs) ≡ take n (drop at (contents_of m.bytes x))
  part_is bs b = ap (λ (v : List ℕ). take n (drop r.place v)) b ∙ part_contents

  pub part_fits : (bs : List ℕ) → bs ≡ m.bytes → r.place + n ≤ length bs
  part_fits bs b = let P : List ℕ → Type 0 = λ v. r.place + n ≤ length v in subst P (sym b) part_end

-- the test of two slices, and what it decides
pub same_true : (a b : List ℕ) → a ≡ b → true ≡ bytes_eq a b
same_true a b e = sym ((bytes_eq-Decides a b).1 e)

not_true : (r : Bool) → (r ≡ true → ⊥) → false ≡ r
not_true true h = absurd (h refl)
not_true false h = refl

pub same_false : (a b : List ℕ) → (a ≡ b → ⊥) → false ≡ bytes_eq a b
same_false a b e = not_true (bytes_eq a b) (λ h. e ((bytes_eq-Decides a b).0 h))

pub same_is : (a b : List ℕ) → true ≡ bytes_eq a b → a ≡ b
same_is a b e = (bytes_eq-Decides a b).0 (sym e)

-- a part that differs
pub part_differs : (a b s t : List ℕ) (at n : ℕ) → s ≡ take n (drop at a) → t ≡ take n (drop at b)
    → false ≡ bytes_eq s t → false ≡ bytes_eq a b
part_differs a b s t at n p q d = same_false a b (λ e. true≢false
    (same_true s t (p ∙ (ap (λ (v : List ℕ). take n (drop at v)) e ∙ sym q)) ∙ sym d))

-- and one that is the same
pub part_same : (a b s t : List ℕ) (at n : ℕ) → s ≡ take n (drop at a) → t ≡ take n (drop at b)
    → true ≡ bytes_eq s t → take at a ≡ take at b → take (at + n) a ≡ take (at + n) b
part_same a b s t at n p q d e =
    take-add at n a ∙ (ap (λ (v : List ℕ). v ++ take n (drop at a)) e
    ∙ (ap (λ (v : List ℕ). take at b ++ v) (sym p ∙ (same_is s t d ∙ q)) ∙ sym (take-add at n b)))

-- all of both
pub all_same : (a b : List ℕ) (at : ℕ) → length a ≤ at → length b ≤ at → take at a ≡ take at b → true ≡ bytes_eq a b
all_same a b at h k e = same_true a b (sym (take_all at a h) ∙ (e ∙ take_all at b k))
