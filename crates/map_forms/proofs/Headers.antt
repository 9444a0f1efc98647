-- The parts of a map, joined.
use Rattle.std.proofs.Common.{◌≡◌, ℕ, List, ◌++◌, sym, ap, ◌∙◌, append_assoc, Bool}
use Rattle.std.specs.Prelude.{Result, Ok, Err, OnOk, OnErr, IfErr}
use Rattle.std.specs.List.{flat_map}
use Rattle.map_forms.specs.declared.error.HeaderError.{HeaderError}
use Rattle.map_forms.specs.declared.error.HeaderError.TheVariants.{WriteFault}
use Rattle.rom_tree.specs.Tree.{Node}
use Rattle.rom_tree.specs.Names.{names}
use Rattle.map_forms.specs.Forms.{last_lines}
use Rattle.map_forms.specs.Header.{head_text, map_text, name_macros}
use Rattle.map_forms.specs.declared.form.Form.{Form}

module _ (f : Form) (chosen : List ℕ → Bool) (prefix : List ℕ) (base size : ℕ) (t : Node) where
  -- the head and the lines of all names
  abbrev pub most_text : List ℕ
  most_text =
      head_text f prefix base size ++ flat_map (λ n. name_macros f chosen prefix base n) (names t)

  -- with the last lines behind them
  pub header_is : (done : List ℕ) → done ≡ most_text → done ++ last_lines f ≡ map_text f chosen prefix base size t
  unfolding map_text
  header_is done e =
      ap (λ (v : List ℕ). v ++ last_lines f) e
      ∙ append_assoc (head_text f prefix base size)
      (flat_map (λ n. name_macros f chosen prefix base n) (names t)) (last_lines f)

  -- a front of them is a front of the whole
  pub header_front : (done rest : List ℕ) → done ++ rest ≡ most_text
      → done ++ (rest ++ last_lines f) ≡ map_text f chosen prefix base size t
  header_front done rest e = sym (append_assoc done rest (last_lines f)) ∙ header_is (done ++ rest) e

-- what follows of how a map was ended
pub end_ok : {A B : Type 0} (r : Result (Unit {0}) HeaderError) → (A → B) → OnOk r A → OnOk r B
end_ok (Ok v) f h = f h
end_ok (Err e) f h = h

pub end_err : {A B : Type 0} (r : Result (Unit {0}) HeaderError) → (A → B) → IfErr r (λ e. (e ≡ WriteFault) × A)
    → OnErr r B
end_err (Ok v) f h = h
end_err (Err e) f h = f h.1

pub end_rose : {A B : Type 0} (r : Result (Unit {0}) HeaderError) → (A → B) → IfErr r (λ e. (e ≡ WriteFault) × A)
    → IfErr r (λ e. e ≡ WriteFault → B)
end_rose (Ok v) f h = h
end_rose (Err e) f h = λ w. f h.1
