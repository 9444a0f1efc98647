-- What a map says of the files of a tree: `AreValues`. (This project's own.)
use Rattle.std.specs.Prelude.{◌≡◌, ℕ, ◌+◌, ◌<◌, ◌%◌, ◌^◌, Bool, true, false, List, [], ◌++◌, length}
use Rattle.std.specs.Prelude.{slice_index, codes, decimal}
use Rattle.std.specs.List.{flat_map}
use Rattle.rom_tree.specs.Tree.{Node, is_regular, places_of}
use Rattle.rom_tree.specs.Names.{Name, names}
use Rattle.map_forms.specs.Forms.{last_lines, suffix}
use Rattle.map_forms.specs.Header.{address_number, definition, head_text, path_macro}
use Rattle.map_forms.specs.Names.{Address, Length}
use Rattle.map_forms.specs.declared.form.Form.{Form}

-- the bytes at these offsets follow one another in the image from p on
abbrev pub FollowFrom : ℕ → List ℕ → Type 0
FollowFrom p ps = (0 < length ps) × ((k : ℕ) → k < length ps → slice_index ps k ≡ p + k)

-- The lines of a regular file in an image whose first byte has the address `base`: the address of
-- its first byte, if its bytes follow one another in the image; the number of its bytes; and in a
-- header its path.
pub record HasValues (f : Form) (prefix : List ℕ) (base : ℕ) (path : List ℕ) (x : Node)
    (text : List ℕ) : Type 0 where
  pub address : List ℕ
  pub is : text ≡ codes "\n"
      ++ (address ++ (definition f prefix (Length path) (decimal (length (places_of x)) ++ suffix f)
      ++ path_macro f prefix path))
  pub address_if : (p : ℕ) → FollowFrom p (places_of x)
      → address ≡ definition f prefix (Address path) (address_number f ((base + p) % 2 ^ 64))
  pub address_only : ((p : ℕ) → FollowFrom p (places_of x) → ⊥) → address ≡ []

-- A text has the lines of each chosen regular file of a tree, and of no other name, in the order of
-- names.
pub record AreValues (f : Form) (chosen : List ℕ → Bool) (prefix : List ℕ) (base size : ℕ)
    (t : Node) (text : List ℕ) : Type 0 where
  pub values : Name → List ℕ
  pub is : text ≡ head_text f prefix base size ++ (flat_map values (names t) ++ last_lines f)
  pub files : (n : Name) → is_regular n.node ≡ true → chosen n.path ≡ true
      → HasValues f prefix base n.path n.node (values n)
  pub unchosen : (n : Name) → chosen n.path ≡ false → values n ≡ []
  pub others : (n : Name) → is_regular n.node ≡ false → values n ≡ []
