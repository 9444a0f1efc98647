-- Sections by their index.
use Rattle.std.proofs.Common.{◌≡◌, ℕ, zero, suc, ◌+◌, ◌<◌, List, [], ◌∷◌, length, drop, get_or, Option, Some, None}
use Rattle.std.proofs.Common.{refl, sym, ap, ◌∙◌, arith}
use Rattle.std.proofs.lemmas.List.{get_or-drop, length-drop}
use Rattle.std.specs.Option.{option_map}
use Rattle.std.specs.List.{AllByRecursion as Every}
use Rattle.manifest_tree.specs.Items.{Section, section, super}
use Rattle.manifest_layout.specs.Plans.{section_at}
use Rattle.manifest_layout.specs.declared.section.Section as code_section
use Rattle.manifest_layout.specs.Views.{section_view}

pub some_section : (ss : List Section) (i : ℕ) (d : Section) → i < length ss → section_at ss i ≡ Some (get_or ss i d)
some_section [] i d h = absurd (omega arith)
some_section (s ∷ ss) zero d h = refl
some_section (s ∷ ss) (suc i) d h = some_section ss i d (omega arith)

next_section : (ss : List Section) (i : ℕ) (d : Section) → i < length (drop 1 ss)
    → section_at ss (i + 1) ≡ Some (get_or (drop 1 ss) i d)
next_section ss i d h =
    let n = length-drop 1 ss in
    let e : i + 1 ≡ 1 + i = omega arith in
    some_section ss (i + 1) d (omega arith) ∙ ap (λ (k : ℕ). Some (get_or ss k d)) e
    ∙ ap Some (sym (get_or-drop 1 ss i d))

inner : {x y : Section} → Some x ≡ Some y → x ≡ y
inner e = cc

not_none : {x : Section} → None ≡ Some x → ⊥
not_none e = cc

pub section_found : (ss : List Section) (i : ℕ) (d : Section) (s : code_section.Section) → i < length (drop 1 ss)
    → option_map section_view (Some s) ≡ section_at ss (i + 1) → section_view s ≡ get_or (drop 1 ss) i d
section_found ss i d s h e = inner (e ∙ next_section ss i d h)

pub section_lost : (ss : List Section) (i : ℕ) (r : Option code_section.Section) → i < length (drop 1 ss) → r ≡ None
    → option_map section_view r ≡ section_at ss (i + 1) → ⊥
section_lost ss i r h n e =
    not_none (ap (option_map section_view) (sym n) ∙ e ∙ next_section ss i (section 0 0 super) h)

pub every_at : {X : Type 0} (P : X → Type 0) (xs : List X) (i : ℕ) (d : X) → Every P xs → i < length xs
    → P (get_or xs i d)
every_at P [] i d h l = absurd (omega arith)
every_at P (x ∷ xs) zero d h l = h.0
every_at P (x ∷ xs) (suc i) d h l = every_at P xs i d h.1 (omega arith)
