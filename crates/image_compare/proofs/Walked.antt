-- The texts of the names that a walk has given, and of those that are to come.
use Rattle.std.proofs.Common.{◌≡◌, ℕ, ◌∷◌, [], ◌++◌, List, sym, ap, ◌∙◌, append_assoc, append-nil}
use Rattle.std.specs.List.{flat_map}
use Rattle.rom_tree.specs.Names.{Name}

-- the text so far, that of the name that was given, and the rest
pub more_texts : (text : Name → List ℕ) (done all : List ℕ) (given : Name) (old new : List Name) → old ≡ given ∷ new
    → done ++ flat_map text old ≡ all → (done ++ text given) ++ flat_map text new ≡ all
more_texts text done all given old new e h =
    append_assoc done (text given) (flat_map text new)
    ∙ (ap (λ (v : List ℕ). done ++ v) (sym (ap (flat_map text) e)) ∙ h)

-- nothing is left
pub last_texts : (text : Name → List ℕ) (done all : List ℕ) (old : List Name) → old ≡ []
    → done ++ flat_map text old ≡ all → done ≡ all
last_texts text done all old e h =
    sym (append-nil done) ∙ (ap (λ (v : List ℕ). done ++ v) (sym (ap (flat_map text) e)) ∙ h)
