-- The texts of the names that a walk has given, and of those that are to come.
use Rattle.std.proofs.Common.{◌≡◌, ℕ, ◌∷◌, [], ◌++◌, List, sym, ap, ◌∙◌, append_assoc, append-nil, subst}
use Rattle.std.proofs.Common.{Option, Result, Ok, Err}
use Rattle.std.specs.Io.KnownBytes.{Appends}
use Rattle.rom_fields.specs.Failures.{Counts}
use Rattle.rom_fields.specs.Written.{WritesText}
use Rattle.rom_fields.proofs.Joins.{appends_join, front_after}
use Rattle.std.specs.List.{flat_map}
use Rattle.rom_tree.specs.Names.{Name}

-- the text so far, that of the name that was given, and the rest
pub more_texts : (text : Name → List ℕ) (done all : List ℕ) (given : Name) (old new : List Name) → old ≡ given ∷ new
    → done ++ flat_map text old ≡ all → (done ++ text given) ++ flat_map text new ≡ all
more_texts text done all given old new e h =
    append_assoc done (text given) (flat_map text new)
    ∙ (ap (λ (v : List ℕ). done ++ v) (sym (ap (flat_map text) e)) ∙ h)

-- nothing is left
pub last_texts : (text : Name → List ℕ) (done all : List ℕ) (old : List Name) → old ≡ []
    → done ++ flat_map text old ≡ all → done ≡ all
last_texts text done all old e h =
    sym (append-nil done) ∙ (ap (λ (v : List ℕ). done ++ v) (sym (ap (flat_map text) e)) ∙ h)

-- a text that was written, and then another
pub writes_after : {T E : Type 0} (a b c : Option (List ℕ)) (s t : List ℕ) (r : Result T E) → Appends a b s
    → WritesText b c r t → WritesText a c r (s ++ t)
writes_after a b c s t (Ok v) h k = appends_join a b c s t h k
writes_after a b c s t (Err e) h k = front_after a b c s t h k

pub counts_after : {T E : Type 0} (a b c : ℕ) (r : Result T E) → b ≡ a → Counts b c r → Counts a c r
counts_after a b c r e h = subst (λ (n : ℕ). Counts n c r) e h
