-- Files that keep their paths are still in the order of their paths.
use Rattle.std.proofs.Common.{◌≡◌, ℕ, Less, List, [], ◌∷◌, filter, map, refl, sym, subst}
use Rattle.std.specs.Cmp.Lexicographic.{slice_cmp}
use Rattle.std.specs.Ordering.{nat_cmp}
use Rattle.build_commands.specs.Inventory.{path_of}
use Rattle.build_commands.specs.Overlay.{AreInOrder, IsBefore}
use Rattle.build_commands.specs.Rights.{changed, concerns, with_all, with_attributes}
use Rattle.build_commands.specs.declared.inventory.NamedFile.{NamedFile}
use Rattle.build_commands.specs.declared.rights.Change.{Change}

before_kept : (g : NamedFile → NamedFile) → ((f : NamedFile) → path_of (g f) ≡ path_of f) → (p : List ℕ)
    → (fs : List NamedFile) → IsBefore p fs → IsBefore p (map g fs)
before_kept g same p [] b = tt
before_kept g same p (f ∷ fs) b = subst (λ (q : List ℕ). slice_cmp nat_cmp p q ≡ Less) (sym (same f)) b

pub order_kept : (g : NamedFile → NamedFile) → ((f : NamedFile) → path_of (g f) ≡ path_of f)
    → (fs : List NamedFile) → AreInOrder fs → AreInOrder (map g fs)
order_kept g same [] o = tt
order_kept g same (f ∷ fs) o = (
  before_kept g same (path_of (g f)) fs (subst (λ (p : List ℕ). IsBefore p fs) (sym (same f)) o.0),
  order_kept g same fs o.1,
)

all_keep : (cs : List Change) (f : NamedFile) → path_of (with_all cs f) ≡ path_of f
all_keep [] f = refl
all_keep (c ∷ cs) f = all_keep cs (with_attributes c.attributes f)

-- the path of a file stays if its attributes are changed
pub changed_keeps : (found : List NamedFile) (cs : List Change) (f : NamedFile)
    → path_of (changed found cs f) ≡ path_of f
changed_keeps found cs f = all_keep (filter (concerns found f) cs) f
