-- The names that lead to each entry of a scanned tree.
use Rattle.std.proofs.Common.{◌≡◌, ◌⊎◌, inr, ℕ, zero, Bool, true, false, List, [], ◌∷◌, ◌++◌, refl, sym}
use Rattle.std.proofs.Common.{ap, ◌∙◌, append_assoc, append-nil, arith}
use Rattle.std.proofs.lemmas.List.Elements.{All-nil, All-cons, All-append, Contains-append_left, Contains-append_right}
use Rattle.std.specs.List.{All, Contains}
use Rattle.manifest.specs.Paths.{path_of}
use Rattle.image_manifest.specs.Describable.{IsLawfulName}
use Rattle.image_manifest.proofs.Lawful.{AreLawful, lawful_push}
use Rattle.directory_walk.specs.Trees.{Tree, Nil, Leaf, Branch, Name, name, join, all_below}
use Rattle.build_commands.specs.Scans.{HasLawfulNames}

pub path_push : (ns : List (List ℕ)) (n : List ℕ) → path_of (ns ++ n ∷ []) ≡ path_of ns ++ 47 ∷ n
path_push [] n = ap (λ (v : List ℕ). 47 ∷ v) (append-nil n)
path_push (k ∷ ns) n = ap (λ (v : List ℕ). 47 ∷ (k ++ v)) (path_push ns n)
    ∙ ap (λ (v : List ℕ). 47 ∷ v) (sym (append_assoc k (path_of ns) (47 ∷ n)))

-- the scanned directory, or an entry that is a directory with these names
abbrev pub IsParent : List ℕ → List (Name Bool) → List (List ℕ) → Type 0
IsParent p all way =
    (way ≡ []) ⊎ ((d : Name Bool) × Contains all d × (d.path ≡ p ++ path_of way) × (d.known ≡ true))

-- the names on the way to an entry below the directory of path p; its directory is among the entries
pub record HasWay (p : List ℕ) (all : List (Name Bool)) (e : Name Bool) : Type 0 where
  pub way : List (List ℕ)
  pub last : List ℕ
  pub lawful : AreLawful way
  pub valid : IsLawfulName last
  pub path : e.path ≡ p ++ path_of (way ++ last ∷ [])
  pub parent : IsParent p all way

joined : (p q : List ℕ) (way : List (List ℕ)) (n : List ℕ) → q ≡ p ++ path_of way
    → join q n ≡ p ++ path_of (way ++ n ∷ [])
joined p q way n e =
    ap (λ (v : List ℕ). v ++ 47 ∷ n) e ∙ append_assoc p (path_of way) (47 ∷ n)
    ∙ ap (λ (v : List ℕ). p ++ v) (sym (path_push way n))

pub ways : (p q : List ℕ) (all : List (Name Bool)) (way : List (List ℕ)) (t : Tree Bool) → q ≡ p ++ path_of way
    → AreLawful way → HasLawfulNames t → IsParent p all way
    → ((d : Name Bool) → Contains (all_below q t) d → Contains all d) → All (HasWay p all) (all_below q t)
ways p q all way Nil e l h parent inside = All-nil (HasWay p all)
ways p q all way (Leaf n known more) e l h parent inside =
    let head : Name Bool = name (join q n) known false in
    All-cons (HasWay p all) head (all_below q more)
    (record { way = way; last = n; lawful = l; valid = h.0; path = joined p q way n e; parent = parent })
    (ways p q all way more e l h.2 parent
    (λ d c. inside d (Contains-append_right (head ∷ []) (all_below q more) d c)))
ways p q all way (Branch n known inner more) e l h parent inside =
    let head : Name Bool = name (join q n) known true in
    let deeper : List (Name Bool) = all_below (join q n) inner in
    let later : List (Name Bool) = all_below q more in
    All-cons (HasWay p all) head (deeper ++ later)
    (record { way = way; last = n; lawful = l; valid = h.0; path = joined p q way n e; parent = parent })
    (All-append (HasWay p all) deeper later
    (ways p (join q n) all (way ++ n ∷ []) inner (joined p q way n e) (lawful_push way n l h.0) h.3
    (inr (head, inside head (zero, omega arith, refl), joined p q way n e, h.2))
    (λ d c. inside d
    (Contains-append_right (head ∷ []) (deeper ++ later) d (Contains-append_left deeper later d c))))
    (ways p q all way more e l h.4 parent
    (λ d c. inside d
    (Contains-append_right (head ∷ []) (deeper ++ later) d (Contains-append_right deeper later d c)))))
