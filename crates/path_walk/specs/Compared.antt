-- A walk may have a budget of names, and then compares no more names than that. `names_compared`:
-- the number of names that a look-up of a path compares. `IsRefusedBy`: the error of a walk with a
-- budget. `AreTaken`, `AreTooMany`, `Leaves`: what a walk leaves of its budget. `AreTakenFrom`,
-- `AreTooManyFor`: the same of a purse, which holds a budget or is unlimited. (This project's own.)
--
-- A component that is looked up in a directory is compared with the names of the directory's
-- entries, in their order, up to the one that is equal, or with all of them. Dot, dot-dot, and a
-- component that is refused before it is looked up, are compared with no name. The components of
-- a link that is followed are looked up as those of the path.
use Rattle.std.specs.Prelude.{◌≡◌, ℕ, zero, suc, ◌+◌, ◌<◌, nat_lt, Bool, ◌&&◌, not, List, [], ◌∷◌}
use Rattle.std.specs.Prelude.{◌++◌, length, Result, Err, if◌then◌else◌}
use Rattle.std.specs.Str.{bytes_eq}
use Rattle.rom_tree.specs.Dots.{dot, dot_dot}
use Rattle.rom_tree.specs.Tree.{Node, Entries, no_entries, entry, is_directory, entries_of}
use Rattle.path_walk.specs.declared.error.WalkError.{WalkError}
use Rattle.path_walk.specs.declared.budget.Purse.{Purse}
use Rattle.path_walk.specs.declared.budget.Purse.TheVariants.{Unlimited, Limited}
use Rattle.path_walk.specs.declared.error.WithinError.{WithinError}
use Rattle.path_walk.specs.declared.error.WithinError.TheVariants.{Path, TooManyNames}
use Rattle.path_walk.specs.Components.{is_empty, begins_with_slash, components}
use Rattle.path_walk.specs.Resolution.{Namespace, Trail, Step, fails, goes, follows, step, at_root}
use Rattle.path_walk.specs.Resolution.{after_link, link_text_at}

-- the entries of a list up to the first with exactly this name, or all of them
abbrev pub entries_until : Entries → List ℕ → ℕ
entries_until no_entries name = 0
entries_until (entry n x es) name = if bytes_eq n name then 1 else suc (entries_until es name)

-- whether a component is looked up at a node: the node is a directory, and the component has at
-- most 255 bytes and is neither dot nor dot-dot
unfoldable pub is_looked_up : Node → List ℕ → Bool
is_looked_up x p =
    is_directory x && (not (nat_lt 255 (length p))
    && (not (bytes_eq p dot) && not (bytes_eq p dot_dot)))

-- the names with which a component is compared at a node
unfoldable pub compared_at : Node → List ℕ → ℕ
compared_at x p = if is_looked_up x p then entries_until (entries_of x) p else 0

module _ {F : Type 0} where
  -- the names that are compared after a component
  abbrev pub onward_compared : (Trail F → ℕ) → (F → ℕ) → Step F → ℕ
  onward_compared go link (fails e) = 0
  onward_compared go link (goes t) = go t
  onward_compared go link (follows x) = link x

  -- the names with which components are compared, with n links left (as `resolve`)
  unfoldable pub compared_by : Namespace F → Bool → ℕ → Trail F → List (List ℕ) → ℕ
  compared_by g follow n s [] = 0
  compared_by g follow zero s (p ∷ rest) =
      compared_at (g.node s.current) p
      + onward_compared (λ t. compared_by g follow zero t rest) (λ x. 0)
      (step g s p (is_empty rest && not follow))
  compared_by g follow (suc n) s (p ∷ rest) =
      compared_at (g.node s.current) p
      + onward_compared (λ t. compared_by g follow (suc n) t rest)
      (λ x. compared_by g follow n (after_link g s x) (components (link_text_at g x) ++ rest))
      (step g s p (is_empty rest && not follow))

  -- the names that a look-up of a path compares
  unfoldable pub names_compared : Namespace F → List ℕ → Bool → ℕ
  names_compared g path follow =
      if nat_lt 4095 (length path) then 0
      else if is_empty path then 0
      else if not (begins_with_slash path) then 0
      else compared_by g follow 40 (at_root g) (components path)

  -- a walk with a budget ends with this error: that of the path, or the one of the budget
  abbrev pub IsRefusedBy : Result F WalkError → WithinError → Type 0
  IsRefusedBy r (Path e) = r ≡ Err e
  IsRefusedBy r TooManyNames = Unit {0}

-- Of a budget, the names that are compared are taken; or there are more of them, and nothing is
-- left.
abbrev pub AreTaken : ℕ → ℕ → ℕ → Type 0
AreTaken old new n = new + n ≡ old

abbrev pub AreTooMany : ℕ → ℕ → ℕ → Type 0
AreTooMany old new n = (new ≡ 0) × (old < n)

abbrev pub Leaves : ℕ → ℕ → ℕ → WithinError → Type 0
Leaves old new n (Path e) = AreTaken old new n
Leaves old new n TooManyNames = AreTooMany old new n

-- The same of a purse. From an unlimited one nothing is taken, and there are never too many names.
abbrev pub names_left : Purse → ℕ
names_left Unlimited = 0
names_left (Limited n) = n

abbrev pub with_more : Purse → ℕ → Purse
with_more Unlimited n = Unlimited
with_more (Limited v) n = Limited (v + n)

abbrev pub AreTakenFrom : Purse → Purse → ℕ → Type 0
AreTakenFrom old new n = with_more new n ≡ old

abbrev pub AreTooManyFor : Purse → Purse → ℕ → Type 0
AreTooManyFor old new n = (b : ℕ) × (old ≡ Limited b) × (new ≡ Limited 0) × (b < n)
