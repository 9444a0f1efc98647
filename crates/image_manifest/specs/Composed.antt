-- `path_at`: the path of a member, composed of its directory's path and its own name. (This
-- project's own.)
use Rattle.std.specs.Prelude.{ℕ, zero, suc, List, [], ◌∷◌, ◌++◌, Option, Some, None}
use Rattle.rom_tree.specs.Names.{path_below}
use Rattle.image_manifest.specs.declared.naming.Member.{Member}

-- the way at an index; empty if there is none
abbrev pub way_at : List (List ℕ) → ℕ → List ℕ
way_at [] i = []
way_at (w ∷ ws) zero = w
way_at (w ∷ ws) (suc i) = way_at ws i

-- the way of a name behind these; the root has no parent, and its way is empty
abbrev pub way_with : List (List ℕ) → Option ℕ → List ℕ → List ℕ
way_with ws None name = []
way_with ws (Some i) name = path_below (way_at ws i) name

-- these ways, then those of the members
abbrev pub ways_behind : List (List ℕ) → List Member → List (List ℕ)
ways_behind ws [] = ws
ways_behind ws (x ∷ xs) = ways_behind (ws ++ way_with ws x.parent x.name.now ∷ []) xs

unfoldable pub ways_of : List Member → List (List ℕ)
ways_of ms = ways_behind [] ms

-- a way is a path, except that the root's path is a slash
abbrev pub path_by : List ℕ → List ℕ
path_by [] = 47 ∷ []
path_by (b ∷ bs) = b ∷ bs

-- the path of the member at an index
abbrev pub path_at : List Member → ℕ → List ℕ
path_at ms i = path_by (way_at (ways_of ms) i)
