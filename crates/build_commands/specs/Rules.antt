-- The rules of an image, as the GNU make manual has them in "Rule Syntax": the target, a colon, and
-- the prerequisites, each in a line of its own; and a rule without prerequisites for each source
-- and each directory, so that make goes on if one was removed ("Rules without Recipes or
-- Prerequisites"). (Which files are named is this project's own.)
use Rattle.std.specs.Prelude.{ℕ, true, false, List, [], ◌∷◌, ◌++◌, codes, flat_map}
use Rattle.build_commands.specs.Names.{spelled}

-- a prerequisite, in a line of its own behind a backslash
abbrev pub prerequisite : List ℕ → List ℕ
prerequisite name = codes " \\\n  " ++ spelled false name

-- a rule without prerequisites, behind an empty line
abbrev pub empty_rule : List ℕ → List ℕ
empty_rule name = 10 ∷ spelled true name ++ codes ":\n"

-- the rules of a target: the manifest, if there is one, then sources, then directories
abbrev pub rules : List ℕ → List (List ℕ) → List (List ℕ) → List (List ℕ) → List ℕ
rules target manifest sources directories =
    spelled true target ++ 58 ∷ [] ++ flat_map prerequisite manifest
    ++ flat_map prerequisite sources ++ flat_map prerequisite directories ++ 10 ∷ []
    ++ flat_map empty_rule sources ++ flat_map empty_rule directories
