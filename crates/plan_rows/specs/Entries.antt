-- `entries`: a tree's names in a row, each with the way to it: a directory comes before what it
-- holds, and lists are in the order of their names. `entries_of`: the same from lines that are put
-- in order. `Rise`: each entry comes before those after it. (This project's own.)
use Rattle.std.specs.Prelude.{◌≡◌, ℕ, true, if◌then◌else◌, List, [], ◌∷◌, ◌++◌, reverse, Option}
use Rattle.std.specs.Prelude.{Some, None}
use Rattle.record_forest.specs.Members.{Has, Pairs}
use Rattle.cramfs_format.specs.Tree.{precedes}
use Rattle.manifest.specs.declared.line.Line.{Line}
use Rattle.manifest.specs.Paths.{names_of}
use Rattle.manifest_tree.specs.Names.{Inode, Names, nothing, leaf, link, subdirectory}
use Rattle.manifest_tree.specs.Tree.{What, a_leaf, a_link, a_directory, what_by, file_at}

-- the names on a way, each behind a zero byte, which no name has; so ways are in the order of their
-- bytes
abbrev pub key_of : List (List ℕ) → List ℕ
key_of [] = []
key_of (n ∷ ns) = 0 ∷ (n ++ key_of ns)

-- what is named, and the way to it
pub record Entry : Type 0 where
  pub key : List ℕ
  pub what : What

abbrev pub entry : List ℕ → What → Entry
entry key what = record { key = key; what = what }

-- all entries of names, in the directory to which `key` is the way
abbrev pub entries : List ℕ → Names → List Entry
entries key nothing = []
entries key (leaf name i after) = entry (key ++ 0 ∷ name) (a_leaf i) ∷ entries key after
entries key (link name i after) = entry (key ++ 0 ∷ name) (a_link i) ∷ entries key after
entries key (subdirectory name i own after) =
    entry (key ++ 0 ∷ name) (a_directory i) ∷ (entries (key ++ 0 ∷ name) own ++ entries key after)

-- one more entry, in order
abbrev pub put_entry : Entry → List Entry → List Entry
put_entry e [] = e ∷ []
put_entry e (d ∷ ds) = if precedes e.key d.key then e ∷ d ∷ ds else d ∷ put_entry e ds

-- one more way, unless it is the way to the root
abbrev pub put_names : What → List (List ℕ) → List Entry → List Entry
put_names w [] es = es
put_names w (m ∷ ms) es = put_entry (entry (key_of (m ∷ ms)) w) es

abbrev pub put_line_entry : Line → Option Inode → Option (List (List ℕ)) → List Entry → List Entry
put_line_entry l (Some i) (Some names) es = put_names (what_by l.word i) names es
put_line_entry l (Some i) None es = es
put_line_entry l None names es = es

-- the entries of lines, put in order one by one; the lines are in reverse order, and `all` has all
-- lines
abbrev pub entries_by : List Line → List ℕ → List Line → List Entry
entries_by all sizes [] = []
entries_by all sizes (l ∷ ls) =
    put_line_entry l (file_at all sizes l.path) (names_of l.path) (entries_by all sizes ls)

-- the entries of all lines
abbrev pub entries_of : List Line → List ℕ → List Entry
entries_of lines sizes = entries_by lines sizes (reverse lines)

-- each entry comes before those after it
abbrev pub Rise : List Entry → Type 0
Rise es = Pairs (λ a b. precedes a.key b.key ≡ true) es

-- the entry is one of these
abbrev pub Holds : List Entry → Entry → Type 0
Holds es e = Has (λ d. d ≡ e) es
