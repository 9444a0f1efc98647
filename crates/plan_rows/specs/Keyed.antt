-- `Keyed`: rows with the ways to them, by which they are put in order. `put_keyed`: one more row.
-- (This project's own; a slash is the byte 47.)
use Rattle.std.specs.Prelude.{ℕ, ◌==◌, nat_lt, if◌then◌else◌, List, [], ◌∷◌, length, map, Option}
use Rattle.std.specs.Prelude.{Some, None, Vec}
use Rattle.std.specs.BTreeMap.{BTreeMap}
use Rattle.std.specs.Cmp.Lexicographic.{slice_cmp}
use Rattle.std.specs.List.{count_by}
use Rattle.std.specs.Ordering.{match_ordering, nat_cmp}
use Rattle.manifest.specs.declared.line.Line.{Line}
use Rattle.manifest_tree.specs.Names.{Inode}
use Rattle.manifest_tree.specs.Tree.{What, what_by}
use Rattle.plan_rows.specs.declared.row.Row as code_row
use Rattle.plan_rows.specs.Rows.{Row, row, row_view}

-- the way to what a path names: its bytes with zero bytes instead of slashes
abbrev pub zeroed : List ℕ → List ℕ
zeroed path = map (λ b. if b == 47 then 0 else b) path

-- the number of bytes b in a text
abbrev pub count : ℕ → List ℕ → ℕ
count b bs = count_by (λ x. x == b) bs

-- the part behind the last b of a text, or `all` if it has none
abbrev pub behind : ℕ → List ℕ → List ℕ → List ℕ
behind b all [] = all
behind b all (x ∷ xs) = if x == b then behind b xs xs else behind b all xs

-- the row of a path that names this
abbrev pub row_at : List ℕ → What → Row
row_at path w = row (count 47 path) (behind 47 path path) w

pub record Keyed : Type 0 where
  pub key : List ℕ
  pub row : Row

abbrev pub keyed : List ℕ → Row → Keyed
keyed key r = record { key = key; row = r }

-- the rows of a map with their keys, in order
abbrev pub listed : {A : Type 0} → BTreeMap (Vec ℕ A) code_row.Row → List Keyed
listed m = map (λ e. keyed e.0.items (row_view e.1)) m.entries

-- one more row, in order; it replaces a row with the same key
abbrev pub put_keyed : Keyed → List Keyed → List Keyed
put_keyed k [] = k ∷ []
put_keyed k (d ∷ ds) =
    match_ordering (slice_cmp nat_cmp k.key d.key) (k ∷ d ∷ ds) (keyed d.key k.row ∷ ds)
    (d ∷ put_keyed k ds)

abbrev pub put_some : Line → Option Inode → List Keyed → List Keyed
put_some l None ks = ks
put_some l (Some i) ks = put_keyed (keyed (zeroed l.path) (row_at l.path (what_by l.word i))) ks

-- one more row, if the path of a line leads to this file; the line of the root has none
abbrev pub put_file : Line → Option Inode → List Keyed → List Keyed
put_file l o ks = if nat_lt (length l.path) 2 then ks else put_some l o ks
