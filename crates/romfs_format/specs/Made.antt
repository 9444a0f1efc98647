-- `made`: the tree of a checked image as a function of the accessible bytes b, the root's offset r
-- and a number k of records. `IsRomfs`: the facts that a check has shown of the bytes. `cursor_of`:
-- the number of entries before a cursor. (This project's own.)
use Rattle.std.specs.Prelude.{◌≡◌, ◌≢◌, ℕ, zero, suc, ◌-◌, ◌^◌, ◌<◌, ◌≤◌, nat_lt, Bool, true, false}
use Rattle.std.specs.Prelude.{if◌then◌else◌, ◌==◌, List, length, Option, Some, None}
use Rattle.romfs_format.specs.Record.{next_of, first_of, type_of, name_of, IsSound}
use Rattle.record_forest.specs.Forest.{Forest, none, at, count, stands_in}
use Rattle.romfs_format.specs.Refers.{heads_itself}
use Rattle.romfs_format.specs.Tree.{node_of, entries_at, led}
use Rattle.rom_tree.specs.Dots.{is_dots}
use Rattle.rom_tree.specs.Tree.{Node, depth}

-- the offset at which the root's list begins, without the root itself
unfoldable pub start_of : List ℕ → ℕ → ℕ
start_of b r = if heads_itself b r then next_of b r else first_of b r

-- from q on, a list is in b: q and then the next of each record, up to 0, each with its own list
abbrev pub StandsAt : List ℕ → ℕ → Forest → Type 0
StandsAt b q none = q ≡ 0
StandsAt b q (at p own after) =
    (q ≢ 0) × (p ≡ q) × StandsAt b (first_of b p) own × StandsAt b (next_of b p) after

-- the list from q on, to at most n records deep
abbrev pub grow : ℕ → List ℕ → ℕ → Forest
grow zero b q = none
grow (suc n) b q = if q == 0 then none else at q (grow n b (first_of b q)) (grow n b (next_of b q))

-- the offset at which the list of the directory at p begins
unfoldable pub begins : List ℕ → ℕ → ℕ → ℕ
begins b r p = if p == r then start_of b r else first_of b p

-- the list of the directory at p
unfoldable pub list_at : List ℕ → ℕ → ℕ → ℕ → Forest
list_at b r k p = grow k b (begins b r p)

-- the node of the record at p
unfoldable pub made : List ℕ → ℕ → ℕ → ℕ → Node
made b r k p = node_of b p (entries_at b (list_at b r k p))

-- whether the list at q and all below it end within k records
abbrev pub ends_within : ℕ → List ℕ → ℕ → Bool
ends_within zero b q = q == 0
ends_within (suc k) b q =
    if q == 0 then true else (if ends_within k b (first_of b q) then ends_within k b (next_of b q)
    else false)

-- the facts that are known of a record below the root
pub record IsGood (b : List ℕ) (r p : ℕ) : Type 0 where
  pub sound : IsSound b r p
  pub other : p ≢ r
  pub linked : is_dots (name_of b p) ≡ false → (n : ℕ) → n ≤ 8 → IsSound b r (led n b p)
  pub ends : is_dots (name_of b p) ≡ false → type_of b (led 8 b p) ≢ 0
  pub leaf : is_dots (name_of b p) ≡ false → type_of b p ≡ 0 → type_of b (led 8 b p) ≢ 1

-- the facts that a check has shown
pub record IsRomfs (b : List ℕ) (r k : ℕ) : Type 0 where
  pub small : length b < 2 ^ 32
  pub directory : type_of b r ≡ 1
  pub root : IsSound b r r
  pub within : ends_within k b (start_of b r) ≡ true
  pub few : count (grow k b (start_of b r)) ≤ k
  pub good : (p : ℕ) → stands_in (grow k b (start_of b r)) p ≡ true → IsGood b r p
  pub shallow : depth (made b r k r) ≤ 64

-- the index of the entry at q, or after it
abbrev pub bump : Bool → Option ℕ → Option ℕ
bump d None = None
bump d (Some i) = Some (if d then i else suc i)

-- the number of entries before the record at q in a list; 0 is its end
abbrev pub index_at : List ℕ → Forest → ℕ → Option ℕ
index_at b none q = if q == 0 then Some 0 else None
index_at b (at p own after) q =
    if p == q then Some 0 else bump (is_dots (name_of b p)) (index_at b after q)

unfoldable pub cursor_of : List ℕ → ℕ → ℕ → ℕ → ℕ → Option ℕ
cursor_of b r k d c =
    if c == 0 then Some 0 else (if nat_lt c (2 ^ 32) then None
    else index_at b (list_at b r k d) (c - 2 ^ 32))
