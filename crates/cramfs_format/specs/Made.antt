-- `made`: the tree of a checked image as a function of the accessible bytes b, a record's offset
-- and a number k of records. `IsCramfs`: the facts that a check has shown of the bytes.
-- `cursor_of`: the number of entries before a cursor. (This project's own.)
use Rattle.std.specs.Prelude.{◌≡◌, ℕ, zero, suc, ◌+◌, ◌^◌, ◌<◌, ◌≤◌, nat_lt, Bool, true, false}
use Rattle.std.specs.Prelude.{if◌then◌else◌, ◌==◌, List, length, Option, Some, None}
use Rattle.record_forest.specs.Forest.{Forest, none, at, count, stands_in}
use Rattle.rom_tree.specs.Tree.{Node, depth}
use Rattle.cramfs_format.specs.declared.order.Order.{Order}
use Rattle.cramfs_format.specs.Inode.{type_of, end_of, list_start, list_end, HasBody}
use Rattle.cramfs_format.specs.Refers.{root_place}
use Rattle.cramfs_format.specs.Tree.{node_of, entries_at}

-- from q on, a list that ends at e is in b: records one after the other, each with its own list
abbrev pub StandsAt : Order → List ℕ → ℕ → ℕ → Forest → Type 0
StandsAt o b e q none = e ≤ q
StandsAt o b e q (at p own after) =
    (q < e) × (p ≡ q) × StandsAt o b (list_end o b p) (list_start o b p) own
    × StandsAt o b e (end_of o b p) after

-- the list from q to the end e, to at most n records deep
abbrev pub grow : ℕ → Order → List ℕ → ℕ → ℕ → Forest
grow zero o b e q = none
grow (suc n) o b e q =
    if nat_lt q e then at q (grow n o b (list_end o b q) (list_start o b q))
    (grow n o b e (end_of o b q)) else none

-- the list of the directory at p
unfoldable pub list_at : Order → List ℕ → ℕ → ℕ → Forest
list_at o b k p = grow k o b (list_end o b p) (list_start o b p)

-- the node of the record at p
unfoldable pub made : Order → List ℕ → ℕ → ℕ → Node
made o b k p = node_of o b p (entries_at o b (list_at o b k p))

-- whether the list from q to e and all below it end within k records
abbrev pub ends_within : ℕ → Order → List ℕ → ℕ → ℕ → Bool
ends_within zero o b e q = if nat_lt q e then false else true
ends_within (suc k) o b e q =
    if nat_lt q e then (if ends_within k o b (list_end o b q) (list_start o b q)
    then ends_within k o b e (end_of o b q) else false) else true

-- the facts that are known of a record: it is among the bytes, and so is the body that it describes
pub record IsGood (o : Order) (b : List ℕ) (p : ℕ) : Type 0 where
  pub header : p + 12 ≤ length b
  pub name : end_of o b p ≤ length b
  pub body : HasBody o b p

-- the facts that a check has shown
pub record IsCramfs (o : Order) (b : List ℕ) (k : ℕ) : Type 0 where
  pub small : length b < 2 ^ 32
  pub long : 76 ≤ length b
  pub directory : type_of o b root_place ≡ 4
  pub root : HasBody o b root_place
  pub within : ends_within k o b (list_end o b root_place) (list_start o b root_place) ≡ true
  pub few : count (grow k o b (list_end o b root_place) (list_start o b root_place)) ≤ k
  pub good : (p : ℕ) → stands_in
      (grow k o b (list_end o b root_place) (list_start o b root_place)) p ≡ true
      → IsGood o b p
  pub shallow : depth (made o b k root_place) ≤ 64

-- one entry more
abbrev pub one_more : Option ℕ → Option ℕ
one_more None = None
one_more (Some i) = Some (suc i)

-- the number of entries before the record at q in a list that ends at e; from e on, q is the end
abbrev pub index_at : ℕ → Forest → ℕ → Option ℕ
index_at e none q = if nat_lt q e then None else Some 0
index_at e (at p own after) q = if p == q then Some 0 else one_more (index_at e after q)

-- a cursor is the offset of the next entry, and 0 at first
unfoldable pub cursor_of : Order → List ℕ → ℕ → ℕ → ℕ → Option ℕ
cursor_of o b k d c = if c == 0 then Some 0 else index_at (list_end o b d) (list_at o b k d) c
