-- `Member`: a member of a tree that is extracted. `AreMembers`: members that can be extracted.
-- Their paths are plain and distinct, and none leads through a link. (This project's own.)
use Rattle.std.specs.Prelude.{◌≡◌, ◌≢◌, ◌<◌, ℕ, List, [], get_or, length, Option, None}
use Rattle.tree_extract.specs.Paths.{IsPlain, LeadsThrough}
use Rattle.tree_extract.specs.declared.tree.Kind.{Kind}
use Rattle.tree_extract.specs.declared.tree.Kind.TheVariants.{File, Further, Symlink}
use Rattle.tree_extract.specs.declared.tree.Kind.TheVariants.{Nothing}
use Rattle.tree_extract.specs.declared.tree.Owner.{Owner}
use Rattle.tree_extract.specs.declared.tree.Rights.{Rights}

-- The path of a member, its kind, the contents of a file or the text of a link, and the rights that
-- it gets.
pub record Member : Type 0 where
  pub path : List ℕ
  pub kind : Kind
  pub bytes : List ℕ
  pub rights : Rights

-- the member at an index
abbrev pub member_at : List Member → ℕ → Member
member_at ms i = get_or ms i (record {
  path = [];
  kind = Nothing;
  bytes = [];
  rights = record { mode = 0; owner = None };
})

abbrev pub kind_at : List Member → ℕ → Kind
kind_at ms i = (member_at ms i).kind

abbrev pub path_at : List Member → ℕ → List ℕ
path_at ms i = (member_at ms i).path

abbrev pub bytes_at : List Member → ℕ → List ℕ
bytes_at ms i = (member_at ms i).bytes

abbrev pub rights_at : List Member → ℕ → Rights
rights_at ms i = (member_at ms i).rights

abbrev pub owner_at : List Member → ℕ → Option Owner
owner_at ms i = (rights_at ms i).owner

-- Members that can be extracted. The path of one that is made is plain and is that of no other
-- member. No path leads through a link. A further name is one of a member of the list.
pub record AreMembers (ms : List Member) : Type 0 where
  pub plain : (i : ℕ) → i < length ms → kind_at ms i ≢ Nothing → IsPlain (path_at ms i)
  pub distinct : (i j : ℕ) → i < length ms → j < length ms → path_at ms i ≡ path_at ms j → i ≡ j
  pub leaves : (i j : ℕ) → i < length ms → j < length ms → kind_at ms i ≡ Symlink
      → LeadsThrough (path_at ms i) (path_at ms j) → ⊥
  pub further : (i first : ℕ) → i < length ms → kind_at ms i ≡ Further first
      → (first < length ms) × (kind_at ms first ≡ File)
