-- `kinds_chosen`: what is made of the members of a tree if only some of them are chosen: nothing of
-- the others. The first chosen name of a file is the file, and each other one a further name of it.
-- `with_kinds`: members of which this is made. (This project's own.)
use Rattle.std.specs.Prelude.{◌≡◌, ◌<◌, ℕ, zero, suc, ◌==◌, ◌&&◌, if◌then◌else◌, Bool, true, false}
use Rattle.std.specs.Prelude.{List, [], ◌∷◌, ◌++◌, map, get_or, length, Option, Some, None}
use Rattle.tree_extract.specs.Extracted.{is_file}
use Rattle.tree_extract.specs.Members.{Member, kind_at}
use Rattle.tree_extract.specs.declared.tree.Kind.{Kind}
use Rattle.tree_extract.specs.declared.tree.Kind.TheVariants.{Directory, File, Further, Symlink}
use Rattle.tree_extract.specs.declared.tree.Kind.TheVariants.{Nothing}

-- the kind at an index
abbrev pub kind_in : List Kind → ℕ → Kind
kind_in ks i = get_or ks i Directory

-- whether the member at an index is chosen
abbrev pub is_chosen : List Bool → ℕ → Bool
is_chosen cs i = get_or cs i false

-- the index of the first name of the file that the member at index i is a name of
abbrev pub file_by : Kind → ℕ → Option ℕ
file_by Directory i = None
file_by File i = Some i
file_by (Further first) i = Some first
file_by Symlink i = None
file_by Nothing i = None

abbrev pub is_file_at : ℕ → Option ℕ → Bool
is_file_at file None = false
is_file_at file (Some f) = f == file

-- the member at index i is chosen, and is a name of this file
abbrev pub names : List Kind → List Bool → ℕ → ℕ → Bool
names ks cs file i = is_chosen cs i && is_file_at file (file_by (kind_in ks i) i)

abbrev pub or_at : Option ℕ → Bool → ℕ → Option ℕ
or_at None is_named i = if is_named then Some i else None
or_at (Some first) is_named i = Some first

-- the first of the members below index n that is chosen and is a name of this file
abbrev pub first_chosen : List Kind → List Bool → ℕ → ℕ → Option ℕ
first_chosen ks cs file zero = None
first_chosen ks cs file (suc n) = or_at (first_chosen ks cs file n) (names ks cs file n) n

-- what is made of a name of a file, by the first name of it that is made
abbrev pub name_by : Option ℕ → Kind
name_by None = File
name_by (Some first) = Further first

abbrev pub kind_by : List Kind → List Bool → ℕ → Kind → Kind
kind_by ks cs i Directory = Directory
kind_by ks cs i File = name_by (first_chosen ks cs i i)
kind_by ks cs i (Further first) = name_by (first_chosen ks cs first i)
kind_by ks cs i Symlink = Symlink
kind_by ks cs i Nothing = Nothing

-- the same by the first names of the files, which are noted by their indices
abbrev pub kind_noted : List (Option ℕ) → ℕ → Kind → Kind
kind_noted firsts i Directory = Directory
kind_noted firsts i File = name_by (get_or firsts i None)
kind_noted firsts i (Further first) = name_by (get_or firsts first None)
kind_noted firsts i Symlink = Symlink
kind_noted firsts i Nothing = Nothing

abbrev pub kind_after : Bool → List (Option ℕ) → ℕ → Kind → Kind
kind_after is_chosen firsts i kind = if is_chosen then kind_noted firsts i kind else Nothing

-- what is made of the member at index i
abbrev pub kind_chosen : List Kind → List Bool → ℕ → Kind
kind_chosen ks cs i = if is_chosen cs i then kind_by ks cs i (kind_in ks i) else Nothing

abbrev pub kinds_below : List Kind → List Bool → ℕ → List Kind
kinds_below ks cs zero = []
kinds_below ks cs (suc n) = kinds_below ks cs n ++ kind_chosen ks cs n ∷ []

abbrev pub kinds_chosen : List Kind → List Bool → List Kind
kinds_chosen ks cs = kinds_below ks cs (length ks)

abbrev pub kinds_of : List Member → List Kind
kinds_of ms = map (λ m. m.kind) ms

abbrev pub with_kind : Member → Kind → Member
with_kind m k = record { path = m.path; kind = k; bytes = m.bytes; rights = m.rights }

abbrev pub with_kinds : List Member → List Kind → List Member
with_kinds [] ks = []
with_kinds (m ∷ ms) [] = with_kind m Nothing ∷ with_kinds ms []
with_kinds (m ∷ ms) (k ∷ ks) = with_kind m k ∷ with_kinds ms ks

-- Nothing is made of what nothing is made of, a link is a link, a name of a file one of a file, and
-- a further name one of a file that is made.
pub record IsFit (ms : List Member) (ks : List Kind) : Type 0 where
  pub many : length ks ≡ length ms
  pub nothing : (i : ℕ) → i < length ms → kind_at ms i ≡ Nothing → kind_in ks i ≡ Nothing
  pub link : (i : ℕ) → i < length ms → kind_in ks i ≡ Symlink → kind_at ms i ≡ Symlink
  pub file : (i : ℕ) → i < length ms → is_file (kind_in ks i) ≡ true
      → is_file (kind_at ms i) ≡ true
  pub further : (i first : ℕ) → i < length ms → kind_in ks i ≡ Further first
      → (first < length ms) × (kind_in ks first ≡ File)

-- This is made of all members, or of those that are chosen.
pub data IsChoice (ms : List Member) (ks : List Kind) : Type 0 where
  all : ks ≡ kinds_of ms → IsChoice ms ks
  some : (cs : List Bool) → ks ≡ kinds_chosen (kinds_of ms) cs → IsChoice ms ks
