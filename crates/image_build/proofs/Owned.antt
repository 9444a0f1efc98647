-- Names whose files have sources of their own: of each file its line.
use Rattle.std.proofs.Common.{◌≡◌, ◌≢◌, ℕ, suc, ◌+◌, ◌==◌, max, true, false, if◌then◌else◌, List, [], ◌∷◌, ◌++◌, map}
use Rattle.std.proofs.Common.{length, get_or, Some, inl, inr, refl, sym, ap, subst, ◌∙◌, arith, length-append}
use Rattle.std.specs.Option.{option_map}
use Rattle.std.specs.List.{AllByRecursion as Every}
use Rattle.rom_tree.specs.declared.types.Kind.{Kind}
use Rattle.rom_tree.specs.declared.types.Kind.TheVariants.{Directory, Regular, Symlink, Block, Character, Socket, Fifo}
use Rattle.record_forest.specs.Members.{Pairs}
use Rattle.record_forest.proofs.Lists.{every_map, pairs_map, every_left, every_right}
use Rattle.romfs_format.specs.Record.{pad16}
use Rattle.manifest_tree.specs.Names.{Fill, no_bytes, text, source, Inode, Names, nothing, leaf, link, subdirectory}
use Rattle.manifest_tree.specs.Names.{bytes_of}
use Rattle.manifest_tree.specs.Files.{files, height}
use Rattle.manifest_tree.specs.Lists.{IsFree, StandsIn}
use Rattle.romfs_layout.specs.Layout.{headers, leaf_end, header_end, ends, first_place, place_with, placed, place_of}
use Rattle.romfs_layout.specs.Layout.{data_align, root_at}
use Rattle.romfs_layout.specs.Wells.{FitsKind, IsFile, IsDirectory, AreWell, AreLinks, file_of}
use Rattle.romfs_layout.specs.Planned.{IsPlanned}

abbrev pub own_fill : ℕ → Fill → Fill
own_fill line no_bytes = no_bytes
own_fill line (text t) = text t
own_fill line (source k) = source line

abbrev pub own_file : Inode → Inode
own_file i = record {
  line = i.line;
  kind = i.kind;
  mode = i.mode;
  uid = i.uid;
  gid = i.gid;
  major = i.major;
  minor = i.minor;
  align = i.align;
  size = i.size;
  fill = own_fill i.line i.fill;
}

abbrev pub own_names : Names → Names
own_names nothing = nothing
own_names (leaf name i after) = leaf name (own_file i) (own_names after)
own_names (link name i after) = link name (own_file i) (own_names after)
own_names (subdirectory name i own after) = subdirectory name (own_file i) (own_names own) (own_names after)

-- They have the same offsets as the others.
pub ends_same : (from : ℕ) (n : Names) → ends from (own_names n) ≡ ends from n
unfolding place_of data_align
ends_same from nothing = refl
ends_same from (leaf name i after) = ends_same (leaf_end from name i) after
ends_same from (link name i after) = ends_same (header_end from name) after
ends_same from (subdirectory name i own after) =
    ap (λ (k : ℕ). ends k (own_names after)) (ends_same (header_end from name + 64) own)
    ∙ ends_same (ends (header_end from name + 64) own) after

pub first_same : (from : ℕ) (n : Names) → first_place from (own_names n) ≡ first_place from n
unfolding place_of data_align
first_same from nothing = refl
first_same from (leaf name i after) = refl
first_same from (link name i after) = refl
first_same from (subdirectory name i own after) = refl

pub files_same : (n : Names) → files (own_names n) ≡ map own_file (files n)
files_same nothing = refl
files_same (leaf name i after) = ap (λ (is : List Inode). own_file i ∷ is) (files_same after)
files_same (link name i after) = files_same after
files_same (subdirectory name i own after) =
    ap (λ (is : List Inode). own_file i ∷ is)
    (ap (λ (is : List Inode). is ++ files (own_names after)) (files_same own)
    ∙ ap (λ (is : List Inode). map own_file (files own) ++ is) (files_same after)
    ∙ map_join (files own) (files after))
  where
    map_join : (xs ys : List Inode) → map own_file xs ++ map own_file ys ≡ map own_file (xs ++ ys)
    map_join [] ys = refl
    map_join (x ∷ xs) ys = ap (λ (is : List Inode). own_file x ∷ is) (map_join xs ys)

height_same : (n : Names) → height (own_names n) ≡ height n
height_same nothing = refl
height_same (leaf name i after) = ap (λ (k : ℕ). max 1 k) (height_same after)
height_same (link name i after) = ap (λ (k : ℕ). max 1 k) (height_same after)
height_same (subdirectory name i own after) =
    ap (λ (k : ℕ). max (suc k) (height (own_names after))) (height_same own)
    ∙ ap (λ (k : ℕ). max (suc (height own)) k) (height_same after)

stands_same : (m : List ℕ) (n : Names) → StandsIn m (own_names n) → StandsIn m n
stands_same m nothing h = h
stands_same m (leaf name i after) (inl h) = inl h
stands_same m (leaf name i after) (inr h) = inr (stands_same m after h)
stands_same m (link name i after) (inl h) = inl h
stands_same m (link name i after) (inr h) = inr (stands_same m after h)
stands_same m (subdirectory name i own after) (inl h) = inl h
stands_same m (subdirectory name i own after) (inr h) = inr (stands_same m after h)

-- the contents of a file's own source are as long as the file
abbrev pub HasOwn : List (List ℕ) → Inode → Type 0
HasOwn cs i = (k : ℕ) → i.fill ≡ source k → length (get_or cs i.line []) ≡ i.size

kind_owned : (k : Kind) (i : Inode) → FitsKind k i → FitsKind k (own_file i)
kind_owned Directory i h = h
kind_owned Regular i h = h
kind_owned Symlink i h = h
kind_owned Block i h = (h.0, h.1, ap (own_fill i.line) h.2)
kind_owned Character i h = (h.0, h.1, ap (own_fill i.line) h.2)
kind_owned Socket i h = (h.0, h.1, ap (own_fill i.line) h.2)
kind_owned Fifo i h = (h.0, h.1, ap (own_fill i.line) h.2)

bytes_owned : (zs cs : List (List ℕ)) (line size : ℕ) (f : Fill) → length (bytes_of zs f) ≡ size
    → ((k : ℕ) → f ≡ source k → length (get_or cs line []) ≡ size) → length (bytes_of cs (own_fill line f)) ≡ size
bytes_owned zs cs line size no_bytes h o = h
bytes_owned zs cs line size (text t) h o = h
bytes_owned zs cs line size (source k) h o = o k refl

file_owned : (zs cs : List (List ℕ)) (i : Inode) → IsFile zs i → HasOwn cs i → IsFile cs (own_file i)
unfolding data_align
file_owned zs cs i h o = record {
  kind = kind_owned i.kind i h.kind;
  mode = h.mode;
  owner = h.owner;
  bytes = bytes_owned zs cs i.line i.size i.fill h.bytes o;
  sixteens = h.sixteens;
  some = h.some;
  aligned = h.aligned;
  times = h.times;
  of_align = h.of_align;
}

directory_owned : (i : Inode) → IsDirectory i → IsDirectory (own_file i)
directory_owned i h =
    record { kind = h.kind; mode = h.mode; owner = h.owner; numbers = h.numbers; bytes = ap (own_fill i.line) h.bytes }

free_owned : (name : List ℕ) (n : Names) → IsFree name n → IsFree name (own_names n)
free_owned name n h = record { written = h.written; no_dots = h.no_dots; alone = λ s. h.alone (stands_same name n s) }

pub found_has : (P : Inode → Type 0) (all : List Inode) (line : ℕ) (i : Inode) → Every P all → file_of all line ≡ Some i
    → P i
found_has P [] line i h e = absurd (cc)
found_has P (x ∷ xs) line i h e =
    elim (x.line == line) as (λ t. (if t then Some x else file_of xs line) ≡ Some i → P i) [
      | true ↦ λ g. let z : x ≡ i = cc in subst P z h.0
      | false ↦ λ g. found_has P xs line i h.1 g
    ] e

module _ (zs cs : List (List ℕ)) (all : List Inode) (have : Every (HasOwn cs) all) where
  well_owned : (n : Names) → AreWell zs n → Every (HasOwn cs) (files n) → AreLinks all n → AreWell cs (own_names n)
  well_owned nothing w h l = tt
  well_owned (leaf name i after) w h l =
      (free_owned name after w.0, file_owned zs cs i w.1 h.0, well_owned after w.2 h.1 l)
  well_owned (link name i after) w h l = (
    free_owned name after w.0,
    file_owned zs cs i w.1 (found_has (HasOwn cs) all i.line i have l.0),
    well_owned after w.2 h l.1,
  )
  well_owned (subdirectory name i own after) w h l =
      let left = every_left (HasOwn cs) (files own) (files after) h.1 in
      let right = every_right (HasOwn cs) (files own) (files after) h.1 in
      (free_owned name after w.0, directory_owned i w.1, well_owned own w.2 left l.0, well_owned after w.3 right l.1)

found_owned : (all : List Inode) (line : ℕ) → file_of (map own_file all) line ≡ option_map own_file (file_of all line)
found_owned [] line = refl
found_owned (x ∷ xs) line = elim (x.line == line) as
    (λ t. (if t then Some (own_file x) else file_of (map own_file xs) line)
    ≡ option_map own_file (if t then Some x else file_of xs line)) [
      | true ↦ refl
      | false ↦ found_owned xs line
    ]

links_owned : (all : List Inode) (n : Names) → AreLinks all n → AreLinks (map own_file all) (own_names n)
links_owned all nothing l = tt
links_owned all (leaf name i after) l = links_owned all after l
links_owned all (link name i after) l =
    (found_owned all i.line ∙ ap (option_map own_file) l.0, links_owned all after l.1)
links_owned all (subdirectory name i own after) l = (links_owned all own l.0, links_owned all after l.1)

count_same : (at to : ℕ → ℕ) (dir root from up : ℕ) (n : Names)
    → length (headers at dir from (own_names n)) ≡ length (headers to root up n)
count_same at to dir root from up nothing = refl
count_same at to dir root from up (leaf name i after) =
    let c = count_same at to dir root (leaf_end from name (own_file i)) (leaf_end up name i) after in omega (arith, c)
count_same at to dir root from up (link name i after) =
    let c = count_same at to dir root (header_end from name) (header_end up name) after in omega (arith, c)
count_same at to dir root from up (subdirectory name i own after) =
    let h = header_end from name in
    let g = header_end up name in
    let q = ends (h + 64) (own_names own) in
    let p = ends (g + 64) own in
    let c = count_same at to (pad16 from) (pad16 up) (h + 64) (g + 64) own in
    let d = count_same at to dir root q p after in
    omega (
      arith,
      c,
      d,
      length-append (headers at (pad16 from) (h + 64) (own_names own))
          (headers at dir q (own_names after)),
      length-append (headers to (pad16 up) (g + 64) own) (headers to root p after),
    )

pub planned_owned : (volume : List ℕ) (root : Inode) (n : Names) (zs cs : List (List ℕ)) → IsPlanned volume root n zs
    → Every (HasOwn cs) (files n) → IsPlanned volume (own_file root) (own_names n) cs
planned_owned volume root n zs cs h have =
    let r = root_at volume in
    let e = ends_same (r + 64) n in
    let room = h.room in
    let few = h.few in
    let c = count_same (place_with (placed (r + 64) (own_names n))) (place_with (placed (r + 64) n)) r r (r + 64)
    (r + 64) n in
    let tall = height_same n in
    let shallow = h.shallow in
    let R : Inode → Inode → Type 0 = λ i j. i.line ≢ j.line in
    let fs = files_same n in
    record {
      short = h.short;
      no_zero = h.no_zero;
      directory = directory_owned root h.directory;
      well = well_owned zs cs (files n) have n h.well have h.links;
      lines = subst (λ (is : List Inode). Pairs R (own_file root ∷ is)) (sym fs)
          (every_map own_file (R (own_file root)) (files n) h.lines.0, pairs_map own_file R (files n) h.lines.1);
      links = subst (λ (is : List Inode). AreLinks is (own_names n)) (sym fs) (links_owned (files n) n h.links);
      room = omega (arith, e, room);
      few = omega (arith, c, few);
      shallow = omega (arith, tall, shallow);
    }
