-- The tree of a layout has the shape of its names.
use Rattle.manifest_tree.proofs.Alike.{Alike, then_alike}
use Rattle.std.proofs.Common.{◌≡◌, ℕ, ◌+◌, true, false, if◌then◌else◌, List, [], ◌∷◌, map, refl, sym, ap, subst, ◌∙◌}
use Rattle.std.proofs.Common.{inl, inr, Some}
use Rattle.std.proofs.lemmas.Bool.Decides.{eqb_tells}
use Rattle.std.specs.Str.{bytes_eq}
use Rattle.std.specs.List.{AllByRecursion as Every}
use Rattle.rom_tree.specs.Tree.{Node, Entries, no_entries, entries_of, body_entries, directory, regular, symlink, block}
use Rattle.rom_tree.specs.Tree.{character, socket, fifo}
use Rattle.rom_tree.specs.Image.{find_entry}
use Rattle.record_forest.proofs.Lists.{every_left, every_right}
use Rattle.romfs_format.specs.Record.{pad16, type_of}
use Rattle.romfs_format.specs.Tree.{node_of, places_at, kind_numbers}
use Rattle.rom_tree.proofs.ByKind.{by_kind_map, by_kind_directory, by_kind_rest}
use Rattle.manifest_tree.specs.Names.{Inode, Names, nothing, leaf, link, subdirectory}
use Rattle.romfs_layout.specs.Layout.{placed, place_with, place_of, leaf_end, header_end, ends, number_of}
use Rattle.manifest_tree.specs.Files.{Placed}
use Rattle.romfs_layout.specs.Wells.{AreWell, AreLinks}
use Rattle.manifest_tree.specs.Shape.{Named, find_name, node_under, file_under}
use Rattle.romfs_layout.proofs.Files.{IsAt, with_line}
use Rattle.romfs_layout.proofs.Entries.{made_of}

pub entries_one : (b : List ℕ) (p : ℕ) (es : Entries) → type_of b p ≡ 1 → entries_of (node_of b p es) ≡ es
unfolding node_of
entries_one b p es t =
    let ps = places_at b p in
    by_kind_map body_entries kind_numbers (type_of b p) (directory es) (regular ps)
    (symlink ps) block character socket fifo
    ∙ by_kind_directory kind_numbers (type_of b p) es no_entries no_entries no_entries no_entries no_entries
    no_entries t

entries_none : (b : List ℕ) (p : ℕ) → entries_of (node_of b p no_entries) ≡ no_entries
unfolding node_of
entries_none b p =
    let ps = places_at b p in
    let t = type_of b p in
    let e = by_kind_map body_entries kind_numbers t (directory no_entries) (regular ps)
    (symlink ps) block character socket fifo in
    elim (eqb_tells t 1) [
      | inl k ↦ e ∙ by_kind_directory kind_numbers t no_entries no_entries no_entries no_entries no_entries no_entries
          no_entries k.1
      | inr k ↦ e ∙ by_kind_rest kind_numbers t no_entries no_entries k.1
    ]

-- a file at its offset, and what else is known of the two
abbrev pub KnownAt : List ℕ → List (List ℕ) → (Placed → Type 0) → Placed → Type 0
KnownAt b cs Q x = IsAt b cs x.inode x.place × Q x

-- each further name is that of a file at its offset
abbrev pub LinksAt : List ℕ → List (List ℕ) → (Placed → Type 0) → (ℕ → ℕ) → Names → Type 0
LinksAt b cs Q at' nothing = Unit {0}
LinksAt b cs Q at' (leaf name i after) = LinksAt b cs Q at' after
LinksAt b cs Q at' (link name i after) =
    KnownAt b cs Q (record { inode = i; place = at' i.line }) × LinksAt b cs Q at' after
LinksAt b cs Q at' (subdirectory name i own after) = LinksAt b cs Q at' own × LinksAt b cs Q at' after

pub links_at : (b : List ℕ) (cs : List (List ℕ)) (Q : Placed → Type 0) (xs : List Placed) (n : Names)
    → AreLinks (map (λ (x : Placed). x.inode) xs) n → Every (KnownAt b cs Q) xs → LinksAt b cs Q (place_with xs) n
links_at b cs Q xs nothing l a = tt
links_at b cs Q xs (leaf name i after) l a = links_at b cs Q xs after l a
links_at b cs Q xs (link name i after) l a =
    (with_line (KnownAt b cs Q) xs i.line i a l.0, links_at b cs Q xs after l.1 a)
links_at b cs Q xs (subdirectory name i own after) l a = (links_at b cs Q xs own l.0 a, links_at b cs Q xs after l.1 a)

-- the node x shows the file and the names of m
pub record IsShown (b : List ℕ) (cs : List (List ℕ)) (Q : Placed → Type 0) (at' : ℕ → ℕ) (x : Node)
    (m : Named) : Type 0 where
  pub place : ℕ
  pub from : ℕ
  pub entries : Entries
  pub is : x ≡ node_of b place entries
  pub list : entries_of x ≡ made_of b at' from m.own
  pub known : KnownAt b cs Q (record { inode = m.inode; place = place })
  pub inner : Every (KnownAt b cs Q) (placed from m.own)
  pub links : LinksAt b cs Q at' m.own
  pub well : AreWell cs m.own

alone_shown : (b : List ℕ) (cs : List (List ℕ)) (Q : Placed → Type 0) (at' : ℕ → ℕ) (p : ℕ) (i : Inode)
    → KnownAt b cs Q (record { inode = i; place = p })
    → IsShown b cs Q at' (node_of b p no_entries) (record { inode = i; own = nothing })
alone_shown b cs Q at' p i k = record {
  place = p;
  from = 0;
  entries = no_entries;
  is = refl;
  list = entries_none b p;
  known = k;
  inner = tt;
  links = tt;
  well = tt;
}

pub find_alike : (b : List ℕ) (cs : List (List ℕ)) (Q : Placed → Type 0) (at' : ℕ → ℕ) (m : List ℕ) (from : ℕ)
    (n : Names)
    → AreWell cs n → Every (KnownAt b cs Q) (placed from n) → LinksAt b cs Q at' n
    → Alike (IsShown b cs Q at') (find_entry (made_of b at' from n) m) (find_name n m)
find_alike b cs Q at' m from nothing h k l = tt
find_alike b cs Q at' m from (leaf name i after) h k l =
    let es = made_of b at' (leaf_end from name i) after in
    let x = node_of b (place_of from name i) no_entries in
    elim (bytes_eq name m) as (λ t. Alike (IsShown b cs Q at') (if t then Some x else find_entry es m)
    (if t then Some (record { inode = i; own = nothing }) else find_name after m)) [
      | true ↦ alone_shown b cs Q at' (place_of from name i) i k.0
      | false ↦ find_alike b cs Q at' m (leaf_end from name i) after h.2 k.1 l
    ]
find_alike b cs Q at' m from (link name i after) h k l =
    let es = made_of b at' (header_end from name) after in
    let x = node_of b (at' i.line) no_entries in
    elim (bytes_eq name m) as (λ t. Alike (IsShown b cs Q at') (if t then Some x else find_entry es m)
    (if t then Some (record { inode = i; own = nothing }) else find_name after m)) [
      | true ↦ alone_shown b cs Q at' (at' i.line) i l.0
      | false ↦ find_alike b cs Q at' m (header_end from name) after h.2 k l.1
    ]
find_alike b cs Q at' m from (subdirectory name i own after) h k l =
    let p = pad16 from in
    let he = header_end from name in
    let q = ends (he + 64) own in
    let mine = made_of b at' (he + 64) own in
    let es = made_of b at' q after in
    let x = node_of b p mine in
    let inner = every_left (KnownAt b cs Q) (placed (he + 64) own) (placed q after) k.1 in
    let later = every_right (KnownAt b cs Q) (placed (he + 64) own) (placed q after) k.1 in
    elim (bytes_eq name m) as (λ t. Alike (IsShown b cs Q at') (if t then Some x else find_entry es m)
    (if t then Some (record { inode = i; own = own }) else find_name after m)) [
      | true ↦ record {
        place = p;
        from = he + 64;
        entries = mine;
        is = refl;
        list = entries_one b p mine (k.0.0.kind ∙ ap number_of h.1.kind);
        known =
            k.0;
        inner = inner;
        links = l.0;
        well = h.2;
      }
      | false ↦ find_alike b cs Q at' m q after h.3 later l.1
    ]

-- the node at the end of a path shows the file there
pub record IsEnd (b : List ℕ) (cs : List (List ℕ)) (Q : Placed → Type 0) (x : Node) (i : Inode) : Type 0 where
  pub place : ℕ
  pub entries : Entries
  pub is : x ≡ node_of b place entries
  pub known : KnownAt b cs Q (record { inode = i; place = place })

pub path_alike : (b : List ℕ) (cs : List (List ℕ)) (Q : Placed → Type 0) (at' : ℕ → ℕ) (q : List (List ℕ)) (x : Node)
    (m : Named)
    → IsShown b cs Q at' x m → Alike (IsEnd b cs Q) (node_under q x) (file_under q m)
path_alike b cs Q at' [] x m h = record { place = h.place; entries = h.entries; is = h.is; known = h.known }
path_alike b cs Q at' (n ∷ ns) x m h =
    let found = find_alike b cs Q at' n h.from m.own h.well h.inner h.links in
    let here : Alike (IsShown b cs Q at') (find_entry (entries_of x) n) (find_name m.own n) =
    subst (λ (es : Entries). Alike (IsShown b cs Q at') (find_entry es n) (find_name m.own n)) (sym h.list) found in
    then_alike (IsShown b cs Q at') (IsEnd b cs Q) (λ y. node_under ns y) (λ y. file_under ns y)
    (find_entry (entries_of x) n) (find_name m.own n) here (λ y k a. path_alike b cs Q at' ns y k a)
