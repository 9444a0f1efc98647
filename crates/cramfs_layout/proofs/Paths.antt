-- The tree of a layout has the shape of its names.
use Rattle.std.proofs.Common.{◌≡◌, ℕ, ◌+◌, true, false, if◌then◌else◌, List, [], ◌∷◌, ◌++◌, map, refl, sym, ap, subst}
use Rattle.std.proofs.Common.{◌∙◌, inl, inr, Some}
use Rattle.std.proofs.lemmas.Bool.Decides.{eqb_tells}
use Rattle.std.proofs.lemmas.List.{map-append}
use Rattle.std.specs.Str.{bytes_eq}
use Rattle.std.specs.List.{AllByRecursion as Every}
use Rattle.rom_tree.specs.Tree.{Node, Entries, no_entries, entries_of, body_entries, directory, regular, symlink, block}
use Rattle.rom_tree.specs.Tree.{character, socket, fifo}
use Rattle.rom_tree.specs.Image.{find_entry}
use Rattle.record_forest.specs.declared.reference.Reference.{Reference}
use Rattle.record_forest.specs.declared.reference.Row.{Row}
use Rattle.record_forest.specs.Forest.{rows}
use Rattle.record_forest.proofs.Lists.{every_left, every_right}
use Rattle.cramfs_format.specs.declared.order.Order.{Order}
use Rattle.cramfs_format.specs.Inode.{type_of}
use Rattle.cramfs_format.specs.Refers.{references}
use Rattle.cramfs_format.specs.Tree.{node_of, places_at, kind_numbers, entries_at}
use Rattle.rom_tree.proofs.ByKind.{by_kind_map, by_kind_directory, by_kind_rest}
use Rattle.manifest_tree.specs.Names.{Inode, Names, nothing, leaf, link, subdirectory, bytes_of}
use Rattle.manifest_tree.specs.Files.{Placed}
use Rattle.manifest_tree.specs.Files.{files}
use Rattle.manifest_tree.specs.Shape.{Named, find_name, node_under, file_under}
use Rattle.manifest_tree.proofs.Alike.{Alike, then_alike}
use Rattle.cramfs_layout.specs.Layout.{pad4, type_bits, entry_len, State, after_file, after_list, after_names}
use Rattle.cramfs_layout.specs.Wells.{IsFile, IsDirectory, AreWell, IsStored, AllRead}
use Rattle.cramfs_layout.specs.Forest.{spots}
use Rattle.cramfs_layout.proofs.Values.{IsAt}

pub entries_one : (o : Order) (b : List ℕ) (p : ℕ) (es : Entries) → type_of o b p ≡ 4
    → entries_of (node_of o b p es) ≡ es
unfolding node_of
entries_one o b p es t =
    let ps = places_at o b p in
    by_kind_map body_entries kind_numbers (type_of o b p) (directory es) (regular ps)
    (symlink ps) block character socket fifo
    ∙ by_kind_directory kind_numbers (type_of o b p) es no_entries no_entries no_entries no_entries no_entries
    no_entries t

entries_none : (o : Order) (b : List ℕ) (p : ℕ) → entries_of (node_of o b p no_entries) ≡ no_entries
unfolding node_of
entries_none o b p =
    let ps = places_at o b p in
    let t = type_of o b p in
    let e = by_kind_map body_entries kind_numbers t (directory no_entries) (regular ps)
    (symlink ps) block character socket fifo in
    elim (eqb_tells t 4) [
      | inl k ↦ e ∙ by_kind_directory kind_numbers t no_entries no_entries no_entries no_entries no_entries no_entries
          no_entries k.1
      | inr k ↦ e ∙ by_kind_rest kind_numbers t no_entries no_entries k.1
    ]

-- each file and the offset of its entry
abbrev pub placed : ℕ → State → Names → List Placed
placed l s nothing = []
placed l s (leaf name i rest) = record { inode = i; place = l } ∷ placed (l + entry_len name) (after_file s i) rest
placed l s (link name i rest) = placed (l + entry_len name) (after_file s i) rest
placed l s (subdirectory name i own rest) =
    record { inode = i; place = l } ∷ placed (pad4 s.at) (after_list s own) own
    ++ placed (l + entry_len name) (after_names (after_list s own) own) rest

pub placed_files : (l : ℕ) (s : State) (n : Names) → map (λ (x : Placed). x.inode) (placed l s n) ≡ files n
placed_files l s nothing = refl
placed_files l s (leaf name i rest) =
    ap (λ (is : List Inode). i ∷ is) (placed_files (l + entry_len name) (after_file s i) rest)
placed_files l s (link name i rest) = placed_files (l + entry_len name) (after_file s i) rest
placed_files l s (subdirectory name i own rest) =
    let s1 = after_list s own in
    let s' = after_names s1 own in
    ap (λ (is : List Inode). i ∷ is) (map-append (λ (x : Placed). x.inode) (placed (pad4 s.at) s1 own)
    (placed (l + entry_len name) s' rest)
    ∙ ap (λ (is : List Inode). is ++ map (λ (x : Placed). x.inode) (placed (l + entry_len name) s' rest))
    (placed_files (pad4 s.at) s1 own)
    ∙ ap (λ (is : List Inode). files own ++ is) (placed_files (l + entry_len name) s' rest))

pub placed_rows : (o : Order) (b : List ℕ) (cs : List (List ℕ)) (x : Reference) (d up depth l : ℕ) (s : State)
    (n : Names)
    → AreWell cs n
    → map (λ (y : Placed). y.place) (placed l s n)
    ≡ map (λ (y : Row). y.offset) (rows (references o b) x d up depth (spots l s n))
placed_rows o b cs x d up depth l s nothing h = refl
placed_rows o b cs x d up depth l s (leaf name i rest) h =
    ap (λ (ys : List ℕ). l ∷ ys) (placed_rows o b cs ((references o b).after x) d up depth (l + entry_len name)
    (after_file s i) rest h.2)
placed_rows o b cs x d up depth l s (link name i rest) h = absurd h
placed_rows o b cs x d up depth l s (subdirectory name i own rest) h =
    let g = references o b in
    let s1 = after_list s own in
    let s' = after_names s1 own in
    let mine = rows g (g.own x) l d (depth + 1) (spots (pad4 s.at) s1 own) in
    let theirs = rows g (g.after x) d up depth (spots (l + entry_len name) s' rest) in
    ap (λ (ys : List ℕ). l ∷ ys) (map-append (λ (y : Placed). y.place) (placed (pad4 s.at) s1 own)
    (placed (l + entry_len name) s' rest)
    ∙ ap (λ (ys : List ℕ). ys ++ map (λ (y : Placed). y.place) (placed (l + entry_len name) s' rest))
    (placed_rows o b cs (g.own x) l d (depth + 1) (pad4 s.at) s1 own h.2)
    ∙ ap (λ (ys : List ℕ). map (λ (y : Row). y.offset) mine ++ ys)
    (placed_rows o b cs (g.after x) d up depth (l + entry_len name) s' rest h.3)
    ∙ sym (map-append (λ (y : Row). y.offset) mine theirs))

-- a file that is one, or a directory
pub data IsGood (cs : List (List ℕ)) (i : Inode) : Type 0 where
  a_file : IsFile cs i → IsGood cs i
  a_directory : {own : Names} → IsDirectory i own → IsGood cs i

-- the node x shows the file of m and its names
pub record IsShown (o : Order) (b : List ℕ) (cs : List (List ℕ)) (high : ℕ) (Q : Placed → Type 0) (x : Node)
    (m : Named) : Type 0 where
  pub place : ℕ
  pub l : ℕ
  pub s : State
  pub entries : Entries
  pub is : x ≡ node_of o b place entries
  pub list : entries_of x ≡ entries_at o b (spots l s m.own)
  pub good : IsGood cs m.inode
  pub here : IsAt o b cs high m.inode place
  pub known : Q (record { inode = m.inode; place = place })
  pub reads : AllRead o b cs high l s m.own
  pub inner : Every Q (placed l s m.own)
  pub well : AreWell cs m.own

pub record IsEnd (o : Order) (b : List ℕ) (cs : List (List ℕ)) (high : ℕ) (Q : Placed → Type 0) (x : Node)
    (i : Inode) : Type 0 where
  pub place : ℕ
  pub entries : Entries
  pub is : x ≡ node_of o b place entries
  pub good : IsGood cs i
  pub here : IsAt o b cs high i place
  pub known : Q (record { inode = i; place = place })

pub find_alike : (o : Order) (b : List ℕ) (cs : List (List ℕ)) (high : ℕ) (Q : Placed → Type 0) (m : List ℕ) (l : ℕ)
    (s : State) (n : Names)
    → AreWell cs n → AllRead o b cs high l s n → Every Q (placed l s n)
    → Alike (IsShown o b cs high Q) (find_entry (entries_at o b (spots l s n)) m) (find_name n m)
find_alike o b cs high Q m l s nothing h r q = tt
find_alike o b cs high Q m l s (leaf name i rest) h r q =
    let es = entries_at o b (spots (l + entry_len name) (after_file s i) rest) in
    let x = node_of o b l no_entries in
    let go : Alike (IsShown o b cs high Q) (if bytes_eq name m then Some x else find_entry es m)
    (if bytes_eq name m then Some (record { inode = i; own = nothing }) else find_name rest m) =
    elim (bytes_eq name m) as (λ t. Alike (IsShown o b cs high Q) (if t then Some x else find_entry es m)
    (if t then Some (record { inode = i; own = nothing }) else find_name rest m)) [
      | true ↦ record {
        place = l;
        l = 0;
        s = s;
        entries = no_entries;
        is = refl;
        list = entries_none o b l;
        good = a_file h.1;
        here = record {
          type = r.0.type;
          mode = r.0.mode;
          uid = r.0.uid;
          gid = r.0.gid;
          size_is = λ _. r.0.size_is;
          content = λ _ k. subst (IsStored o b (bytes_of cs i.fill) high) (sym r.0.offset_is) (r.1 k);
        };
        known = q.0;
        reads = tt;
        inner = tt;
        well = tt;
      }
      | false ↦ find_alike o b cs high Q m (l + entry_len name) (after_file s i) rest h.2 r.2 q.1
    ] in
    subst (λ (k : List ℕ). Alike (IsShown o b cs high Q) (if bytes_eq k m then Some x else find_entry es m)
    (if bytes_eq name m then Some (record { inode = i; own = nothing }) else find_name rest m)) (sym r.0.name_is) go
find_alike o b cs high Q m l s (link name i rest) h r q = absurd h
find_alike o b cs high Q m l s (subdirectory name i own rest) h r q =
    let s1 = after_list s own in
    let s' = after_names s1 own in
    let mine = entries_at o b (spots (pad4 s.at) s1 own) in
    let es = entries_at o b (spots (l + entry_len name) s' rest) in
    let x = node_of o b l mine in
    let go : Alike (IsShown o b cs high Q) (if bytes_eq name m then Some x else find_entry es m)
    (if bytes_eq name m then Some (record { inode = i; own = own }) else find_name rest m) =
    elim (bytes_eq name m) as (λ t. Alike (IsShown o b cs high Q) (if t then Some x else find_entry es m)
    (if t then Some (record { inode = i; own = own }) else find_name rest m)) [
      | true ↦ record {
        place = l;
        l = pad4 s.at;
        s = s1;
        entries = mine;
        is = refl;
        list = entries_one o b l mine (r.0.type ∙ ap type_bits h.1.kind);
        good = a_directory h.1;
        here = record {
          type = r.0.type;
          mode = r.0.mode;
          uid = r.0.uid;
          gid = r.0.gid;
          size_is = λ z. absurd (z h.1.kind);
          content = λ z. absurd (z h.1.kind);
        };
        known = q.0;
        reads = r.1;
        inner = every_left Q (placed (pad4 s.at) s1 own) (placed (l + entry_len name) s' rest) q.1;
        well = h.2;
      }
      | false ↦ find_alike o b cs high Q m (l + entry_len name) s' rest h.3 r.2
          (every_right Q (placed (pad4 s.at) s1 own) (placed (l + entry_len name) s' rest) q.1)
    ] in
    subst (λ (k : List ℕ). Alike (IsShown o b cs high Q) (if bytes_eq k m then Some x else find_entry es m)
    (if bytes_eq name m then Some (record { inode = i; own = own }) else find_name rest m)) (sym r.0.name_is) go

pub path_alike : (o : Order) (b : List ℕ) (cs : List (List ℕ)) (high : ℕ) (Q : Placed → Type 0) (q : List (List ℕ))
    (x : Node) (m : Named)
    → IsShown o b cs high Q x m → Alike (IsEnd o b cs high Q) (node_under q x) (file_under q m)
path_alike o b cs high Q [] x m h =
    record { place = h.place; entries = h.entries; is = h.is; good = h.good; here = h.here; known = h.known }
path_alike o b cs high Q (n ∷ ns) x m h =
    let found = find_alike o b cs high Q n h.l h.s m.own h.well h.reads h.inner in
    let here = subst (λ (es : Entries). Alike (IsShown o b cs high Q) (find_entry es n) (find_name m.own n))
    (sym h.list) found in
    then_alike (IsShown o b cs high Q) (IsEnd o b cs high Q) (λ y. node_under ns y) (λ y. file_under ns y)
    (find_entry (entries_of x) n) (find_name m.own n) here (λ y k a. path_alike o b cs high Q ns y k a)
