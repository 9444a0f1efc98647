-- In romfs the bytes of each file with the contents of a source are where a section of the plan is.
use Rattle.std.proofs.Common.{◌≡◌, ◌≢◌, ℕ, ◌+◌, List, [], ◌∷◌, map, Some, inl, inr, refl}
use Rattle.std.proofs.Common.{sym, ap, ◌∙◌, arith}
use Rattle.std.proofs.lemmas.Bool.Decides.{eqb_tells}
use Rattle.std.specs.List.{AllByRecursion as Every}
use Rattle.record_forest.specs.Members.{Has}
use Rattle.record_forest.proofs.Lists.{every_join, every_left, every_right, has_of}
use Rattle.rom_tree.specs.declared.types.Kind.TheVariants.{Directory, Regular}
use Rattle.rom_tree.specs.Tree.{Entries, Node, places_of, row_from}
use Rattle.rom_tree.proofs.ByKind.{body_places_is}
use Rattle.romfs_format.specs.Record.{end_of, pad16, size_of, type_of}
use Rattle.romfs_format.specs.Tree.{by_type, kind_numbers, node_of, places_at}
use Rattle.manifest_tree.specs.Files.{Placed, at_place}
use Rattle.manifest_tree.specs.Items.{bytes_section, contents_of, section}
use Rattle.manifest_tree.specs.Names.{Inode, Names, leaf, link, nothing, source, subdirectory}
use Rattle.manifest_tree.specs.Shape.{file_under, node_under, with_names}
use Rattle.manifest_tree.proofs.Alike.{alike_some}
use Rattle.romfs_layout.specs.Items.{item_of, items_of, sections_from, sections_of}
use Rattle.romfs_layout.specs.Layout.{Header, all_headers, ends, header_end, headers, leaf_end, number_of}
use Rattle.romfs_layout.specs.Layout.{place_of, place_with, placed, root_at}
use Rattle.romfs_layout.specs.Planned.{IsPlanned}
use Rattle.romfs_layout.specs.Reads.{Reads}
use Rattle.romfs_layout.specs.Wells.{AreWell}
use Rattle.romfs_layout.proofs.Files.{IsAt}
use Rattle.romfs_layout.proofs.Image.{is_image, tree_in}
use Rattle.romfs_layout.proofs.Paths.{IsEnd}
use Rattle.romfs_layout.proofs.Shaped.{IsOne, all_placed, bytes_in, ends_alike}
use Rattle.headline.proofs.Owned.{has_left, has_right, no_source}
use Rattle.headline.proofs.Sections.{IsAtSection}

-- the header says that these bytes are at p
abbrev Says : ℕ → ℕ → ℕ → Header → Type 0
Says p size k h = (h.start ≡ p) × (h.size ≡ size) × (h.fill ≡ source k)

-- one of the headers says that the bytes of a file are behind its record
abbrev IsHeaded : List ℕ → List Header → Placed → Type 0
IsHeaded b is x =
    x.inode.size ≢ 0 → (k : ℕ) → x.inode.fill ≡ source k → Has (Says (end_of b x.place) x.inode.size k) is

files_headed : (b : List ℕ) (cs : List (List ℕ)) (is : List Header) (at' : ℕ → ℕ) (dir from : ℕ) (n : Names)
    → AreWell cs n → Every (Reads b cs) (headers at' dir from n)
    → ((P : Header → Type 0) → Has P (headers at' dir from n) → Has P is) → Every (IsHeaded b is) (placed from n)
files_headed b cs is at' dir from nothing h r put = tt
files_headed b cs is at' dir from (leaf name i after) h r put =
    let p = place_of from name i in (
      (λ z k f. put (Says (end_of b p) i.size k) (inl (elim (eqb_tells i.size 0) [
        | inl y ↦ absurd (z y.1)
        | inr y ↦ (rw y.0 (sym r.0.ends), refl, f)
      ]))),
      files_headed b cs is at' dir (leaf_end from name i) after h.2 r.1 (λ P m. put P (inr m)),
    )
files_headed b cs is at' dir from (link name i after) h r put =
    files_headed b cs is at' dir (header_end from name) after h.2 r.1 (λ P m. put P (inr m))
files_headed b cs is at' dir from (subdirectory name i own after) h r put =
    let p = pad16 from in
    let he = header_end from name in
    let q = ends (he + 64) own in
    let mine = headers at' p (he + 64) own in
    let theirs = headers at' dir q after in (
      (λ z k f. no_source i (Has (Says (end_of b p) i.size k) is) h.1.bytes f),
      every_join (IsHeaded b is) (placed (he + 64) own) (placed q after)
          (files_headed b cs is at' p (he + 64) own h.2 (every_left (Reads b cs) mine theirs r.1.1.1)
          (λ P m. put P (inr (inr (inr (has_left P mine theirs m))))))
          (files_headed b cs is at' dir q after h.3 (every_right (Reads b cs) mine theirs r.1.1.1)
          (λ P m. put P (inr (inr (inr (has_right P mine theirs m)))))),
    )

-- the bytes of a header are a section
bytes_here : (index : ℕ) (h : Header) (p size k : ℕ) → size ≢ 0 → Says p size k h
    → Has (λ z. z ≡ section p size (contents_of k)) (bytes_section index (item_of h))
bytes_here index h p size k n (s, l, f) = elim (eqb_tells h.size 0) [
  | inl y ↦ absurd (n (sym l ∙ y.1))
  | inr y ↦ rw (y.0, f) (inl (λ j. section (s j) (l j) (contents_of k)))
]

header_section : (index : ℕ) (is : List Header) (p size k : ℕ) → size ≢ 0 → Has (Says p size k) is
    → Has (λ z. z ≡ section p size (contents_of k)) (sections_from index (map item_of is))
header_section index [] p size k n m = absurd m
header_section index (h ∷ hs) p size k n (inl s) =
    inr (has_left (λ z. z ≡ section p size (contents_of k)) (bytes_section index (item_of h))
    (sections_from (index + 1) (map item_of hs)) (bytes_here index h p size k n s))
header_section index (h ∷ hs) p size k n (inr m) =
    inr (has_right (λ z. z ≡ section p size (contents_of k)) (bytes_section index (item_of h))
    (sections_from (index + 1) (map item_of hs)) (header_section (index + 1) hs p size k n m))

-- the offsets of a regular file
node_run : (b : List ℕ) (cs : List (List ℕ)) (i : Inode) (p : ℕ) (es : Entries) → i.kind ≡ Regular → IsAt b cs i p
    → places_of (node_of b p es) ≡ row_from (end_of b p) i.size
unfolding node_of places_at
node_run b cs i p es kind a =
    let ps = row_from (end_of b p) (size_of b p) in
    let type : type_of b p ≡ 2 = a.kind ∙ ap number_of kind in
    let other : i.kind ≢ Directory = λ z. let n = ap number_of (sym kind ∙ z) in absurd (omega (arith, n)) in
    body_places_is kind_numbers (type_of b p) ps es ∙ ap (λ (k : ℕ). by_type k [] ps ps [] [] [] []) type
    ∙ ap (row_from (end_of b p)) (a.size other)

end_planned : (b : List ℕ) (cs : List (List ℕ)) (volume : List ℕ) (root : Inode) (n : Names) (x : Node) (i : Inode)
    (k : ℕ) → i.kind ≡ Regular → i.size ≢ 0 → i.fill ≡ source k
    → Every (IsHeaded b (all_headers (root_at volume) root n)) (all_placed volume root n)
    → IsEnd b cs (IsOne b cs (all_placed volume root n)) x i
    → IsAtSection (sections_of volume (items_of volume root n)) i.size k x
end_planned b cs volume root n x i k kind z f every e =
    let is = all_headers (root_at volume) root n in
    let says = has_of (IsHeaded b is) (all_placed volume root n) (at_place i e.place) e.known.1.1 every z k f in
    record {
      start = end_of b e.place;
      run = ap places_of e.is ∙ node_run b cs i e.place e.entries kind e.known.0;
      section = inr (header_section 0 is (end_of b e.place) i.size k z says);
    }

pub planned_in_romfs : (volume : List ℕ) (root : Inode) (n : Names) (cs : List (List ℕ)) → IsPlanned volume root n cs
    → (q : List (List ℕ)) (x : Node) (i : Inode) (k : ℕ)
    → node_under q (tree_in (bytes_in volume root n cs) volume n) ≡ Some x
    → file_under q (with_names root n) ≡ Some i → i.kind ≡ Regular → i.size ≢ 0 → i.fill ≡ source k
    → IsAtSection (sections_of volume (items_of volume root n)) i.size k x
planned_in_romfs volume root n cs h q x i k a f kind z fill =
    let r = root_at volume in
    let b = bytes_in volume root n cs in
    let xs = placed (r + 64) n in
    let is = all_headers r root n in
    let reads = (is_image volume root n cs h).holds.reads in
    let every : Every (IsHeaded b is) (all_placed volume root n) = (
      (λ w j g. no_source root (Has (Says (end_of b r) root.size j) is) h.directory.bytes g),
      files_headed b cs is (place_with xs) r (r + 64) n h.well reads.1.1 (λ P m. inr (inr m)),
    ) in
    let e = alike_some (IsEnd b cs (IsOne b cs (all_placed volume root n))) (node_under q (tree_in b volume n))
    (file_under q (with_names root n)) x i (ends_alike volume root n cs h q) a f in
    end_planned b cs volume root n x i k kind z fill every e
