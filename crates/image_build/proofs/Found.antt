-- The contents of each file of a romfs layout are in a segment, so what holds of those of segments holds of all.
use Rattle.std.proofs.Common.{◌≡◌, ◌≢◌, ℕ, ◌+◌, Bool, if◌then◌else◌, List, [], ◌∷◌, map}
use Rattle.std.proofs.Common.{length, get_or, Option, Some, None, refl, sym, ap, subst, ◌∙◌, arith, inl, inr}
use Rattle.std.proofs.lemmas.Bool.{ne_eqb}
use Rattle.std.proofs.lemmas.Bool.Decides.{eqb_tells}
use Rattle.std.specs.List.{AllByRecursion as Every}
use Rattle.record_forest.specs.Members.{Pairs}
use Rattle.record_forest.proofs.Lists.{every_weaker, every_join, every_left, every_right}
use Rattle.image_stream.specs.Sources.{content_of}
use Rattle.manifest_tree.specs.Files.{files}
use Rattle.manifest_tree.specs.Items.{Item, Section, Body, super, record_of, table_of, text_of, contents_of}
use Rattle.manifest_tree.specs.Items.{fill_section, bytes_section}
use Rattle.manifest_tree.specs.Names.{Fill, no_bytes, text, source, Inode, Names, nothing, leaf, link, subdirectory}
use Rattle.romfs_format.specs.Record.{pad16}
use Rattle.romfs_layout.specs.Items.{item_of, sections_from}
use Rattle.romfs_layout.specs.Layout.{Header, headers, all_headers, leaf_end, header_end, ends, place_with, placed}
use Rattle.romfs_layout.specs.Wells.{AreWell, file_of}
use Rattle.romfs_write.specs.Form.{segment_by, segment_of}
use Rattle.image_build.proofs.Alike.{Says}
use Rattle.image_build.proofs.Given.{AreGiven}
use Rattle.image_build.proofs.Meaning.{every_found}
use Rattle.image_build.proofs.Owned.{own_fill, own_file, own_names, files_same, HasOwn}

module _ (G : ℕ → List ℕ → Type 0) (cs : List (List ℕ)) (is : List Item) where
  head_given : (at n : ℕ) (b : Body) (ss : List Section) → AreGiven G cs (segment_by is at n b ∷ map (segment_of is) ss)
      → ((k : ℕ) → b ≡ contents_of k → G k (content_of cs k)) × AreGiven G cs (map (segment_of is) ss)
  head_given at n super ss h = ((λ k e. absurd (cc)), h)
  head_given at n (record_of j) ss h = ((λ k e. absurd (cc)), h)
  head_given at n (table_of j) ss h = ((λ k e. absurd (cc)), h)
  head_given at n (text_of j) ss h = ((λ k e. absurd (cc)), h)
  head_given at n (contents_of j) ss h =
      ((λ k e. let same : j ≡ k = cc in subst (λ (v : ℕ). G v (content_of cs v)) same h.0), h.1)

  -- of segments, of their sections
  pub sections_given : (ss : List Section) → AreGiven G cs (map (segment_of is) ss)
      → Every (λ s. (k : ℕ) → s.body ≡ contents_of k → G k (content_of cs k)) ss
  sections_given [] h = tt
  sections_given (s ∷ ss) h =
      let r = head_given s.place s.len s.body ss h in
      (r.0, sections_given ss r.1)

module _ (Q : ℕ → Type 0) where
  -- of headers with bytes
  abbrev OfHeader : Header → Type 0
  OfHeader h = (k : ℕ) → h.fill ≡ source k → h.size ≢ 0 → Q k

  abbrev OfSection : Section → Type 0
  OfSection s = (k : ℕ) → s.body ≡ contents_of k → Q k

  abbrev OfFile : Inode → Type 0
  OfFile i = (k : ℕ) → i.fill ≡ source k → i.size ≢ 0 → Q k

  headers_given : (index : ℕ) (hs : List Header) → Every OfSection (sections_from index (map item_of hs))
      → Every OfHeader hs
  headers_given index [] e = tt
  headers_given index (h ∷ hs) e =
      let own = bytes_section index (item_of h) in
      let rest = sections_from (index + 1) (map item_of hs) in
      let mine = every_left OfSection own rest e.1 in (
        λ k f n.
            let some : Every OfSection (fill_section index h.start h.size h.fill) =
            subst (λ (t : Bool). Every OfSection (if t then [] else fill_section index h.start h.size h.fill))
            (ne_eqb h.size 0 n) mine in
            let there : Every OfSection (fill_section index h.start h.size (source k)) =
            subst (λ (g : Fill). Every OfSection (fill_section index h.start h.size g)) f some in
            there.0 k refl,
        headers_given (index + 1) hs (every_right OfSection own rest e.1),
      )

  files_given : (zs : List (List ℕ)) (at : ℕ → ℕ) (dir from : ℕ) (n : Names) → AreWell zs n
      → Every OfHeader (headers at dir from n) → Every OfFile (files n)
  files_given zs at dir from nothing w h = tt
  files_given zs at dir from (leaf name i after) w h = (h.0, files_given zs at dir (leaf_end from name i) after w.2 h.1)
  files_given zs at dir from (link name i after) w h = files_given zs at dir (header_end from name) after w.2 h.1
  files_given zs at dir from (subdirectory name i own after) w h =
      let q = header_end from name in
      let e = ends (q + 64) own in
      let one = headers at (pad16 from) (q + 64) own in
      let two = headers at dir e after in
      let both = h.1.1.1 in (
        λ k f n. let z : no_bytes ≡ source k = sym w.1.bytes ∙ f in absurd (cc),
        every_join OfFile (files own) (files after)
            (files_given zs at (pad16 from) (q + 64) own w.2 (every_left OfHeader one two both))
            (files_given zs at dir e after w.3 (every_right OfHeader one two both)),
      )

  own_given : (is : List Inode) → Every OfFile (map own_file is)
      → Every (λ i. (k : ℕ) → i.fill ≡ source k → i.size ≢ 0 → Q i.line) is
  own_given [] h = tt
  own_given (i ∷ is) h = ((λ k f n. h.0 i.line (ap (own_fill i.line) f) n), own_given is h.1)

  -- of the files with sources of their own
  pub all_given : (zs : List (List ℕ)) (r : ℕ) (root : Inode) (n : Names) → AreWell zs (own_names n)
      → Every OfSection (sections_from 0 (map item_of (all_headers r (own_file root) (own_names n))))
      → Every (λ i. (k : ℕ) → i.fill ≡ source k → i.size ≢ 0 → Q i.line) (files n)
  all_given zs r root n w h =
      let m = own_names n in
      let hs = headers_given 0 (all_headers r (own_file root) m) h in
      let all = files_given zs (place_with (placed (r + 64) m)) r (r + 64) m w hs.1.1 in
      own_given (files n) (subst (Every OfFile) (files_same n) all)

-- the source of each file, by its line
abbrev number_of : Fill → ℕ
number_of no_bytes = 0
number_of (text t) = 0
number_of (source k) = k

abbrev source_in : Option Inode → ℕ
source_in None = 0
source_in (Some i) = number_of i.fill

abbrev pub source_at : List Inode → ℕ → ℕ
source_at all line = source_in (file_of all line)

pub says_source : (all : List Inode) → Pairs (λ i j. i.line ≢ j.line) all → Says (source_at all) all
says_source all apart =
    every_weaker (λ i. file_of all i.line ≡ Some i) (λ i. (k : ℕ) → i.fill ≡ source k → k ≡ source_at all i.line)
    (λ i e k f. sym (ap number_of f) ∙ sym (ap source_in e)) all (every_found all apart)

-- the contents of a file have the property
abbrev pub HasGiven : (ℕ → List ℕ → Type 0) → List (List ℕ) → Inode → Type 0
HasGiven G cs i = (k : ℕ) → i.fill ≡ source k → G k (get_or cs i.line [])

no_length : (xs : List ℕ) → length xs ≡ 0 → xs ≡ []
no_length [] e = refl
no_length (x ∷ xs) e = absurd (omega (arith, e))

-- also of those without bytes
pub have_given : (G : ℕ → List ℕ → Type 0) → ((k : ℕ) → G k []) → (S : ℕ → ℕ) (cs : List (List ℕ)) (is : List Inode)
    → Says S is → Every (HasOwn cs) is
    → Every (λ i. (k : ℕ) → i.fill ≡ source k → i.size ≢ 0 → G (S i.line) (get_or cs i.line [])) is
    → Every (HasGiven G cs) is
have_given G none S cs [] s o g = tt
have_given G none S cs (i ∷ is) s o g = (
  λ k f. elim (eqb_tells i.size 0) [
    | inl y ↦ subst (G k) (sym (no_length (get_or cs i.line []) (o.0 k f ∙ y.1))) (none k)
    | inr y ↦ subst (λ (j : ℕ). G j (get_or cs i.line [])) (sym (s.0 k f)) (g.0 k f y.1)
  ],
  have_given G none S cs is s.1 o.1 g.1,
)
