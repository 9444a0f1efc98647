-- A romfs layout of files with sources of their own differs only in its sources.
use Rattle.std.proofs.Common.{◌≡◌, ℕ, zero, suc, ◌+◌, ◌==◌, true, false, if◌then◌else◌, List, [], ◌∷◌, ◌++◌, map, refl}
use Rattle.std.proofs.Common.{inl, inr, sym, ap, subst, ◌∙◌}
use Rattle.std.specs.List.{AllByRecursion as Every}
use Rattle.record_forest.specs.Members.{Has}
use Rattle.record_forest.proofs.Lists.{every_left, every_right}
use Rattle.romfs_format.specs.Record.{pad16}
use Rattle.rom_tree.specs.Dots.{dot, dot_dot}
use Rattle.manifest_tree.specs.Names.{Fill, no_bytes, text, source, Inode, Names, nothing, leaf, link, subdirectory}
use Rattle.manifest_tree.specs.Names.{bytes_of}
use Rattle.manifest_tree.specs.Files.{files, Placed, at_place}
use Rattle.manifest_tree.specs.Items.{Item, Section, Body, super, record_of, table_of, text_of, contents_of}
use Rattle.manifest_tree.specs.Items.{fill_section, bytes_section, section}
use Rattle.manifest_tree.specs.Bodies.{item_at}
use Rattle.romfs_layout.specs.Layout.{Header, header_alone, header_bytes, headers, all_headers, leaf_end, header_end}
use Rattle.romfs_layout.specs.Layout.{ends, first_place, place_with, placed, place_of, data_align, code_of, device_of}
use Rattle.romfs_layout.specs.Layout.{record_len}
use Rattle.romfs_layout.specs.Composed.{written}
use Rattle.romfs_layout.specs.Items.{item_of, sections_from}
use Rattle.image_build.proofs.Owned.{own_fill, own_file, own_names, ends_same, first_same}

-- the same fill, or that of another source: S says of each new number which one it was
abbrev pub AlikeFill : (ℕ → ℕ) → Fill → Fill → Type 0
AlikeFill S no_bytes g = g ≡ no_bytes
AlikeFill S (text t) g = g ≡ text t
AlikeFill S (source k) g = (j : ℕ) × (g ≡ source j) × (k ≡ S j)

fill_alike : (S : ℕ → ℕ) (line : ℕ) (f : Fill) → ((k : ℕ) → f ≡ source k → k ≡ S line) → AlikeFill S f (own_fill line f)
fill_alike S line no_bytes h = refl
fill_alike S line (text t) h = refl
fill_alike S line (source k) h = (line, refl, h k refl)

-- S says the source of each of the files
abbrev pub Says : (ℕ → ℕ) → List Inode → Type 0
Says S is = Every (λ i. (k : ℕ) → i.fill ≡ source k → k ≡ S i.line) is

pub record IsAlike (S : ℕ → ℕ) (h g : Header) : Type 0 where
  pub place : g.place ≡ h.place
  pub next : g.next ≡ h.next
  pub spec : g.spec ≡ h.spec
  pub size : g.size ≡ h.size
  pub name : g.name ≡ h.name
  pub start : g.start ≡ h.start
  pub fill : AlikeFill S h.fill g.fill

abbrev pub AreAlike : (ℕ → ℕ) → List Header → List Header → Type 0
AreAlike S [] [] = Unit {0}
AreAlike S [] (g ∷ gs) = ⊥
AreAlike S (h ∷ hs) [] = ⊥
AreAlike S (h ∷ hs) (g ∷ gs) = IsAlike S h g × AreAlike S hs gs

alike_join : (S : ℕ → ℕ) (hs gs xs ys : List Header) → AreAlike S hs gs → AreAlike S xs ys
    → AreAlike S (hs ++ xs) (gs ++ ys)
alike_join S [] [] xs ys a b = b
alike_join S [] (g ∷ gs) xs ys a b = absurd a
alike_join S (h ∷ hs) [] xs ys a b = absurd a
alike_join S (h ∷ hs) (g ∷ gs) xs ys a b = (a.0, alike_join S hs gs xs ys a.1 b)

-- headers without data
alone : (S : ℕ → ℕ) (place next other spec third : ℕ) (name : List ℕ) → other ≡ next → third ≡ spec
    → IsAlike S (header_alone place next spec name) (header_alone place other third name)
alone S place next other spec third name e f =
    record { place = refl; next = e; spec = f; size = refl; name = refl; start = refl; fill = refl }

headers_alike : (S : ℕ → ℕ) (at to : ℕ → ℕ) → ((line : ℕ) → to line ≡ at line) → (dir from : ℕ) (n : Names)
    → Says S (files n)
    → AreAlike S (headers at dir from n) (headers to dir from (own_names n))
unfolding place_of data_align code_of device_of
headers_alike S at to same dir from nothing y = tt
headers_alike S at to same dir from (leaf name i after) y = (
  record {
    place = refl;
    next = ap (λ (k : ℕ). k + code_of i) (first_same (leaf_end from name i) after);
    spec = refl;
    size = refl;
    name = refl;
    start = refl;
    fill = fill_alike S i.line i.fill y.0;
  },
  headers_alike S at to same dir (leaf_end from name i) after y.1,
)
headers_alike S at to same dir from (link name i after) y = (
  alone S (pad16 from) (first_place (header_end from name) after) (first_place (header_end from name) (own_names after))
      (at i.line) (to i.line) name (first_same (header_end from name) after) (same i.line),
  headers_alike S at to same dir (header_end from name) after y,
)
headers_alike S at to same dir from (subdirectory name i own after) y =
    let says : Inode → Type 0 = λ j. (k : ℕ) → j.fill ≡ source k → k ≡ S j.line in
    let h = header_end from name in
    let q = ends (h + 64) own in
    let mine = headers to (pad16 from) (h + 64) (own_names own) in
    let G : ℕ → Type 0 = λ e. AreAlike S (headers at dir from (subdirectory name i own after))
    (header_alone (pad16 from) (first_place e (own_names after) + code_of i) h name
    ∷ header_alone h (h + 32) (pad16 from) dot
    ∷ header_alone (h + 32) (first_place (h + 64) (own_names own)) dir dot_dot
    ∷ (mine ++ headers to dir e (own_names after))) in
    subst G (sym (ends_same (h + 64) own)) (
      alone S (pad16 from) (first_place q after + code_of i) (first_place q (own_names after) + code_of i) h h name
          (ap (λ (k : ℕ). k + code_of i) (first_same q after)) refl,
      (
        alone S h (h + 32) (h + 32) (pad16 from) (pad16 from) dot refl refl,
        (
          alone S (h + 32) (first_place (h + 64) own) (first_place (h + 64) (own_names own)) dir dir dot_dot
              (first_same (h + 64) own) refl,
          alike_join S (headers at (pad16 from) (h + 64) own) mine (headers at dir q after)
              (headers to dir q (own_names after))
              (headers_alike S at to same (pad16 from) (h + 64) own (every_left says (files own) (files after) y.1))
              (headers_alike S at to same dir q after (every_right says (files own) (files after) y.1)),
        ),
      ),
    )

-- the offsets of the files
abbrev own_placed : Placed → Placed
own_placed x = at_place (own_file x.inode) x.place

map_join : (xs ys : List Placed) → map own_placed xs ++ map own_placed ys ≡ map own_placed (xs ++ ys)
map_join [] ys = refl
map_join (x ∷ xs) ys = ap (λ (zs : List Placed). own_placed x ∷ zs) (map_join xs ys)

placed_same : (from : ℕ) (n : Names) → placed from (own_names n) ≡ map own_placed (placed from n)
unfolding place_of data_align
placed_same from nothing = refl
placed_same from (leaf name i after) =
    ap (λ (xs : List Placed). at_place (own_file i) (place_of from name i) ∷ xs)
    (placed_same (leaf_end from name i) after)
placed_same from (link name i after) = placed_same (header_end from name) after
placed_same from (subdirectory name i own after) =
    let h = header_end from name in
    let first = at_place (own_file i) (pad16 from) in
    ap (λ (k : ℕ). first ∷ placed (h + 64) (own_names own) ++ placed k (own_names after)) (ends_same (h + 64) own)
    ∙ ap (λ (xs : List Placed). first ∷ xs ++ placed (ends (h + 64) own) (own_names after)) (placed_same (h + 64) own)
    ∙ ap (λ (xs : List Placed). first ∷ map own_placed (placed (h + 64) own) ++ xs)
    (placed_same (ends (h + 64) own) after)
    ∙ ap (λ (xs : List Placed). first ∷ xs) (map_join (placed (h + 64) own) (placed (ends (h + 64) own) after))

with_same : (xs : List Placed) (line : ℕ) → place_with (map own_placed xs) line ≡ place_with xs line
with_same [] line = refl
with_same (x ∷ xs) line = ap (λ (k : ℕ). if x.inode.line == line then x.place else k) (with_same xs line)

pub all_alike : (S : ℕ → ℕ) (r : ℕ) (root : Inode) (n : Names) → Says S (files n)
    → AreAlike S (all_headers r root n) (all_headers r (own_file root) (own_names n))
unfolding code_of
all_alike S r root n y =
    let at = place_with (placed (r + 64) n) in
    let to = place_with (placed (r + 64) (own_names n)) in
    let same : (line : ℕ) → to line ≡ at line =
    λ line. ap (λ (xs : List Placed). place_with xs line) (placed_same (r + 64) n)
    ∙ with_same (placed (r + 64) n) line in (
      alone S r (r + 32 + code_of root) (r + 32 + code_of root) r r dot refl refl,
      (
        alone S (r + 32) (first_place (r + 64) n) (first_place (r + 64) (own_names n)) r r dot_dot
            (first_same (r + 64) n) refl,
        headers_alike S at to same r (r + 64) n y,
      ),
    )

-- items by their index
pub record IsAlikeItem (S : ℕ → ℕ) (i j : Item) : Type 0 where
  pub written : written j ≡ written i
  pub fill : AlikeFill S i.fill j.fill

pub item_alike : (S : ℕ → ℕ) (hs gs : List Header) (k : ℕ) → AreAlike S hs gs
    → IsAlikeItem S (item_at (map item_of hs) k) (item_at (map item_of gs) k)
item_alike S [] [] k a = record { written = refl; fill = refl }
item_alike S [] (g ∷ gs) k a = absurd a
item_alike S (h ∷ hs) [] k a = absurd a
item_alike S (h ∷ hs) (g ∷ gs) zero a =
    let n = a.0.next in
    let s = a.0.spec in
    let z = a.0.size in
    let m = a.0.name in
    record { written = (λ j. header_bytes (n j) (s j) (z j) (m j)); fill = a.0.fill }
item_alike S (h ∷ hs) (g ∷ gs) (suc k) a = item_alike S hs gs k a.1

-- the same body, or the contents of another source
abbrev pub AlikeBody : (ℕ → ℕ) → Body → Body → Type 0
AlikeBody S super c = c ≡ super
AlikeBody S (record_of i) c = c ≡ record_of i
AlikeBody S (table_of i) c = c ≡ table_of i
AlikeBody S (text_of i) c = c ≡ text_of i
AlikeBody S (contents_of k) c = (j : ℕ) × (c ≡ contents_of j) × (k ≡ S j)

pub record IsAlikeSection (S : ℕ → ℕ) (s t : Section) : Type 0 where
  pub place : t.place ≡ s.place
  pub len : t.len ≡ s.len
  pub body : AlikeBody S s.body t.body

abbrev pub AlikeSections : (ℕ → ℕ) → List Section → List Section → Type 0
AlikeSections S [] [] = Unit {0}
AlikeSections S [] (t ∷ ts) = ⊥
AlikeSections S (s ∷ ss) [] = ⊥
AlikeSections S (s ∷ ss) (t ∷ ts) = IsAlikeSection S s t × AlikeSections S ss ts

sections_join : (S : ℕ → ℕ) (ss ts xs ys : List Section) → AlikeSections S ss ts → AlikeSections S xs ys
    → AlikeSections S (ss ++ xs) (ts ++ ys)
sections_join S [] [] xs ys a b = b
sections_join S [] (t ∷ ts) xs ys a b = absurd a
sections_join S (s ∷ ss) [] xs ys a b = absurd a
sections_join S (s ∷ ss) (t ∷ ts) xs ys a b = (a.0, sections_join S ss ts xs ys a.1 b)

filled_alike : (S : ℕ → ℕ) (index start len : ℕ) (f g : Fill) → AlikeFill S f g
    → AlikeSections S (fill_section index start len f) (fill_section index start len g)
filled_alike S index start len no_bytes g a =
    subst (λ (x : Fill). AlikeSections S [] (fill_section index start len x)) (sym a) tt
filled_alike S index start len (text t) g a =
    subst (λ (x : Fill). AlikeSections S (fill_section index start len (text t)) (fill_section index start len x))
    (sym a) (record { place = refl; len = refl; body = refl }, tt)
filled_alike S index start len (source k) g a =
    subst (λ (x : Fill). AlikeSections S (fill_section index start len (source k)) (fill_section index start len x))
    (sym a.1) (record { place = refl; len = refl; body = (a.0, refl, a.2) }, tt)

bytes_alike : (S : ℕ → ℕ) (index start len : ℕ) (f g : Fill) → AlikeFill S f g
    → AlikeSections S (if len == 0 then [] else fill_section index start len f)
    (if len == 0 then [] else fill_section index start len g)
bytes_alike S index start len f g a =
    elim (len == 0) as (λ t. AlikeSections S (if t then [] else fill_section index start len f)
    (if t then [] else fill_section index start len g)) [
      | true ↦ tt
      | false ↦ filled_alike S index start len f g a
    ]

pub sections_alike : (S : ℕ → ℕ) (index : ℕ) (hs gs : List Header) → AreAlike S hs gs
    → AlikeSections S (sections_from index (map item_of hs)) (sections_from index (map item_of gs))
sections_alike S index [] [] a = tt
sections_alike S index [] (g ∷ gs) a = absurd a
sections_alike S index (h ∷ hs) [] a = absurd a
sections_alike S index (h ∷ hs) (g ∷ gs) a =
    let e = a.0.start in
    let z = a.0.size in
    let own = bytes_section index (item_of h) in
    let G : ℕ → ℕ → Type 0 =
    λ start len. AlikeSections S own (if len == 0 then [] else fill_section index start len g.fill) in
    let mine : G g.start g.size = subst (λ (k : ℕ). G k g.size) (sym e)
    (subst (G h.start) (sym z) (bytes_alike S index h.start h.size h.fill g.fill a.0.fill)) in (
      record { place = a.0.place; len = ap record_len a.0.name; body = refl },
      sections_join S own (bytes_section index (item_of g)) (sections_from (index + 1) (map item_of hs))
          (sections_from (index + 1) (map item_of gs)) mine (sections_alike S (index + 1) hs gs a.1),
    )

-- where a section has the contents of a new source, one has those of the old
old_body : (S : ℕ → ℕ) (j : ℕ) (b c : Body) → AlikeBody S b c → c ≡ contents_of j → b ≡ contents_of (S j)
old_body S j super c a e = let z : super ≡ contents_of j = sym a ∙ e in absurd (cc)
old_body S j (record_of i) c a e = let z : record_of i ≡ contents_of j = sym a ∙ e in absurd (cc)
old_body S j (table_of i) c a e = let z : table_of i ≡ contents_of j = sym a ∙ e in absurd (cc)
old_body S j (text_of i) c a e = let z : text_of i ≡ contents_of j = sym a ∙ e in absurd (cc)
old_body S j (contents_of k) c a e =
    let z : contents_of a.0 ≡ contents_of j = sym a.1 ∙ e in
    let same : a.0 ≡ j = cc in
    ap contents_of (a.2 ∙ ap S same)

pub old_section : (S : ℕ → ℕ) (start len j : ℕ) (ss ts : List Section) → AlikeSections S ss ts
    → Has (λ z. z ≡ section start len (contents_of j)) ts → Has (λ z. z ≡ section start len (contents_of (S j))) ss
old_section S start len j [] [] a h = absurd h
old_section S start len j [] (t ∷ ts) a h = absurd a
old_section S start len j (s ∷ ss) [] a h = absurd a
old_section S start len j (s ∷ ss) (t ∷ ts) a (inl e) =
    let p : s.place ≡ start = sym a.0.place ∙ ap (λ (z : Section). z.place) e in
    let n : s.len ≡ len = sym a.0.len ∙ ap (λ (z : Section). z.len) e in
    let b = old_body S j s.body t.body a.0.body (ap (λ (z : Section). z.body) e) in
    inl (λ i. section (p i) (n i) (b i))
old_section S start len j (s ∷ ss) (t ∷ ts) a (inr h) = inr (old_section S start len j ss ts a.1 h)

-- the text of a link
pub bytes_same : (S : ℕ → ℕ) (f g : Fill) → AlikeFill S f g → bytes_of [] g ≡ bytes_of [] f
bytes_same S no_bytes g a = ap (bytes_of []) a
bytes_same S (text t) g a = ap (bytes_of []) a
bytes_same S (source k) g a = ap (bytes_of []) a.1
