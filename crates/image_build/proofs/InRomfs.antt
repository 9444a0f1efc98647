-- The contents of a source occur once in a romfs layout of files with sources of their own.
use Rattle.std.proofs.Common.{◌≡◌, ℕ, ◌+◌, ◌==◌, true, false, if◌then◌else◌, List, [], ◌∷◌, ◌++◌, map}
use Rattle.std.specs.List.{AllByRecursion as Every}
use Rattle.record_forest.specs.Members.{Pairs}
use Rattle.record_forest.proofs.Lists.{every_weaker, every_join, every_left, every_right, every_all, pairs_join}
use Rattle.record_forest.proofs.Lists.{pairs_left, pairs_right, pairs_cross}
use Rattle.romfs_format.specs.Record.{pad16}
use Rattle.manifest_tree.specs.Names.{Fill, no_bytes, text, source, Inode, Names, nothing, leaf, link, subdirectory}
use Rattle.manifest_tree.specs.Files.{files}
use Rattle.manifest_tree.specs.Items.{Section, section, record_of, contents_of, fill_section, bytes_section}
use Rattle.romfs_layout.specs.Layout.{Header, headers, all_headers, leaf_end, header_end, ends, place_with, placed}
use Rattle.romfs_layout.specs.Layout.{record_len}
use Rattle.romfs_layout.specs.Items.{item_of, sections_from}
use Rattle.image_build.proofs.Differ.{Differ}

-- they are not the contents of one source
abbrev pub Apart : Fill → Fill → Type 0
Apart f g = (k : ℕ) → f ≡ source k → g ≡ source k → ⊥

headers_every : (P : Fill → Type 0) → P no_bytes → (at : ℕ → ℕ) (dir from : ℕ) (n : Names)
    → Every (λ i. P i.fill) (files n)
    → Every (λ h. P h.fill) (headers at dir from n)
headers_every P p at dir from nothing h = tt
headers_every P p at dir from (leaf name i after) h = (h.0, headers_every P p at dir (leaf_end from name i) after h.1)
headers_every P p at dir from (link name i after) h = (p, headers_every P p at dir (header_end from name) after h)
headers_every P p at dir from (subdirectory name i own after) h =
    let q = header_end from name in
    let e = ends (q + 64) own in
    let left = every_left (λ i. P i.fill) (files own) (files after) h.1 in
    let right = every_right (λ i. P i.fill) (files own) (files after) h.1 in (
      p,
      (
        p,
        (
          p,
          every_join (λ h. P h.fill) (headers at (pad16 from) (q + 64) own) (headers at dir e after)
              (headers_every P p at (pad16 from) (q + 64) own left) (headers_every P p at dir e after right),
        ),
      ),
    )

bare : (g : Fill) → Apart no_bytes g
bare g k a b = cc

headers_apart : (at : ℕ → ℕ) (dir from : ℕ) (n : Names) → Pairs (λ i j. Apart i.fill j.fill) (files n)
    → Pairs (λ h g. Apart h.fill g.fill) (headers at dir from n)
headers_apart at dir from nothing p = tt
headers_apart at dir from (leaf name i after) p = (
  headers_every (Apart i.fill) (λ k a b. bare i.fill k b a) at dir (leaf_end from name i) after p.0,
  headers_apart at dir (leaf_end from name i) after p.1,
)
headers_apart at dir from (link name i after) p =
    let hs = headers at dir (header_end from name) after in
    (every_all (λ h. Apart no_bytes h.fill) (λ h. bare h.fill) hs, headers_apart at dir (header_end from name) after p)
headers_apart at dir from (subdirectory name i own after) p =
    let q = header_end from name in
    let e = ends (q + 64) own in
    let mine = headers at (pad16 from) (q + 64) own in
    let more = headers at dir e after in
    let R : Inode → Inode → Type 0 = λ i j. Apart i.fill j.fill in
    let S : Header → Header → Type 0 = λ h g. Apart h.fill g.fill in
    let cross = pairs_cross R (files own) (files after) p.1 in
    let over = every_weaker (λ i. Every (R i) (files after)) (λ i. Every (λ g. Apart i.fill g.fill) more)
    (λ i k. headers_every (Apart i.fill) (λ k a b. bare i.fill k b a) at dir e after k) (files own) cross in
    let each = headers_every (λ f. Every (λ g. Apart f g.fill) more)
    (every_all (λ g. Apart no_bytes g.fill) (λ g. bare g.fill) more) at (pad16 from) (q + 64) own over in
    let both = pairs_join S mine more (headers_apart at (pad16 from) (q + 64) own
    (pairs_left R (files own) (files after) p.1))
    (headers_apart at dir e after (pairs_right R (files own) (files after) p.1)) each in
    let none : (hs : List Header) → Every (λ h. Apart no_bytes h.fill) hs =
    λ hs. every_all (λ h. Apart no_bytes h.fill) (λ h. bare h.fill) hs in (
      ((bare no_bytes, (bare no_bytes, none (mine ++ more)))),
      ((bare no_bytes, none (mine ++ more)), (none (mine ++ more), both)),
    )

pub all_apart : (r : ℕ) (root : Inode) (n : Names) → Pairs (λ i j. Apart i.fill j.fill) (files n)
    → Pairs (λ h g. Apart h.fill g.fill) (all_headers r root n)
all_apart r root n p =
    let hs = headers (place_with (placed (r + 64) n)) r (r + 64) n in
    let none : Every (λ h. Apart no_bytes h.fill) hs = every_all (λ h. Apart no_bytes h.fill) (λ h. bare h.fill) hs in
    ((bare no_bytes, none), (none, headers_apart (place_with (placed (r + 64) n)) r (r + 64) n p))

-- the section has no contents except those that f has
abbrev IsOf : Fill → Section → Type 0
IsOf f x = (k : ℕ) → x.body ≡ contents_of k → f ≡ source k

same_contents : {j k : ℕ} → contents_of j ≡ contents_of k → source j ≡ source k
same_contents e = cc

fill_of : (index start len : ℕ) (f : Fill)
    → Every (IsOf f) (fill_section index start len f) × Pairs Differ (fill_section index start len f)
fill_of index start len no_bytes = (tt, tt)
fill_of index start len (text x) = ((λ k e. absurd (cc), tt), (tt, tt))
fill_of index start len (source j) = ((λ k e. same_contents e, tt), (tt, tt))

bytes_of_header : (index : ℕ) (h : Header)
    → Every (IsOf h.fill) (bytes_section index (item_of h)) × Pairs Differ (bytes_section index (item_of h))
bytes_of_header index h = elim (h.size == 0) as
    (λ b. let ss = if b then [] else fill_section index h.start h.size h.fill in Every (IsOf h.fill) ss
    × Pairs Differ ss) [
      | true ↦ (tt, tt)
      | false ↦ fill_of index h.start h.size h.fill
    ]

-- sections of other fills than f
others : (f : Fill) (index : ℕ) (hs : List Header) → Every (λ h. Apart f h.fill) hs
    → Every (λ x. (k : ℕ) → f ≡ source k → x.body ≡ contents_of k → ⊥) (sections_from index (map item_of hs))
others f index [] a = tt
others f index (h ∷ hs) a =
    let P : Section → Type 0 = λ x. (k : ℕ) → f ≡ source k → x.body ≡ contents_of k → ⊥ in
    let own = bytes_section index (item_of h) in
    let rest = sections_from (index + 1) (map item_of hs) in (
      λ k e z. cc,
      every_join P own rest
          (every_weaker (IsOf h.fill) P (λ x w k e z. a.0 k e (w k z)) own (bytes_of_header index h).0)
          (others f (index + 1) hs a.1),
    )

pub sections_differ : (index : ℕ) (hs : List Header) → Pairs (λ h g. Apart h.fill g.fill) hs
    → Pairs Differ (sections_from index (map item_of hs))
sections_differ index [] p = tt
sections_differ index (h ∷ hs) p =
    let own = bytes_section index (item_of h) in
    let rest = sections_from (index + 1) (map item_of hs) in
    let record_section = section h.place (record_len h.name) (record_of index) in
    let mine = bytes_of_header index h in
    let far = others h.fill (index + 1) hs p.0 in
    let P : Section → Type 0 = λ y. (k : ℕ) → h.fill ≡ source k → y.body ≡ contents_of k → ⊥ in (
      every_all (Differ record_section) (λ y k a b. cc) (own ++ rest),
      pairs_join Differ own rest mine.1 (sections_differ (index + 1) hs p.1)
          (every_weaker (IsOf h.fill) (λ x. Every (Differ x) rest)
          (λ x w. every_weaker P (Differ x) (λ y v k a b. v k (w k a) b) rest far) own mine.0),
    )
