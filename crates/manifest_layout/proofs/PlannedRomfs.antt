-- The volume of a manifest that fits romfs can be laid out.
use Rattle.std.proofs.Common.{◌≡◌, ◌≢◌, ℕ, ◌^◌, true, false, inl, inr, List, [], ◌∷◌, length, map, Some, refl, sym, ap}
use Rattle.std.proofs.Common.{subst, arith}
use Rattle.std.proofs.lemmas.Bool.{eq-eqb, ne_eqb}
use Rattle.std.proofs.lemmas.List.{length-map}
use Rattle.std.specs.List.{AllByRecursion as Every}
use Rattle.record_forest.specs.Members.{Has, Pairs}
use Rattle.record_forest.proofs.Lists.{every_of, has_of}
use Rattle.manifest.specs.declared.line.Line.{Line}
use Rattle.manifest.specs.declared.line.Word.{Word}
use Rattle.manifest.specs.declared.line.Word.TheVariants.{Dir, File, Slink, Block, Character, Fifo, Socket, Hard, Same}
use Rattle.manifest.specs.Grammar.{IsManifest}
use Rattle.manifest.specs.Lines.{ManifestLines, is_dir, is_hard}
use Rattle.manifest_tree.specs.Names.{Inode, Names, nothing, leaf, link, subdirectory}
use Rattle.manifest_tree.specs.Tree.{What, a_leaf, a_link, a_directory, what_by, inode_of, grown, tree_of, root_of}
use Rattle.manifest_tree.proofs.Law.{grown_by}
use Rattle.rom_fields.specs.Padding.{pad}
use Rattle.rom_fields.proofs.Padding.{pad-after}
use Rattle.manifest_tree.specs.Files.{files, height}
use Rattle.cramfs_format.proofs.Orders.{never_self}
use Rattle.romfs_layout.specs.Layout.{root_at, full_size_of, all_headers}
use Rattle.romfs_layout.specs.Items.{item_of}
use Rattle.romfs_layout.specs.Wells.{IsFile, IsDirectory, AreWell, AreLinks, file_of}
use Rattle.romfs_layout.specs.Planned.{IsPlanned}
use Rattle.manifest_layout.proofs.Bools.{dir_not_hard}
use Rattle.formats.specs.Format.{romfs}
use Rattle.manifest_layout.specs.Misfit.{HasBadAttribute, attribute, HasNoMisfit, long, deep, many}
use Rattle.manifest_layout.proofs.Sorted.{AreSorted, HoldAll}
use Rattle.manifest_layout.proofs.Led.{IsFaultless, HasFile}
use Rattle.manifest_layout.proofs.Grown.{IsNamed, Gives, IsGrown, grown_is}
use Rattle.manifest_layout.proofs.Written.{IsLine}
use Rattle.manifest_layout.proofs.Plain.{IsPlain, last_plain, good_text}
use Rattle.manifest_layout.proofs.Aligned.{below_by}
use Rattle.manifest_layout.proofs.Known.{Fits, IsKnown, known, named_file, RootIs, bare, by_line, root_is, root_apart}
use Rattle.manifest_layout.proofs.InRomfs.{file_made, directory_made, bare_made}

-- a further name is of the file of a line that is not about the root
abbrev IsTarget : List Line → List ℕ → List Line → Inode → Type 0
IsTarget all sizes latest i =
    (k : Line) × (i ≡ inode_of all sizes k) × Has (λ x. x ≡ k) latest × (is_hard k.word ≡ false) × IsNamed k

abbrev IsFit : List (List ℕ) → List Line → List Line → What → Type 0
IsFit cs all latest (a_leaf i) = IsFile cs i
IsFit cs all latest (a_link i) = IsFile cs i × IsTarget all (map length cs) latest i
IsFit cs all latest (a_directory i) = IsDirectory i

abbrev IsFine : List (List ℕ) → List Line → List Line → List ℕ → What → Type 0
IsFine cs all latest name w = IsPlain name × IsFit cs all latest w

-- what holds of names in order is what romfs asks of them
well : (cs : List (List ℕ)) (all latest : List Line) (n : Names) → AreSorted n → HoldAll (IsFine cs all latest) n
    → AreWell cs n
well cs all latest nothing s h = tt
well cs all latest (leaf name i after) s h = (
  record { written = h.0.0.name; no_dots = h.0.0.no_dots; alone = λ k. never_self name (s.0 name k) },
  h.0.1,
  well cs all latest after s.1 h.1,
)
well cs all latest (link name i after) s h = (
  record { written = h.0.0.name; no_dots = h.0.0.no_dots; alone = λ k. never_self name (s.0 name k) },
  h.0.1.0,
  well cs all latest after s.1 h.1,
)
well cs all latest (subdirectory name i own after) s h = (
  record { written = h.0.0.name; no_dots = h.0.0.no_dots; alone = λ k. never_self name (s.0 name k) },
  h.0.1,
  well cs all latest own s.1 h.1,
  well cs all latest after s.2 h.2,
)

-- of files of different lines each is found by its line
file_found : (xs : List Inode) (i : Inode) → Pairs (λ i j. i.line ≢ j.line) xs → Has (λ j. j ≡ i) xs
    → file_of xs i.line ≡ Some i
file_found [] i p h = absurd h
file_found (x ∷ xs) i p (inl e) = rw (eq-eqb x.line i.line (ap (λ (j : Inode). j.line) e)) (ap Some e)
file_found (x ∷ xs) i p (inr h) =
    let n : x.line ≢ i.line = has_of (λ (j : Inode). x.line ≢ j.line) xs i h p.0 in
    rw (ne_eqb x.line i.line n) (file_found xs i p.1 h)

links : (cs : List (List ℕ)) (all latest : List Line) (is : List Inode) (n : Names) → Pairs (λ i j. i.line ≢ j.line) is
    → Every (λ l. is_hard l.word ≡ false → IsNamed l → Has (λ i. i ≡ inode_of all (map length cs) l) is) latest
    → HoldAll (IsFine cs all latest) n → AreLinks is n
links cs all latest is nothing p t h = tt
links cs all latest is (leaf name i after) p t h = links cs all latest is after p t h.1
links cs all latest is (link name i after) p t h =
    let k = h.0.1.1 in
    let there = has_of (λ (l : Line). is_hard l.word ≡ false → IsNamed l
    → Has (λ (i : Inode). i ≡ inode_of all (map length cs) l) is) latest k.0 k.2 t k.3 k.4 in (
      file_found is i p (subst (λ j. Has (λ (i : Inode). i ≡ j) is) (sym k.1) there),
      links cs all latest is after p t h.1,
    )
links cs all latest is (subdirectory name i own after) p t h =
    (links cs all latest is own p t h.1, links cs all latest is after p t h.2)

-- no bad attribute, if nothing misfits
sayable : (m : ManifestLines) (sizes : List ℕ) (l : Line) → Fits romfs m sizes l → is_hard l.word ≡ false
    → HasBadAttribute romfs (inode_of m.lines sizes l) → ⊥
sayable m sizes l h n b = h 1 (attribute refl n b)

module _ (m : ManifestLines) (cs : List (List ℕ)) (latest : List Line)
    (w : IsKnown romfs m (map length cs) latest) where
  own_file : (l : Line) → Has (λ x. x ≡ l) latest → is_hard l.word ≡ false → is_dir l.word ≡ false
      → IsFile cs (inode_of m.lines (map length cs) l)
  own_file l here h d =
      file_made cs m.lines l h d w.aligned (has_of IsLine latest l here w.lines)
      (has_of IsFaultless latest l here w.faultless)
      (sayable m (map length cs) l (has_of (Fits romfs m (map length cs)) latest l here w.fit) h)

  own_directory : (l : Line) → Has (λ x. x ≡ l) latest → is_dir l.word ≡ true → is_hard l.word ≡ false
      → IsDirectory (inode_of m.lines (map length cs) l)
  own_directory l here d h =
      directory_made m.lines (map length cs) l d (has_of IsLine latest l here w.lines)
      (sayable m (map length cs) l (has_of (Fits romfs m (map length cs)) latest l here w.fit) h)

  fit_leaf : (l : Line) → Has (λ x. x ≡ l) latest → (f : HasFile m.lines (map length cs) latest l)
      → is_hard l.word ≡ false → is_dir l.word ≡ false → IsFile cs f.inode
  fit_leaf l here f h d = subst (IsFile cs) (sym (f.own h)) (own_file l here h d)

  fit_link : (l : Line) (f : HasFile m.lines (map length cs) latest l) → is_hard l.word ≡ true
      → IsFile cs f.inode × IsTarget m.lines (map length cs) latest f.inode
  fit_link l f h =
      let k = f.other h in (
        subst (IsFile cs) (sym k.1) (own_file k.0 k.2 k.3 k.4),
        (k.0, k.1, k.2, k.3, named_file k.0 (has_of IsFaultless latest k.0 k.2 w.faultless) k.4),
      )

  fit : (l : Line) → Has (λ x. x ≡ l) latest → (f : HasFile m.lines (map length cs) latest l) (v : Word) → l.word ≡ v
      → IsFit cs m.lines latest (what_by v f.inode)
  fit l here f Dir e = subst IsDirectory (sym (f.own (ap is_hard e)))
      (own_directory l here (ap is_dir e) (ap is_hard e))
  fit l here f File e = fit_leaf l here f (ap is_hard e) (ap is_dir e)
  fit l here f Slink e = fit_leaf l here f (ap is_hard e) (ap is_dir e)
  fit l here f Block e = fit_leaf l here f (ap is_hard e) (ap is_dir e)
  fit l here f Character e = fit_leaf l here f (ap is_hard e) (ap is_dir e)
  fit l here f Fifo e = fit_leaf l here f (ap is_hard e) (ap is_dir e)
  fit l here f Socket e = fit_leaf l here f (ap is_hard e) (ap is_dir e)
  fit l here f Hard e = fit_link l f (ap is_hard e)
  fit l here f Same e = fit_leaf l here f (ap is_hard e) (ap is_dir e)

  names_grown : IsGrown (IsFine cs m.lines latest) m.lines (map length cs) latest
      (grown_by m.lines (map length cs) latest)
  names_grown =
      grown_is (IsFine cs m.lines latest) m.lines
      (map length cs) latest latest w.checked w.have w.apart w.files w.faultless
      (every_of (Gives (IsFine cs m.lines latest) m.lines (map length cs) latest) latest
      (λ l here f n ns e. (last_plain l.path n ns e, fit l here f l.word refl)))

  directory_is : RootIs m (map length cs) latest → IsDirectory (root_of m.lines (map length cs))
  directory_is (bare e) = subst IsDirectory (sym e) bare_made
  directory_is (by_line k e here d names) = subst IsDirectory (sym e) (own_directory k here d (dir_not_hard k.word d))

  tree_is : grown_by m.lines (map length cs) latest ≡ tree_of m.lines (map length cs)
  unfolding tree_of
  tree_is = ap (λ (ls : List Line). grown m.lines (map length cs) ls nothing) (sym w.reversed)

pub planned : (m : ManifestLines) (cs : List (List ℕ)) → IsManifest m → HasNoMisfit romfs m (map length cs)
    → IsPlanned m.volume (root_of m.lines (map length cs)) (tree_of m.lines (map length cs)) cs
planned m cs h none =
    let sizes = map length cs in
    let k = known romfs m sizes h none.lines in
    let latest = k.0 in
    let w = k.1 in
    let n = tree_of m.lines sizes in
    let g : IsGrown (IsFine cs m.lines latest) m.lines sizes latest n =
    subst (IsGrown (IsFine cs m.lines latest) m.lines sizes latest) (tree_is m cs latest w)
    (names_grown m cs latest w) in
    let r = root_is m sizes latest w.back w.faultless in
    let v = good_text 255 m.volume w.volume in
    let v0 = v.0 in
    let top = below_by (2 ^ 28) (pad (full_size_of (root_at m.volume) n) 1024) (λ l. none.whole (long l)) in
    let up = pad-after (full_size_of (root_at m.volume) n) 1024 (omega arith) in
    let count = below_by (2 ^ 20) (length (map item_of (all_headers (root_at m.volume) (root_of m.lines sizes) n)))
    (λ l. none.whole (many l)) in
    let len = length-map (all_headers (root_at m.volume) (root_of m.lines sizes) n) item_of in
    record {
      short = omega arith;
      no_zero = v.1;
      directory = directory_is m cs latest w r;
      well = well cs m.lines latest n g.sorted g.hold;
      lines = (root_apart m sizes latest (files n) r w.numbered w.apart g.owned, g.apart);
      links = links cs m.lines latest (files n) n g.apart g.there g.hold;
      room = omega (arith, top, up);
      few = omega (arith, count, len);
      shallow = below_by 64 (height n) (λ l. none.whole (deep l));
    }
