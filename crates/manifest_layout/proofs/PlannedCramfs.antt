-- The volume of a manifest that fits cramfs can be laid out.
use Rattle.std.proofs.Common.{◌∙◌, ◌<◌, ◌≤◌, ◌+◌, ◌^◌, ◌≡◌, ℕ, true, false, inl, inr, List, ◌∷◌, ◌++◌, length-append}
use Rattle.std.proofs.Common.{length, map, Some, refl, sym, ap, subst, arith}
use Rattle.record_forest.specs.Members.{Has}
use Rattle.record_forest.proofs.Lists.{every_of, has_of}
use Rattle.manifest.specs.declared.line.Line.{Line}
use Rattle.manifest.specs.declared.line.Word.{Word}
use Rattle.manifest.specs.declared.line.Word.TheVariants.{Dir, File, Slink, Block, Character, Fifo, Socket, Hard, Same}
use Rattle.manifest.specs.Paths.{names_of}
use Rattle.manifest.specs.Grammar.{IsManifest}
use Rattle.manifest.specs.Lines.{ManifestLines, is_dir, is_hard}
use Rattle.manifest_tree.specs.Names.{Names, nothing, leaf, link, subdirectory}
use Rattle.manifest_tree.specs.Tree.{What, a_leaf, a_link, a_directory, what_by, inode_of, grown, tree_of, root_of}
use Rattle.manifest_tree.proofs.Law.{grown_by}
use Rattle.manifest_tree.specs.Files.{files, height}
use Rattle.cramfs_format.proofs.Orders.{never_self}
use Rattle.manifest_layout.proofs.Bools.{dir_not_hard}
use Rattle.formats.specs.Format.{cramfs}
use Rattle.manifest_layout.specs.Format.{references_of}
use Rattle.manifest_layout.specs.Misfit.{attribute, HasNoMisfit, long, deep, many}
use Rattle.manifest_layout.proofs.Sorted.{Before, last_of, AreSorted, HoldAll}
use Rattle.manifest_layout.proofs.Led.{IsFaultless, HasFile}
use Rattle.manifest_layout.proofs.Grown.{Gives, IsGrown, grown_is}
use Rattle.manifest_layout.proofs.Written.{IsLine}
use Rattle.manifest_layout.proofs.Plain.{IsPlain, last_plain}
use Rattle.manifest_layout.proofs.Aligned.{below_by}
use Rattle.manifest_layout.proofs.Known.{Fits, IsKnown, known, RootIs, bare, by_line, root_is, root_apart}
use Rattle.cramfs_format.specs.declared.order.Order.{Order}
use Rattle.cramfs_layout.specs.Layout.{list_len, count, size_of, State, entry_len, pad4, after_file, after_list}
use Rattle.cramfs_layout.specs.Layout.{after_names, first_state}
use Rattle.cramfs_layout.specs.Items as items
use Rattle.cramfs_layout.specs.Wells.{IsName, IsFile, IsDirectory, AreWell}
use Rattle.cramfs_layout.specs.Planned.{IsPlanned}
use Rattle.manifest_layout.specs.Misfit.{large, long_name, hard_link, of_volume, long_list, HasLongList, name_len}
use Rattle.manifest_layout.proofs.Plain.{last_length}
use Rattle.manifest_layout.proofs.Aligned.{under_by}
use Rattle.manifest_layout.proofs.InCramfs.{file_made, directory_made, bare_made}

-- what a name is to have; a further name of a file is none
abbrev IsFit : List (List ℕ) → What → Type 0
IsFit cs (a_leaf i) = IsFile cs i
IsFit cs (a_link i) = ⊥
IsFit cs (a_directory i) = (own : Names) → list_len own < 2 ^ 24 → IsDirectory i own

abbrev IsFine : List (List ℕ) → List ℕ → What → Type 0
IsFine cs name w = IsPlain name × (length name ≤ 252) × IsFit cs w

-- a name before those after it
is_name : (name : List ℕ) (after : Names) → IsPlain name → length name ≤ 252 → Before name after → IsName name after
is_name name after p l b =
    (record { written = p.name; no_dots = p.no_dots; alone = λ k. never_self name (b name k) }, l, b)

-- what holds of names in order is what cramfs asks of them
well : (cs : List (List ℕ)) (n : Names) → AreSorted n → (HasLongList n → ⊥) → HoldAll (IsFine cs) n → AreWell cs n
well cs nothing s t h = tt
well cs (leaf name i after) s t h = (is_name name after h.0.0 h.0.1 s.0, h.0.2, well cs after s.1 t h.1)
well cs (link name i after) s t h = absurd h.0.2
well cs (subdirectory name i own after) s t h = (
  is_name name after h.0.0 h.0.1 s.0,
  h.0.2 own (under_by (2 ^ 24) (list_len own) (λ l. t (inl l))),
  well cs own s.1 (λ l. t (inr (inl l))) h.1,
  well cs after s.2 (λ l. t (inr (inr l))) h.2,
)

-- as many items as entries, and the root's
items_count : (o : Order) (l : ℕ) (s : State) (n : Names)
    → length (items.entries o l s n) + length (items.below o s n) ≡ count n
items_count o l s nothing = refl
items_count o l s (leaf name i rest) =
    let h = items_count o (l + entry_len name) (after_file s i) rest in omega (arith, h)
items_count o l s (link name i rest) =
    let h = items_count o (l + entry_len name) (after_file s i) rest in omega (arith, h)
items_count o l s (subdirectory name i own rest) =
    let s1 = after_list s own in
    let s2 = after_names s1 own in
    let h = items_count o (pad4 s.at) s1 own in
    let g = items_count o (l + entry_len name) s2 rest in
    let a = length-append (items.entries o (pad4 s.at) s1 own) (items.below o s1 own ++ items.below o s2 rest) in
    let b = length-append (items.below o s1 own) (items.below o s2 rest) in
    omega (arith, h, g, a, b)

module _ (o : Order) (m : ManifestLines) (cs : List (List ℕ)) (latest : List Line)
    (w : IsKnown (cramfs o) m (map length cs) latest) where
  fits : (l : Line) → Has (λ x. x ≡ l) latest → Fits (cramfs o) m (map length cs) l
  fits l here = has_of (Fits (cramfs o) m (map length cs)) latest l here w.fit

  own_file : (l : Line) → Has (λ x. x ≡ l) latest → is_hard l.word ≡ false → is_dir l.word ≡ false
      → IsFile cs (inode_of m.lines (map length cs) l)
  own_file l here h d =
      file_made o cs m.lines l h d w.aligned (has_of IsLine latest l here w.lines)
      (has_of IsFaultless latest l here w.faultless)
      (λ b. fits l here 1 (attribute refl h b)) (λ t. fits l here 2 (large refl t))

  own_directory : (l : Line) → Has (λ x. x ≡ l) latest → is_dir l.word ≡ true → is_hard l.word ≡ false → (own : Names)
      → list_len own < 2 ^ 24 → IsDirectory (inode_of m.lines (map length cs) l) own
  own_directory l here d h own t = directory_made o m.lines (map length cs) l own d
      (has_of IsLine latest l here w.lines)
      (λ b. fits l here 1 (attribute refl h b)) t

  fit_leaf : (l : Line) → Has (λ x. x ≡ l) latest → (f : HasFile m.lines (map length cs) latest l)
      → is_hard l.word ≡ false → is_dir l.word ≡ false → IsFile cs f.inode
  fit_leaf l here f h d = subst (IsFile cs) (sym (f.own h)) (own_file l here h d)

  fit : (l : Line) → Has (λ x. x ≡ l) latest → (f : HasFile m.lines (map length cs) latest l) (v : Word) → l.word ≡ v
      → IsFit cs (what_by v f.inode)
  fit l here f Dir e = λ own t. subst (λ i. IsDirectory i own) (sym (f.own (ap is_hard e)))
      (own_directory l here (ap is_dir e) (ap is_hard e) own t)
  fit l here f File e = fit_leaf l here f (ap is_hard e) (ap is_dir e)
  fit l here f Slink e = fit_leaf l here f (ap is_hard e) (ap is_dir e)
  fit l here f Block e = fit_leaf l here f (ap is_hard e) (ap is_dir e)
  fit l here f Character e = fit_leaf l here f (ap is_hard e) (ap is_dir e)
  fit l here f Fifo e = fit_leaf l here f (ap is_hard e) (ap is_dir e)
  fit l here f Socket e = fit_leaf l here f (ap is_hard e) (ap is_dir e)
  fit l here f Hard e = fits l here 4 (hard_link refl (ap is_hard e) tt)
  fit l here f Same e = fit_leaf l here f (ap is_hard e) (ap is_dir e)

  -- the last name of a line's path is short
  short_name : (l : Line) → Has (λ x. x ≡ l) latest → (n : List ℕ) (ns : List (List ℕ))
      → names_of l.path ≡ Some (n ∷ ns) → length (last_of n ns) ≤ 252
  short_name l here n ns e =
      let s = below_by 252 (name_len (names_of l.path)) (λ t. fits l here 3 (long_name refl t)) in
      let k : name_len (names_of l.path) ≡ length (last_of n ns) = ap name_len e ∙ last_length n ns in
      omega (arith, s, k)

  names_grown : IsGrown (IsFine cs) m.lines (map length cs) latest (grown_by m.lines (map length cs) latest)
  names_grown =
      grown_is (IsFine cs) m.lines (map length cs) latest latest w.checked w.have w.apart w.files w.faultless
      (every_of (Gives (IsFine cs) m.lines (map length cs) latest) latest
      (λ l here f n ns e. (last_plain l.path n ns e, short_name l here n ns e, fit l here f l.word refl)))

  directory_is : (own : Names) → list_len own < 2 ^ 24 → RootIs m (map length cs) latest
      → IsDirectory (root_of m.lines (map length cs)) own
  directory_is own t (bare e) = subst (λ i. IsDirectory i own) (sym e) (bare_made own t)
  directory_is own t (by_line k e here d names) =
      subst (λ i. IsDirectory i own) (sym e) (own_directory k here d (dir_not_hard k.word d) own t)

  tree_is : grown_by m.lines (map length cs) latest ≡ tree_of m.lines (map length cs)
  unfolding tree_of
  tree_is = ap (λ (ls : List Line). grown m.lines (map length cs) ls nothing) (sym w.reversed)

pub planned : (o : Order) (m : ManifestLines) (cs : List (List ℕ)) → IsManifest m
    → HasNoMisfit (cramfs o) m (map length cs)
    → IsPlanned m.volume (root_of m.lines (map length cs)) (tree_of m.lines (map length cs)) cs
planned o m cs h none =
    let sizes = map length cs in
    let k = known (cramfs o) m sizes h none.lines in
    let latest = k.0 in
    let w = k.1 in
    let n = tree_of m.lines sizes in
    let g : IsGrown (IsFine cs) m.lines sizes latest n =
    subst (IsGrown (IsFine cs) m.lines sizes latest) (tree_is o m cs latest w) (names_grown o m cs latest w) in
    let r = root_is m sizes latest w.back w.faultless in
    let s = first_state n in
    let many' = below_by (2 ^ 20) (references_of (cramfs o) m sizes) (λ l. none.whole (many l)) in
    let a = length-append (items.entries o 76 s n) (items.below o s n) in
    let c = items_count o 76 s n in
    record {
      short = below_by 16 (length m.volume)
          (λ l. none.lines (record { number = 3; at = m.volume_line }) (of_volume l refl));
      directory = directory_is o m cs latest w n
          (under_by (2 ^ 24) (list_len n) (λ l. none.whole (long_list (inl l)))) r;
      well = well cs n g.sorted (λ l. none.whole (long_list (inr l))) g.hold;
      lines = (root_apart m sizes latest (files n) r w.numbered w.apart g.owned, g.apart);
      room = below_by (2 ^ 28) (size_of n) (λ l. none.whole (long l));
      few = omega (arith, many', a, c);
      shallow = below_by 64 (height n) (λ l. none.whole (deep l));
    }
