-- The rows of a manifest whose lines fit a format fit it.
use Rattle.std.proofs.Common.{◌≡◌, ℕ, ◌+◌, ◌==◌, ◌||◌, ◌<◌, ◌≤◌, true, false, List, [], ◌∷◌, length, reverse, Option}
use Rattle.std.proofs.Common.{None, Some, refl, sym, ap, subst, ◌∙◌, arith}
use Rattle.std.proofs.lemmas.Bool.{eqb-true}
use Rattle.std.specs.List.{AllByRecursion as Every, list_any}
use Rattle.record_forest.specs.Faults.{IsNone}
use Rattle.record_forest.specs.Members.{Has}
use Rattle.record_forest.proofs.Lists.{every_of, every_join, has_of}
use Rattle.manifest.specs.declared.line.Line.{Line}
use Rattle.manifest.specs.declared.line.Word.{Word}
use Rattle.manifest.specs.declared.line.Word.TheVariants.{Dir, File, Slink, Block, Character, Fifo, Socket, Hard, Same}
use Rattle.manifest.specs.Grammar.{IsManifest, is_align}
use Rattle.manifest.specs.Lines.{ManifestLines, is_hard, filed}
use Rattle.manifest.specs.Paths.{names_of}
use Rattle.manifest_tree.specs.Names.{Names, nothing, leaf, link, subdirectory}
use Rattle.manifest_tree.specs.Tree.{What, a_leaf, a_link, a_directory, what_by, inode_by, inode_of, with_contents}
use Rattle.manifest_tree.specs.Tree.{grown}
use Rattle.manifest_tree.specs.Tree.{tree_of}
use Rattle.manifest_tree.proofs.Law.{grown_by}
use Rattle.formats.specs.Format.{Format}
use Rattle.manifest_layout.specs.Misfit.{HasLineMisfit, IsLarge, IsLong, large, long_name, hard_link, name_len}
use Rattle.manifest_layout.proofs.Grown.{Gives, IsGrown, grown_is}
use Rattle.manifest_layout.proofs.Known.{Fits, IsKnown, known}
use Rattle.manifest_layout.proofs.Led.{HasFile, IsFaultless, filed_member}
use Rattle.manifest_layout.proofs.Plain.{last_plain, last_length}
use Rattle.manifest_layout.proofs.Sorted.{HoldAll, last_of}
use Rattle.plan_rows.specs.Fits.{FitsAs, IsFit}
use Rattle.plan_rows.specs.Rows.{rows}

-- what a row has that fits, from its name and what this names
abbrev IsFine : Format → List ℕ → What → Type 0
IsFine f name w = (length name < 256) × (IsLong f (length name) → ⊥) × FitsAs f w

fit_row : (f : Format) (d : ℕ) (name : List ℕ) (w : What) → IsFine f name w
    → IsFit f (record { depth = d; name = name; what = w })
fit_row f d name w h = record { short = h.0; not_long = h.1; fits = h.2 }

fit_rows : (f : Format) (d : ℕ) (n : Names) → HoldAll (IsFine f) n → Every (IsFit f) (rows d n)
fit_rows f d nothing h = tt
fit_rows f d (leaf name i after) h = (fit_row f d name (a_leaf i) h.0, fit_rows f d after h.1)
fit_rows f d (link name i after) h = (fit_row f d name (a_link i) h.0, fit_rows f d after h.1)
fit_rows f d (subdirectory name i own after) h = (
  fit_row f d name (a_directory i) h.0,
  every_join (IsFit f) (rows (d + 1) own) (rows d after) (fit_rows f (d + 1) own h.1) (fit_rows f d after h.2),
)

-- an alignment is no greater than 65536
abbrev IsBounded : ℕ → Type 0
IsBounded n = (0 < n) × (n ≤ 65536)

one_of : (n : ℕ) (ks : List ℕ) → list_any (λ k. n == k) ks ≡ true → Every IsBounded ks → IsBounded n
one_of n [] h a = absurd (cc)
one_of n (k ∷ ks) h a = elim (n == k) as (λ t. (n == k) ≡ t → (t || list_any (λ j. n == j) ks) ≡ true → IsBounded n) [
  | true ↦ λ e g. subst IsBounded (sym (eqb-true n k e)) a.0
  | false ↦ λ e g. one_of n ks g a.1
] refl h

bounded : (n : ℕ) → is_align n ≡ true → IsBounded n
bounded n h =
    one_of n (4 ∷ 8 ∷ 16 ∷ 32 ∷ 64 ∷ 128 ∷ 256 ∷ 512 ∷ 1024 ∷ 2048 ∷ 4096 ∷ 8192 ∷ 16384 ∷ 32768 ∷ 65536 ∷ []) h (
      b 4 (omega arith) (omega arith),
      (
        b 8 (omega arith) (omega arith),
        (
          b 16 (omega arith) (omega arith),
          (
            b 32 (omega arith) (omega arith),
            (
              b 64 (omega arith) (omega arith),
              (
                b 128 (omega arith) (omega arith),
                (
                  b 256 (omega arith) (omega arith),
                  (
                    b 512 (omega arith) (omega arith),
                    (
                      b 1024 (omega arith) (omega arith),
                      (
                        b 2048 (omega arith) (omega arith),
                        (
                          b 4096 (omega arith) (omega arith),
                          (
                            b 8192 (omega arith) (omega arith),
                            (
                              b 16384 (omega arith) (omega arith),
                              (b 32768 (omega arith) (omega arith), (b 65536 (omega arith) (omega arith), tt)),
                            ),
                          ),
                        ),
                      ),
                    ),
                  ),
                ),
              ),
            ),
          ),
        ),
      ),
    )
  where
    b : (k : ℕ) → 0 < k → k ≤ 65536 → IsBounded k
    b k p q = (p, q)

four : IsBounded 4
four = (omega arith, omega arith)

-- so is that of each file
contents_bounded : (all : List Line) (sizes : List ℕ) (l : Line) (o : Option Line) → filed (reverse all) l.path ≡ o
    → Every IsFaultless (reverse all) → IsBounded (with_contents all sizes l o).align
contents_bounded all sizes l None e h = four
contents_bounded all sizes l (Some k) e h =
    let m = filed_member (reverse all) l.path k e in bounded k.align
    ((has_of IsFaultless (reverse all) k m.0 h).align m.1)

align_bounded : (all : List Line) (sizes : List ℕ) (l : Line) → Every IsFaultless (reverse all)
    → IsBounded (inode_of all sizes l).align
unfolding inode_of
align_bounded all sizes l h = by l.word
  where
    by : (w : Word) → IsBounded (inode_by all sizes w l).align
    by Dir = four
    by File = contents_bounded all sizes l (filed (reverse all) l.path) refl h
    by Same = contents_bounded all sizes l (filed (reverse all) l.path) refl h
    by Slink = four
    by Block = four
    by Character = four
    by Fifo = four
    by Socket = four
    by Hard = four

module _ (f : Format) (m : ManifestLines) (sizes : List ℕ) (latest : List Line) (w : IsKnown f m sizes latest) where
  fit_leaf : (l : Line) → Fits f m sizes l → (file : HasFile m.lines sizes latest l) → is_hard l.word ≡ false
      → FitsAs f (a_leaf file.inode)
  fit_leaf l fits file h =
      let b = subst (λ i. IsBounded i.align) (sym (file.own h))
      (align_bounded m.lines sizes l (subst (Every IsFaultless) (sym w.back) w.faultless)) in
      ((λ x. fits 2 (large refl (subst (λ i. IsLarge f i.size) (file.own h) x))), b.0, b.1)

  fit_as : (l : Line) → Fits f m sizes l → (file : HasFile m.lines sizes latest l) (v : Word) → l.word ≡ v
      → FitsAs f (what_by v file.inode)
  fit_as l fits file Dir e = tt
  fit_as l fits file File e = fit_leaf l fits file (ap is_hard e)
  fit_as l fits file Slink e = fit_leaf l fits file (ap is_hard e)
  fit_as l fits file Block e = fit_leaf l fits file (ap is_hard e)
  fit_as l fits file Character e = fit_leaf l fits file (ap is_hard e)
  fit_as l fits file Fifo e = fit_leaf l fits file (ap is_hard e)
  fit_as l fits file Socket e = fit_leaf l fits file (ap is_hard e)
  fit_as l fits file Hard e = λ n. fits 4 (hard_link refl (ap is_hard e) n)
  fit_as l fits file Same e = fit_leaf l fits file (ap is_hard e)

  fine : (l : Line) → Has (λ x. x ≡ l) latest → Gives (IsFine f) m.lines sizes latest l
  fine l here file n ns e =
      let fits = has_of (Fits f m sizes) latest l here w.fit in
      let len : name_len (names_of l.path) ≡ length (last_of n ns) = ap name_len e ∙ last_length n ns in (
        (last_plain l.path n ns e).name.short,
        (λ x. fits 3 (long_name refl (subst (IsLong f) (sym len) x))),
        fit_as l fits file l.word refl,
      )

  tree_fine : HoldAll (IsFine f) (tree_of m.lines sizes)
  unfolding tree_of
  tree_fine =
      let g : IsGrown (IsFine f) m.lines sizes latest (grown_by m.lines sizes latest) =
      grown_is (IsFine f) m.lines sizes latest latest w.checked w.have w.apart w.files w.faultless
      (every_of (Gives (IsFine f) m.lines sizes latest) latest fine) in
      subst (HoldAll (IsFine f)) (ap (λ (ls : List Line). grown m.lines sizes ls nothing) (sym w.reversed)) g.hold

pub rows_fit : (f : Format) (m : ManifestLines) (sizes : List ℕ) → IsManifest m → IsNone (HasLineMisfit f m sizes)
    → Every (IsFit f) (rows 1 (tree_of m.lines sizes))
rows_fit f m sizes h none =
    let k = known f m sizes h none in fit_rows f 1 (tree_of m.lines sizes) (tree_fine f m sizes k.0 k.1)
