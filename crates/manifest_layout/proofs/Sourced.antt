-- Files with the contents of one source ask for one alignment: that of its `file` line.
use Rattle.std.proofs.Common.{◌≡◌, ◌≢◌, ℕ, ◌+◌, ◌<◌, ◌≤◌, ◌==◌, ◌&&◌, nat_lt, Bool, true, false, ◌⊎◌, cond}
use Rattle.std.proofs.Common.{if◌then◌else◌, inl, inr, List, [], ◌∷◌, ◌++◌, find, reverse, Option, Some, None, refl}
use Rattle.std.proofs.Common.{sym, ap, subst, ◌∙◌, arith}
use Rattle.std.proofs.lemmas.Bool.{ltb-true, lt-ltb, le-ltb, eq-eqb, cases_lt}
use Rattle.std.proofs.lemmas.Bool.Decides.{eqb_tells}
use Rattle.std.proofs.lemmas.List.{reverse-append}
use Rattle.std.specs.List.{AllByRecursion as Every}
use Rattle.record_forest.specs.Members.{Has, Pairs}
use Rattle.record_forest.proofs.Lists.{pairs_push, every_of, every_join, every_weaker, pairs_pick}
use Rattle.manifest.specs.declared.line.Line.{Line}
use Rattle.manifest.specs.declared.line.Word.{Word}
use Rattle.manifest.specs.declared.line.Word.TheVariants.{Dir, File, Slink, Block, Character, Fifo, Socket, Hard, Same}
use Rattle.manifest.specs.Lines.{ManifestLines, is_file, is_hard, filed}
use Rattle.manifest.specs.Grammar.{IsManifest}
use Rattle.manifest_tree.specs.Names.{source, Inode, Names, nothing, leaf, link, subdirectory}
use Rattle.manifest_tree.specs.Tree.{What, a_leaf, a_link, a_directory, what_by, sources_before, with_contents}
use Rattle.manifest_tree.specs.Tree.{inode_by}
use Rattle.manifest_tree.specs.Tree.{inode_of, grown, tree_of}
use Rattle.manifest_tree.specs.Alignments.{align_by, HaveAlignments}
use Rattle.cramfs_layout.specs.Items.{AreAlignedBy}
use Rattle.formats.specs.Format.{Format}
use Rattle.manifest_layout.specs.Compact.{is_source, align_or, source_align}
use Rattle.manifest_layout.specs.Misfit.{HasNoMisfit}
use Rattle.manifest_layout.proofs.Sorted.{HoldAll, last_of}
use Rattle.manifest_layout.proofs.Led.{HasFile, filed_member}
use Rattle.manifest_layout.proofs.Grown.{Gives, grown_is}
use Rattle.manifest_layout.proofs.Known.{known}

-- more lines are before a later one
grows : (a b : ℕ) (l : Bool) (n : ℕ) (x y : ℕ) → a ≤ b → x ≤ y
    → (if l && nat_lt n a then x + 1 else x) ≤ (if l && nat_lt n b then y + 1 else y)
grows a b false n x y h k = k
grows a b true n x y h k =
    elim (nat_lt n a) as (λ t. nat_lt n a ≡ t → (if t then x + 1 else x) ≤ (if nat_lt n b then y + 1 else y)) [
      | true ↦ λ e. let l = ltb-true n a e in rw (lt-ltb n b (omega arith)) (omega arith)
      | false ↦ λ e. elim (nat_lt n b) as (λ t. x ≤ (if t then y + 1 else y)) [ true ↦ omega arith | false ↦ k ]
    ] refl

sources_grow : (a b : ℕ) (ls : List Line) → a ≤ b → sources_before a ls ≤ sources_before b ls
sources_grow a b [] h = omega arith
sources_grow a b (l ∷ ls) h =
    grows a b (is_file l.word) l.number (sources_before a ls) (sources_before b ls) h (sources_grow a b ls h)

-- a `file` line is before what comes after it
steps : (a b : ℕ) (l : Bool) (n : ℕ) (x y : ℕ) → a ≤ b → x < y
    → (if l && nat_lt n a then x + 1 else x) < (if l && nat_lt n b then y + 1 else y)
steps a b l n x y h k = let g = grows a b l n (x + 1) y h (omega arith) in elim l as
    (λ v. (if v && nat_lt n a then (x + 1) + 1 else x + 1) ≤ (if v && nat_lt n b then y + 1 else y)
    → (if v && nat_lt n a then x + 1 else x) < (if v && nat_lt n b then y + 1 else y)) [
      | true ↦ λ z. elim (nat_lt n a) as (λ t. (if t then (x + 1) + 1 else x + 1) ≤ (if nat_lt n b then y + 1 else y)
          → (if t then x + 1 else x) < (if nat_lt n b then y + 1 else y))
          [ true ↦ λ w. omega arith | false ↦ λ w. omega arith ] z
      | false ↦ λ z. k
    ] g

sources_less : (b : ℕ) (x : Line) (ls : List Line) → Has (λ l. l ≡ x) ls → is_file x.word ≡ true → x.number < b
    → sources_before x.number ls < sources_before b ls
sources_less b x [] h f l = absurd h
sources_less b x (y ∷ ls) (inl e) f l =
    let w : is_file y.word ≡ true = ap (λ (z : Line). is_file z.word) e ∙ f in
    let n : y.number ≡ x.number = ap (λ (z : Line). z.number) e in
    let g = sources_grow x.number b ls (omega arith) in
    rw (w, le-ltb y.number x.number (omega (arith, n)), lt-ltb y.number b (omega (arith, n))) (omega arith)
sources_less b x (y ∷ ls) (inr h) f l =
    steps x.number b (is_file y.word) y.number (sources_before x.number ls) (sources_before b ls) (omega arith)
    (sources_less b x ls h f l)

-- two `file` lines with the same number of `file` lines before them are one line
pub same_number : (x y : Line) (ls : List Line) → Has (λ l. l ≡ x) ls → Has (λ l. l ≡ y) ls → is_file x.word ≡ true
    → is_file y.word ≡ true → sources_before x.number ls ≡ sources_before y.number ls → x.number ≡ y.number
same_number x y ls h k f g e = elim (cases_lt x.number y.number) [
  | inl l ↦ let s = sources_less y.number x ls h f l in absurd (omega (arith, e))
  | inr l ↦ elim (cases_lt y.number x.number) [
    | inl m ↦ let s = sources_less x.number y ls k g m in absurd (omega (arith, e))
    | inr m ↦ omega arith
  ]
]

abbrev pub align_of : List Line → ℕ → ℕ
align_of all k = source_align all k

finds : (p : Line → Bool) (ls : List Line) (x : Line) → Has (λ l. l ≡ x) ls → p x ≡ true
    → (y : Line) × (find p ls ≡ Some y) × Has (λ l. l ≡ y) ls × (p y ≡ true)
finds p [] x h e = absurd h
finds p (l ∷ ls) x h e = elim (p l) as
    (λ t. p l ≡ t → (y : Line) × (cond t (Some l) (find p ls) ≡ Some y) × Has (λ z. z ≡ y) (l ∷ ls) × (p y ≡ true)) [
      | true ↦ λ g. (l, refl, inl refl, g)
      | false ↦ λ g. elim h [
        | inl i ↦ let z : false ≡ true = sym g ∙ (ap p i ∙ e) in absurd (cc)
        | inr i ↦ let r = finds p ls x i e in (r.0, r.1, inr r.2, r.3)
      ]
    ] refl

both_true : (a b : Bool) → (a && b) ≡ true → (a ≡ true) × (b ≡ true)
both_true true b h = (refl, h)
both_true false b h = absurd (cc)

align_is : (all : List Line) (x : Line) → Pairs (λ l k. l.number ≢ k.number) all → Has (λ l. l ≡ x) all
    → is_file x.word ≡ true → align_of all (sources_before x.number all) ≡ x.align
align_is all x p h f =
    let k = sources_before x.number all in
    let test : is_source all k x ≡ true = rw (f, eq-eqb k k refl) refl in
    let y = finds (is_source all k) all x h test in
    let t = both_true (is_file y.0.word) (sources_before y.0.number all == k) y.3 in
    let e : sources_before y.0.number all ≡ k =
    elim (eqb_tells (sources_before y.0.number all) k)
    [ inl s ↦ s.1 | inr s ↦ let z : false ≡ true = sym s.0 ∙ t.1 in absurd (cc) ] in
    let n = same_number y.0 x all y.2 h t.0 f e in
    let same : y.0.align ≡ x.align =
    elim (pairs_pick (λ (l : Line) (k : Line). l.number ≢ k.number) (λ l. l ≡ y.0) (λ l. l ≡ x) all p y.2 h) [
      | inl s ↦ ap (λ (l : Line). l.align) (sym s.1 ∙ s.2)
      | inr s ↦
          let a : s.0.number ≡ s.1.number =
          ap (λ (l : Line). l.number) s.2 ∙ n ∙ sym (ap (λ (l : Line). l.number) s.3) in
          elim s.4 [ inl d ↦ absurd (d a) | inr d ↦ absurd (d (sym a)) ]
    ] in
    ap align_or y.1 ∙ same

-- the file of a name is aligned as the `file` line of its source, or at 4
abbrev IsSourced : List Line → List ℕ → What → Type 0
IsSourced all name (a_leaf i) = i.align ≡ align_by (align_of all) i.fill
IsSourced all name (a_link i) = Unit {0}
IsSourced all name (a_directory i) = Unit {0}

aligned_by : (all : List Line) (n : Names) → HoldAll (IsSourced all) n → AreAlignedBy (align_of all) n
aligned_by all nothing h = tt
aligned_by all (leaf name i after) h = ((λ k e. h.0 ∙ ap (align_by (align_of all)) e), aligned_by all after h.1)
aligned_by all (link name i after) h = aligned_by all after h.1
aligned_by all (subdirectory name i own after) h = (aligned_by all own h.1, aligned_by all after h.2)

alignments : (all : List Line) (n : Names) → HoldAll (IsSourced all) n → HaveAlignments (align_of all) n
alignments all nothing h = tt
alignments all (leaf name i after) h = (h.0, alignments all after h.1)
alignments all (link name i after) h = alignments all after h.1
alignments all (subdirectory name i own after) h = (alignments all own h.1, alignments all after h.2)

contents_sourced : (all : List Line) (sizes : List ℕ) (l : Line) (o : Option Line)
    → Pairs (λ l k. l.number ≢ k.number) all
    → ((x : Line) → o ≡ Some x → Has (λ y. y ≡ x) all × (is_file x.word ≡ true))
    → (with_contents all sizes l o).align ≡ align_by (align_of all) (with_contents all sizes l o).fill
contents_sourced all sizes l None p h = refl
contents_sourced all sizes l (Some x) p h = let m = h x refl in sym (align_is all x p m.0 m.1)

inode_sourced : (all : List Line) (sizes : List ℕ) (l : Line) (w : Word) → Pairs (λ l k. l.number ≢ k.number) all
    → ((x : Line) → filed (reverse all) l.path ≡ Some x → Has (λ y. y ≡ x) all × (is_file x.word ≡ true))
    → (inode_by all sizes w l).align ≡ align_by (align_of all) (inode_by all sizes w l).fill
inode_sourced all sizes l Dir p h = refl
inode_sourced all sizes l File p h = contents_sourced all sizes l (filed (reverse all) l.path) p h
inode_sourced all sizes l Slink p h = refl
inode_sourced all sizes l Block p h = refl
inode_sourced all sizes l Character p h = refl
inode_sourced all sizes l Fifo p h = refl
inode_sourced all sizes l Socket p h = refl
inode_sourced all sizes l Hard p h = refl
inode_sourced all sizes l Same p h = contents_sourced all sizes l (filed (reverse all) l.path) p h

-- a member is in the reversed list, too
has_push : {X : Type 0} (P : X → Type 0) (xs : List X) (x : X) → Has P xs ⊎ P x → Has P (xs ++ x ∷ [])
has_push P [] x (inl h) = absurd h
has_push P [] x (inr p) = inl p
has_push P (y ∷ ys) x (inl (inl p)) = inl p
has_push P (y ∷ ys) x (inl (inr h)) = inr (has_push P ys x (inl h))
has_push P (y ∷ ys) x (inr p) = inr (has_push P ys x (inr p))

pub has_reverse : {X : Type 0} (P : X → Type 0) (xs : List X) → Has P xs → Has P (reverse xs)
has_reverse P [] h = absurd h
has_reverse P (x ∷ xs) h = subst (Has P) (sym (reverse-append (x ∷ []) xs))
    (has_push P (reverse xs) x (elim h [ inl p ↦ inr p | inr k ↦ inl (has_reverse P xs k) ]))

pub every_back : {X : Type 0} (P : X → Type 0) (xs : List X) → Every P xs → Every P (reverse xs)
every_back P [] h = tt
every_back P (x ∷ xs) h = subst (Every P) (sym (reverse-append (x ∷ []) xs))
    (every_join P (reverse xs) (x ∷ []) (every_back P xs h.1) (h.0, tt))

pairs_reverse : {X : Type 0} (R : X → X → Type 0) → ((x y : X) → R x y → R y x) → (xs : List X) → Pairs R xs
    → Pairs R (reverse xs)
pairs_reverse R flip [] p = tt
pairs_reverse R flip (x ∷ xs) p = subst (Pairs R) (sym (reverse-append (x ∷ []) xs))
    (pairs_push R (reverse xs) x (pairs_reverse R flip xs p.1)
    (every_weaker (R x) (λ y. R y x) (λ y r. flip x y r) (reverse xs) (every_back (R x) xs p.0)))

leaf_sourced : (m : ManifestLines) (sizes : List ℕ) (latest : List Line) → reverse m.lines ≡ latest
    → m.lines ≡ reverse latest → Pairs (λ l k. l.number ≢ k.number) m.lines
    → (l : Line) (file : HasFile m.lines sizes latest l)
    → is_hard l.word ≡ false → file.inode.align ≡ align_by (align_of m.lines) file.inode.fill
unfolding inode_of
leaf_sourced m sizes latest back front apart l file h =
    let own = file.own h in
    let found : (x : Line) → filed (reverse m.lines) l.path ≡ Some x
    → Has (λ y. y ≡ x) m.lines × (is_file x.word ≡ true) = λ x g.
    let r = filed_member (reverse m.lines) l.path x g in
    (subst (Has (λ y. y ≡ x)) (sym front) (has_reverse (λ y. y ≡ x) latest (subst (Has (λ y. y ≡ x)) back r.0)), r.1) in
    subst (λ (i : Inode). i.align ≡ align_by (align_of m.lines) i.fill) (sym own)
    (inode_sourced m.lines sizes l l.word apart found)

sourced_by : (m : ManifestLines) (sizes : List ℕ) (latest : List Line) → reverse m.lines ≡ latest
    → m.lines ≡ reverse latest → Pairs (λ l k. l.number ≢ k.number) m.lines
    → (l : Line) (file : HasFile m.lines sizes latest l) (name : List ℕ)
    → (w : Word) → l.word ≡ w → IsSourced m.lines name (what_by w file.inode)
sourced_by m sizes latest back front apart l file name Dir e = tt
sourced_by m sizes latest back front apart l file name File e =
    leaf_sourced m sizes latest back front apart l file (ap is_hard e)
sourced_by m sizes latest back front apart l file name Slink e =
    leaf_sourced m sizes latest back front apart l file (ap is_hard e)
sourced_by m sizes latest back front apart l file name Block e =
    leaf_sourced m sizes latest back front apart l file (ap is_hard e)
sourced_by m sizes latest back front apart l file name Character e =
    leaf_sourced m sizes latest back front apart l file (ap is_hard e)
sourced_by m sizes latest back front apart l file name Fifo e =
    leaf_sourced m sizes latest back front apart l file (ap is_hard e)
sourced_by m sizes latest back front apart l file name Socket e =
    leaf_sourced m sizes latest back front apart l file (ap is_hard e)
sourced_by m sizes latest back front apart l file name Hard e = tt
sourced_by m sizes latest back front apart l file name Same e =
    leaf_sourced m sizes latest back front apart l file (ap is_hard e)

all_sourced : (f : Format) (m : ManifestLines) (sizes : List ℕ) → IsManifest m → HasNoMisfit f m sizes
    → HoldAll (IsSourced m.lines) (tree_of m.lines sizes)
unfolding tree_of
all_sourced f m sizes h none =
    let k = known f m sizes h none.lines in
    let latest = k.0 in
    let w = k.1 in
    let apart : Pairs (λ (l : Line) (k : Line). l.number ≢ k.number) m.lines =
    subst (Pairs (λ (l : Line) (k : Line). l.number ≢ k.number)) (sym w.reversed)
    (pairs_reverse (λ (l : Line) (k : Line). l.number ≢ k.number) (λ l k d z. d (sym z)) latest w.apart) in
    let gives : (l : Line) → Has (λ x. x ≡ l) latest → Gives (IsSourced m.lines) m.lines sizes latest l =
    λ l here file n ns e. sourced_by m sizes latest w.back w.reversed apart l file (last_of n ns) l.word refl in
    let g = grown_is (IsSourced m.lines) m.lines sizes latest latest w.checked w.have w.apart w.files w.faultless
    (every_of (Gives (IsSourced m.lines) m.lines sizes latest) latest gives) in
    subst (λ (n : Names). HoldAll (IsSourced m.lines) n)
    (ap (λ (ls : List Line). grown m.lines sizes ls nothing) (sym w.reversed)) g.hold

pub sourced : (f : Format) (m : ManifestLines) (sizes : List ℕ) → IsManifest m → HasNoMisfit f m sizes
    → AreAlignedBy (align_of m.lines) (tree_of m.lines sizes)
sourced f m sizes h none = aligned_by m.lines (tree_of m.lines sizes) (all_sourced f m sizes h none)

-- the files ask for these alignments
pub have_alignments : (f : Format) (m : ManifestLines) (sizes : List ℕ) → IsManifest m → HasNoMisfit f m sizes
    → HaveAlignments (align_of m.lines) (tree_of m.lines sizes)
have_alignments f m sizes h none = alignments m.lines (tree_of m.lines sizes) (all_sourced f m sizes h none)
