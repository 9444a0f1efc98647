-- Files are at offsets for which the lines of a manifest ask, and the volume has its name.
use Rattle.std.proofs.Common.{◌≡◌, ◌≢◌, ℕ, zero, suc, ◌-◌, ◌||◌, ◌&&◌, Bool, true, false, eqb, cond, List, [], ◌∷◌}
use Rattle.std.proofs.Common.{◌++◌, length, reverse, replicate, find, take, drop, inl, inr, Option, Some, None, refl}
use Rattle.std.proofs.Common.{sym, ap, subst, ◌∙◌}
use Rattle.std.proofs.lemmas.Bool.{eqb-true}
use Rattle.std.proofs.lemmas.List.{reverse-reverse}
use Rattle.std.specs.Cmp.Lexicographic.{bytes_decides, nat_list_eq_equiv}
use Rattle.std.specs.List.{AllByRecursion as Every}
use Rattle.std.specs.Option.{option_map, option_and_then}
use Rattle.std.specs.Str.{bytes_eq}
use Rattle.record_forest.specs.Members.{Has}
use Rattle.record_forest.proofs.Lists.{has_of}
use Rattle.rom_tree.specs.Tree.{Node, places_of}
use Rattle.romfs_format.specs.Record.{before_zero}
use Rattle.manifest.specs.declared.line.Line.{Line}
use Rattle.manifest.specs.declared.line.Word.{Word}
use Rattle.manifest.specs.declared.line.Word.TheVariants.{Dir, File, Slink, Block, Character, Fifo, Socket, Hard, Same}
use Rattle.manifest.specs.Grammar.{IsManifest}
use Rattle.manifest.specs.Lines.{ManifestLines, is_file, is_hard, is_same, led, filed}
use Rattle.manifest.specs.Paths.{names_of}
use Rattle.manifest.proofs.Checked.{AreChecked, checked_lines, sound_place}
use Rattle.manifest.proofs.Named.{path_with_names}
use Rattle.manifest_tree.specs.Names.{source, Inode}
use Rattle.manifest_tree.specs.Shape.{file_under, with_names}
use Rattle.manifest_tree.specs.Tree.{with_contents, inode_by, inode_of, file_at, root_of, tree_of, names_eq, is_named}
use Rattle.manifest_tree.specs.Tree.{sources_before}
use Rattle.manifest_tree.proofs.Law.{law_of_names}
use Rattle.manifest_tree.specs.Placement.{IsRun, AreInRuns}
use Rattle.romfs_layout.specs.Disjoint.{FilesAreApart}
use Rattle.cramfs_layout.specs.Sharing.{SourcesAreShared}
use Rattle.formats.specs.Format.{Format}
use Rattle.manifest_layout.specs.Misfit.{HasNoMisfit}
use Rattle.manifest_layout.specs.Placement.{IsPlaced, AreShared, AreApart}
use Rattle.manifest_layout.proofs.Grown.{inode_line}
use Rattle.manifest_layout.proofs.Led.{no_path}
use Rattle.manifest_layout.proofs.Known.{known}
use Rattle.manifest_layout.proofs.Plain.{good_text}

-- the line to which a path with contents leads: a `file` or a `same` line that has them
record IsFiled (ls : List Line) (p : List ℕ) (o : Line) : Type 0 where
  line : Line
  leads : led ls p ≡ Some line
  here : Has (λ x. x ≡ line) ls
  filed_too : filed ls line.path ≡ Some o
  makes : (is_file line.word || is_same line.word) ≡ true

filed_step : (l : Line) (ls : List Line) → AreChecked (l ∷ ls) → (o : Line)
    → ((q : List ℕ) → filed ls q ≡ Some o → IsFiled ls q o) → (p : List ℕ) → filed (l ∷ ls) p ≡ Some o
    → IsFiled (l ∷ ls) p o
filed_step l ls c o again p e = elim (bytes_eq l.path p) as
    (λ t. bytes_eq l.path p ≡ t → cond t
    (cond (is_hard l.word || is_same l.word) (filed ls l.text) (cond (is_file l.word) (Some l) None)) (filed ls p)
    ≡ Some o → IsFiled (l ∷ ls) p o) [
      | true ↦ λ b g. by l.word refl b g
      | false ↦ λ b g. past p (again p g) (rw b refl)
    ] refl e
  where
    self : bytes_eq l.path l.path ≡ true
    self = (bytes_decides l.path l.path).1 refl

    apart : (k : Line) → Has (λ x. x ≡ k) ls → bytes_eq l.path k.path ≡ false
    apart k h =
        nat_list_eq_equiv.symm l.path k.path
        ∙ has_of (λ (x : Line). bytes_eq x.path l.path ≡ false) ls k h (no_path ls l.path (sound_place ls l c.0).1)

    past : (q : List ℕ) → IsFiled ls q o → led (l ∷ ls) p ≡ led ls q → IsFiled (l ∷ ls) p o
    past q f e = record {
      line = f.line;
      leads = e ∙ f.leads;
      here = inr f.here;
      filed_too = (let n = apart f.line f.here in rw n f.filed_too);
      makes = f.makes;
    }

    by : (w : Word) → l.word ≡ w → bytes_eq l.path p ≡ true
        → cond (is_hard w || is_same w) (filed ls l.text) (cond (is_file w) (Some l) None) ≡ Some o
        → IsFiled (l ∷ ls) p o
    by Dir e b g = absurd (cc)
    by Slink e b g = absurd (cc)
    by Block e b g = absurd (cc)
    by Character e b g = absurd (cc)
    by Fifo e b g = absurd (cc)
    by Socket e b g = absurd (cc)
    by Hard e b g = past l.text (again l.text g) (let h : is_hard l.word ≡ true = ap is_hard e in rw (b, h) refl)
    by File e b g =
        let h : is_hard l.word ≡ false = ap is_hard e in
        let s : is_same l.word ≡ false = ap is_same e in
        let f : is_file l.word ≡ true = ap is_file e in
        record {
          line = l;
          leads = rw (b, h) refl;
          here = inl refl;
          filed_too = rw (self, h, s, f) g;
          makes = rw f refl;
        }
    by Same e b g =
        let h : is_hard l.word ≡ false = ap is_hard e in
        let s : is_same l.word ≡ true = ap is_same e in
        let f : is_file l.word ≡ false = ap is_file e in
        record {
          line = l;
          leads = rw (b, h) refl;
          here = inl refl;
          filed_too = rw (self, h, s) g;
          makes = rw (f, s) refl;
        }

filed_leads : (ls : List Line) → AreChecked ls → (p : List ℕ) (o : Line) → filed ls p ≡ Some o → IsFiled ls p o
filed_leads [] c p o e = absurd (cc)
filed_leads (l ∷ ls) c p o e = filed_step l ls c o (λ q g. filed_leads ls c.1 q o g) p e

-- the file of such a line is aligned as the line with its contents asks
align_by : (all : List Line) (sizes : List ℕ) (k o : Line) (w : Word) → (is_file w || is_same w) ≡ true
    → filed (reverse all) k.path ≡ Some o → (inode_by all sizes w k).align ≡ o.align
align_by all sizes k o File h e = ap (λ (f : Option Line). (with_contents all sizes k f).align) e
align_by all sizes k o Same h e = ap (λ (f : Option Line). (with_contents all sizes k f).align) e
align_by all sizes k o Dir h e = absurd (cc)
align_by all sizes k o Slink h e = absurd (cc)
align_by all sizes k o Block h e = absurd (cc)
align_by all sizes k o Character h e = absurd (cc)
align_by all sizes k o Fifo h e = absurd (cc)
align_by all sizes k o Socket h e = absurd (cc)
align_by all sizes k o Hard h e = absurd (cc)

align_is : (all : List Line) (sizes : List ℕ) (k o : Line) → (is_file k.word || is_same k.word) ≡ true
    → filed (reverse all) k.path ≡ Some o → (inode_of all sizes k).align ≡ o.align
unfolding inode_of
align_is all sizes k o h e = align_by all sizes k o k.word h e

-- and its bytes are those of that line's source
fill_by : (all : List Line) (sizes : List ℕ) (k o : Line) (w : Word) → (is_file w || is_same w) ≡ true
    → filed (reverse all) k.path ≡ Some o → (inode_by all sizes w k).fill ≡ source (sources_before o.number all)
fill_by all sizes k o File h e = ap (λ (f : Option Line). (with_contents all sizes k f).fill) e
fill_by all sizes k o Same h e = ap (λ (f : Option Line). (with_contents all sizes k f).fill) e
fill_by all sizes k o Dir h e = absurd (cc)
fill_by all sizes k o Slink h e = absurd (cc)
fill_by all sizes k o Block h e = absurd (cc)
fill_by all sizes k o Character h e = absurd (cc)
fill_by all sizes k o Fifo h e = absurd (cc)
fill_by all sizes k o Socket h e = absurd (cc)
fill_by all sizes k o Hard h e = absurd (cc)

fill_is : (all : List Line) (sizes : List ℕ) (k o : Line) → (is_file k.word || is_same k.word) ≡ true
    → filed (reverse all) k.path ≡ Some o → (inode_of all sizes k).fill ≡ source (sources_before o.number all)
unfolding inode_of
fill_is all sizes k o h e = fill_by all sizes k o k.word h e

-- names are the same exactly if the test says so
names_same : (ns : List (List ℕ)) → names_eq ns ns ≡ true
names_same [] = refl
names_same (n ∷ ns) = let s : bytes_eq n n ≡ true = (bytes_decides n n).1 refl in rw s (names_same ns)

and_true : (a b : Bool) → (a && b) ≡ true → (a ≡ true) × (b ≡ true)
and_true true b h = (refl, h)
and_true false b h = absurd (cc)

names_equal : (ms ns : List (List ℕ)) → names_eq ms ns ≡ true → ms ≡ ns
names_equal [] [] h = refl
names_equal [] (n ∷ ns) h = absurd (cc)
names_equal (m ∷ ms) [] h = absurd (cc)
names_equal (m ∷ ms) (n ∷ ns) h =
    let s = and_true (bytes_eq m n) (names_eq ms ns) h in
    ap (λ (x : List ℕ). x ∷ ms) ((bytes_decides m n).0 s.0)
    ∙ ap (λ (xs : List (List ℕ)). n ∷ xs) (names_equal ms ns s.1)

is_these : (q : List (List ℕ)) (o : Option (List (List ℕ))) → is_named q o ≡ true → o ≡ Some q
is_these q None h = absurd (cc)
is_these q (Some ns) h = ap (λ (x : List (List ℕ)). Some x) (names_equal ns q h)

-- the first line with the names of a line
first_named : (ls : List Line) (q : List (List ℕ)) (l : Line) → Has (λ k. k ≡ l) ls → names_of l.path ≡ Some q
    → (k : Line) × (find (λ (x : Line). is_named q (names_of x.path)) ls ≡ Some k) × (names_of k.path ≡ Some q)
first_named [] q l h e = absurd h
first_named (x ∷ xs) q l h e =
    let rest = find (λ (y : Line). is_named q (names_of y.path)) xs in
    elim (is_named q (names_of x.path)) as
    (λ t. is_named q (names_of x.path) ≡ t
    → (k : Line) × (cond t (Some x) rest ≡ Some k) × (names_of k.path ≡ Some q)) [
      | true ↦ λ b. (x, refl, is_these q (names_of x.path) b)
      | false ↦ λ b. elim h [
        | inl s ↦
            let same : names_of x.path ≡ Some q = ap (λ (y : Line). names_of y.path) s ∙ e in
            let yes : is_named q (names_of x.path) ≡ true = ap (is_named q) same ∙ names_same q in
            let no : true ≡ false = sym yes ∙ b in
            absurd (cc)
        | inr s ↦ first_named xs q l s e
      ]
    ] refl

-- the file at the path of a line that leads to k
named_file : (m : ManifestLines) (sizes : List ℕ) → IsManifest m → (l k : Line) (n : List ℕ) (ns : List (List ℕ))
    → Has (λ z. z ≡ l) m.lines → led (reverse m.lines) l.path ≡ Some k → names_of l.path ≡ Some (n ∷ ns)
    → file_under (n ∷ ns) (with_names (root_of m.lines sizes) (tree_of m.lines sizes)) ≡ Some (inode_of m.lines sizes k)
unfolding file_at
named_file m sizes h l k n ns here leads e =
    let all = m.lines in
    let q = n ∷ ns in
    let first = first_named all q l here e in
    let same : first.0.path ≡ l.path =
    (path_with_names first.0.path n ns first.2).joined ∙ sym (path_with_names l.path n ns e).joined in
    let at_line : file_at all sizes l.path ≡ Some (inode_of all sizes k) = ap (option_map (inode_of all sizes)) leads in
    law_of_names m sizes q h ∙ ap (option_and_then (λ (y : Line). file_at all sizes y.path)) first.1
    ∙ ap (file_at all sizes) same ∙ at_line

-- the file at the path of a line that leads to the contents of o
record FileOf (m : ManifestLines) (sizes : List ℕ) (q : List (List ℕ)) (o : Line) : Type 0 where
  inode : Inode
  is : file_under q (with_names (root_of m.lines sizes) (tree_of m.lines sizes)) ≡ Some inode
  align : inode.align ≡ o.align
  fill : inode.fill ≡ source (sources_before o.number m.lines)

file_of : (m : ManifestLines) (sizes : List ℕ) → IsManifest m → (l o : Line) (n : List ℕ) (ns : List (List ℕ))
    → Has (λ z. z ≡ l) m.lines → filed (reverse m.lines) l.path ≡ Some o → names_of l.path ≡ Some (n ∷ ns)
    → FileOf m sizes (n ∷ ns) o
file_of m sizes h l o n ns here f e =
    let all = m.lines in
    let c = checked_lines m h.0 h.1 in
    let back : reverse all ≡ c.latest = ap reverse c.reversed ∙ reverse-reverse c.latest in
    let g = filed_leads c.latest c.checked l.path o (ap (λ (ls : List Line). filed ls l.path) (sym back) ∙ f) in
    let leads : led (reverse all) l.path ≡ Some g.line = ap (λ (ls : List Line). led ls l.path) back ∙ g.leads in
    let own : filed (reverse all) g.line.path ≡ Some o =
    ap (λ (ls : List Line). filed ls g.line.path) back ∙ g.filed_too in
    record {
      inode = inode_of all sizes g.line;
      is = named_file m sizes h l g.line n ns here leads e;
      align = align_is all sizes g.line o g.makes own;
      fill = fill_is all sizes g.line o g.makes own;
    }

pub placed : (m : ManifestLines) (sizes : List ℕ) (t : Node) → IsManifest m
    → AreInRuns t (root_of m.lines sizes) (tree_of m.lines sizes) → IsPlaced t m
placed m sizes t h runs l o n ns x here f e node =
    let i = file_of m sizes h l o n ns here f e in
    subst (λ (a : ℕ). IsRun a (places_of x)) i.align (runs (n ∷ ns) x i.inode node i.is)

-- lines with the contents of one `file` line name one source
pub files_shared : (m : ManifestLines) (sizes : List ℕ) (t : Node) → IsManifest m
    → SourcesAreShared t (root_of m.lines sizes) (tree_of m.lines sizes) → AreShared t m
files_shared m sizes t h share k l o n p ns ps x y in_k in_l f g e d at_x at_y =
    let i = file_of m sizes h k o n ns in_k f e in
    let j = file_of m sizes h l o p ps in_l g d in
    share (n ∷ ns) (p ∷ ps) x y i.inode j.inode (sources_before o.number m.lines) at_x at_y i.is j.is i.fill j.fill

-- each line makes one file
pub files_apart : (m : ManifestLines) (sizes : List ℕ) (t : Node) → IsManifest m
    → FilesAreApart t (root_of m.lines sizes) (tree_of m.lines sizes) → AreApart t m
files_apart m sizes t h apart k l a b n p ns ps x y in_k in_l f g differ e d at_x at_y =
    let i = named_file m sizes h k a n ns in_k f e in
    let j = named_file m sizes h l b p ps in_l g d in
    apart (n ∷ ns) (p ∷ ps) x y (inode_of m.lines sizes a) (inode_of m.lines sizes b) at_x at_y i j
    (λ z. differ (sym (inode_line m.lines sizes a) ∙ z ∙ inode_line m.lines sizes b))

-- a name is before its zeros
before_zeros : (name : List ℕ) (k : ℕ) → Every (λ x. x ≢ 0) name → before_zero (name ++ replicate k 0) ≡ name
before_zeros [] zero h = refl
before_zeros [] (suc k) h = refl
before_zeros (x ∷ xs) k h =
    let ih = before_zeros xs k h.1 in
    elim (eqb x 0) as (λ t. eqb x 0 ≡ t → cond t [] (x ∷ before_zero (xs ++ replicate k 0)) ≡ x ∷ xs)
    [ true ↦ λ e. absurd (h.0 (eqb-true x 0 e)) | false ↦ λ e. ap (λ (ys : List ℕ). x ∷ ys) ih ] refl

pub named_in_cramfs : (f : Format) (m : ManifestLines) (sizes b : List ℕ) → IsManifest m → HasNoMisfit f m sizes
    → take 16 (drop 48 b) ≡ m.volume ++ replicate (16 - length m.volume) 0
    → before_zero (take 16 (drop 48 b)) ≡ m.volume
named_in_cramfs f m sizes b h none e =
    let v = good_text 255 m.volume (known f m sizes h none.lines).1.volume in
    ap before_zero e ∙ before_zeros m.volume (16 - length m.volume) v.1
