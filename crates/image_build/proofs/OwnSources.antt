-- Files of a manifest have sources of their own if no line names the contents of another.
use Rattle.std.proofs.Common.{◌≡◌, ◌≢◌, ℕ, ◌||◌, Bool, true, false, cond, List, [], ◌∷◌, reverse}
use Rattle.std.proofs.Common.{Option, Some, None, refl, sym, ap, subst, ◌∙◌}
use Rattle.std.specs.Str.{bytes_eq}
use Rattle.std.specs.List.{AllByRecursion as Every}
use Rattle.record_forest.specs.Members.{Has, Pairs}
use Rattle.record_forest.proofs.Lists.{every_of, every_join, every_weaker, every_both, has_of}
use Rattle.manifest.specs.declared.line.Line.{Line}
use Rattle.manifest.specs.declared.line.Word.{Word}
use Rattle.manifest.specs.declared.line.Word.TheVariants.{Dir, File, Slink, Block, Character, Fifo, Socket, Hard, Same}
use Rattle.manifest.specs.Lines.{ManifestLines, is_file, is_hard, is_same, led, filed}
use Rattle.manifest.specs.Grammar.{IsManifest}
use Rattle.manifest_tree.specs.Names.{source, Inode, Names, nothing, leaf, link, subdirectory}
use Rattle.manifest_tree.specs.Tree.{What, a_leaf, a_link, a_directory, what_by, sources_before, with_contents}
use Rattle.manifest_tree.specs.Tree.{inode_by}
use Rattle.manifest_tree.specs.Tree.{inode_of, grown, tree_of}
use Rattle.manifest_tree.proofs.Law.{grown_by}
use Rattle.manifest_tree.specs.Files.{files}
use Rattle.formats.specs.Format.{Format}
use Rattle.manifest_layout.specs.Misfit.{HasNoMisfit}
use Rattle.manifest_layout.proofs.Sorted.{HoldAll, last_of}
use Rattle.manifest_layout.proofs.Led.{HasFile, LedIn, all_led}
use Rattle.manifest_layout.proofs.Grown.{Gives, grown_is}
use Rattle.manifest_layout.proofs.Known.{known}
use Rattle.manifest_layout.proofs.Sourced.{has_reverse, every_back, same_number}
use Rattle.image_build.proofs.InRomfs.{Apart}

-- a path that leads to a `file` line has its contents
not_others : (w : Word) → is_file w ≡ true → (is_hard w || is_same w) ≡ false
not_others Dir e = absurd (cc)
not_others File e = refl
not_others Slink e = absurd (cc)
not_others Block e = absurd (cc)
not_others Character e = absurd (cc)
not_others Fifo e = absurd (cc)
not_others Socket e = absurd (cc)
not_others Hard e = absurd (cc)
not_others Same e = absurd (cc)

or_here : (b : Bool) → (true || b) ≡ true
or_here b = refl

same_some : {X : Type 0} {x y : X} → Some x ≡ Some y → x ≡ y
same_some e = cc

led_filed : (ls : List Line) (p : List ℕ) (x : Line) → led ls p ≡ Some x → is_file x.word ≡ true → filed ls p ≡ Some x
led_filed [] p x e f = absurd (cc)
led_filed (l ∷ ls) p x e f = elim (bytes_eq l.path p) as
    (λ t. cond t (cond (is_hard l.word) (led ls l.text) (Some l)) (led ls p) ≡ Some x
    → cond t (cond (is_hard l.word || is_same l.word) (filed ls l.text) (cond (is_file l.word) (Some l) None))
    (filed ls p) ≡ Some x) [
      | true ↦ λ g. elim (is_hard l.word) as
          (λ h. cond h (led ls l.text) (Some l) ≡ Some x
          → cond (h || is_same l.word) (filed ls l.text) (cond (is_file l.word) (Some l) None) ≡ Some x) [
            | true ↦ λ j. led_filed ls l.text x j f
            | false ↦ λ j.
                let is : l ≡ x = same_some j in
                let mine : is_file l.word ≡ true = ap (λ (z : Line). is_file z.word) is ∙ f in
                let none : is_same l.word ≡ false = by l.word mine in
                rw (none, mine) j
          ] g
      | false ↦ λ g. led_filed ls p x g f
    ] e
  where
    by : (w : Word) → is_file w ≡ true → is_same w ≡ false
    by Dir e = absurd (cc)
    by File e = refl
    by Slink e = absurd (cc)
    by Block e = absurd (cc)
    by Character e = absurd (cc)
    by Fifo e = absurd (cc)
    by Socket e = absurd (cc)
    by Hard e = absurd (cc)
    by Same e = absurd (cc)

-- a file with the contents of a source is that of the source's line
abbrev IsOfLine : List Line → Inode → Type 0
IsOfLine all i =
    (k : ℕ) → i.fill ≡ source k
    → (x : Line) × Has (λ y. y ≡ x) all × (is_file x.word ≡ true) × (x.number ≡ i.line)
    × (sources_before x.number all ≡ k)

abbrev Holds : List Line → List ℕ → What → Type 0
Holds all name (a_leaf i) = IsOfLine all i
Holds all name (a_link i) = Unit {0}
Holds all name (a_directory i) = IsOfLine all i

files_of_lines : (all : List Line) (n : Names) → HoldAll (Holds all) n → Every (IsOfLine all) (files n)
files_of_lines all nothing h = tt
files_of_lines all (leaf name i after) h = (h.0, files_of_lines all after h.1)
files_of_lines all (link name i after) h = files_of_lines all after h.1
files_of_lines all (subdirectory name i own after) h = (
  h.0,
  every_join (IsOfLine all) (files own) (files after) (files_of_lines all own h.1)
      (files_of_lines all after h.2),
)

same_source : {j k : ℕ} → source j ≡ source k → j ≡ k
same_source e = cc

contents_of_line : (all : List Line) (sizes : List ℕ) (l : Line) (o : Option Line) → Has (λ y. y ≡ l) all
    → is_file l.word ≡ true
    → o ≡ Some l → IsOfLine all (with_contents all sizes l o)
contents_of_line all sizes l None here f e k g = absurd (cc)
contents_of_line all sizes l (Some x) here f e k g =
    let is : x ≡ l =
    same_some e in (l, here, f, refl, sym (ap (λ (z : Line). sources_before z.number all) is) ∙ same_source g)

inode_of_line : (all : List Line) (sizes : List ℕ) (l : Line) (w : Word) → l.word ≡ w → Has (λ y. y ≡ l) all
    → is_same w ≡ false
    → (is_file l.word ≡ true → filed (reverse all) l.path ≡ Some l) → IsOfLine all (inode_by all sizes w l)
inode_of_line all sizes l Dir e here s f = λ k g. absurd (cc)
inode_of_line all sizes l File e here s f =
    let w : is_file l.word ≡ true =
    ap is_file e in contents_of_line all sizes l (filed (reverse all) l.path) here w (f w)
inode_of_line all sizes l Slink e here s f = λ k g. absurd (cc)
inode_of_line all sizes l Block e here s f = λ k g. absurd (cc)
inode_of_line all sizes l Character e here s f = λ k g. absurd (cc)
inode_of_line all sizes l Fifo e here s f = λ k g. absurd (cc)
inode_of_line all sizes l Socket e here s f = λ k g. absurd (cc)
inode_of_line all sizes l Hard e here s f = λ k g. absurd (cc)
inode_of_line all sizes l Same e here s f = λ k g. absurd (cc)

own_file : (m : ManifestLines) (sizes : List ℕ) (latest : List Line) → reverse m.lines ≡ latest
    → m.lines ≡ reverse latest
    → (l : Line) → Has (λ y. y ≡ l) latest → is_same l.word ≡ false → LedIn latest l
    → (file : HasFile m.lines sizes latest l)
    → is_hard l.word ≡ false → IsOfLine m.lines file.inode
unfolding inode_of
own_file m sizes latest back front l here s leads file h =
    let there : Has (λ y. y ≡ l) m.lines =
    subst (Has (λ y. y ≡ l)) (sym front) (has_reverse (λ y. y ≡ l) latest here) in
    let found : is_file l.word ≡ true → filed (reverse m.lines) l.path ≡ Some l =
    λ f. ap (λ (ls : List Line). filed ls l.path) back ∙ led_filed latest l.path l (leads.own h) f in
    subst (IsOfLine m.lines) (sym (file.own h)) (inode_of_line m.lines sizes l l.word refl there s found)

held_by : (m : ManifestLines) (sizes : List ℕ) (latest : List Line) → reverse m.lines ≡ latest
    → m.lines ≡ reverse latest
    → (l : Line) → Has (λ y. y ≡ l) latest → is_same l.word ≡ false → LedIn latest l
    → (file : HasFile m.lines sizes latest l)
    → (name : List ℕ) (w : Word) → l.word ≡ w → Holds m.lines name (what_by w file.inode)
held_by m sizes latest back front l here s leads file name Dir e =
    own_file m sizes latest back front l here s leads file (ap is_hard e)
held_by m sizes latest back front l here s leads file name File e =
    own_file m sizes latest back front l here s leads file (ap is_hard e)
held_by m sizes latest back front l here s leads file name Slink e =
    own_file m sizes latest back front l here s leads file (ap is_hard e)
held_by m sizes latest back front l here s leads file name Block e =
    own_file m sizes latest back front l here s leads file (ap is_hard e)
held_by m sizes latest back front l here s leads file name Character e =
    own_file m sizes latest back front l here s leads file (ap is_hard e)
held_by m sizes latest back front l here s leads file name Fifo e =
    own_file m sizes latest back front l here s leads file (ap is_hard e)
held_by m sizes latest back front l here s leads file name Socket e =
    own_file m sizes latest back front l here s leads file (ap is_hard e)
held_by m sizes latest back front l here s leads file name Hard e = tt
held_by m sizes latest back front l here s leads file name Same e =
    own_file m sizes latest back front l here s leads file (ap is_hard e)

files_apart : (all : List Line) (is : List Inode) → Every (IsOfLine all) is → Pairs (λ i j. i.line ≢ j.line) is
    → Pairs (λ i j. Apart i.fill j.fill) is
files_apart all [] h p = tt
files_apart all (i ∷ is) h p = (
  every_weaker (λ j. IsOfLine all j × (i.line ≢ j.line)) (λ j. Apart i.fill j.fill) differ is
      (every_both (IsOfLine all) (λ j. i.line ≢ j.line) is h.1 p.0),
  files_apart all is h.1 p.1,
)
  where
    differ : (j : Inode) → IsOfLine all j × (i.line ≢ j.line) → Apart i.fill j.fill
    differ j g k a b =
        let x = h.0 k a in
        let y = g.0 k b in
        g.1 (sym x.3 ∙ same_number x.0 y.0 all x.1 y.1 x.2 y.2 (x.4 ∙ sym y.4) ∙ y.3)

pub own_sources : (f : Format) (m : ManifestLines) (sizes : List ℕ) → IsManifest m → HasNoMisfit f m sizes
    → Every (λ l. is_same l.word ≡ false) m.lines → Pairs (λ i j. Apart i.fill j.fill) (files (tree_of m.lines sizes))
unfolding tree_of
own_sources f m sizes h none alone =
    let k = known f m sizes h none.lines in
    let latest = k.0 in
    let w = k.1 in
    let leads = all_led latest w.checked in
    let lone : Every (λ (l : Line). is_same l.word ≡ false) latest =
    subst (Every (λ (l : Line). is_same l.word ≡ false)) w.back
    (every_back (λ (l : Line). is_same l.word ≡ false) m.lines alone) in
    let gives : (l : Line) → Has (λ x. x ≡ l) latest → Gives (Holds m.lines) m.lines sizes latest l =
    λ l here file n ns e.
    held_by m sizes latest w.back w.reversed l here (has_of (λ (x : Line). is_same x.word ≡ false) latest l here lone)
    (has_of (LedIn latest) latest l here leads) file (last_of n ns) l.word refl in
    let g = grown_is (Holds m.lines) m.lines sizes latest latest w.checked w.have w.apart w.files w.faultless
    (every_of (Gives (Holds m.lines) m.lines sizes latest) latest gives) in
    let same : grown_by m.lines sizes latest ≡ grown m.lines sizes m.lines nothing =
    ap (λ (ls : List Line). grown m.lines sizes ls nothing) (sym w.reversed) in
    subst (λ (n : Names). Pairs (λ (i : Inode) (j : Inode). Apart i.fill j.fill) (files n)) same
    (files_apart m.lines (files (grown_by m.lines sizes latest))
    (files_of_lines m.lines (grown_by m.lines sizes latest) g.hold) g.apart)
