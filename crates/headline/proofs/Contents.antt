-- The bytes of a file of a built image are the contents of the source of its `file` line.
use Rattle.std.proofs.Common.{◌≡◌, ℕ, zero, suc, ◌||◌, true, false, ◌⊎◌, cond, List, [], ◌∷◌, find, get_or, length, map}
use Rattle.std.proofs.Common.{reverse, Option, Some, None, inl, inr, refl, sym, ap, subst, ◌∙◌}
use Rattle.std.proofs.lemmas.List.{reverse-reverse}
use Rattle.std.specs.Cmp.Lexicographic.{bytes_decides, nat_list_eq_equiv}
use Rattle.std.specs.Option.{option_and_then, option_map}
use Rattle.std.specs.Str.{bytes_eq}
use Rattle.record_forest.proofs.Lists.{has_of}
use Rattle.rom_tree.specs.declared.types.Kind.TheVariants.{Regular}
use Rattle.rom_tree.specs.Image.{contents_of}
use Rattle.rom_tree.specs.Tree.{Node}
use Rattle.manifest.specs.declared.line.Line.{Line}
use Rattle.manifest.specs.declared.line.Word.{Word}
use Rattle.manifest.specs.declared.line.Word.TheVariants.{Dir, File, Slink, Block, Character, Fifo, Socket, Hard, Same}
use Rattle.manifest.specs.Grammar.{IsManifest}
use Rattle.manifest.specs.Lines.{ManifestLines, is_file, is_hard, is_same, led, filed}
use Rattle.manifest.specs.Paths.{names_of}
use Rattle.manifest.proofs.Checked.{AreChecked, checked_lines, sound_place}
use Rattle.manifest_tree.specs.Names.{Inode, no_bytes, source}
use Rattle.manifest_tree.specs.Shape.{Value, node_value}
use Rattle.manifest_tree.specs.Tree.{bare_root, file_at, file_named, inode_by, inode_of, is_named, or_else, root_of}
use Rattle.manifest_tree.specs.Tree.{sources_before, with_contents}
use Rattle.manifest_layout.proofs.Led.{led_member, no_path}
use Rattle.headline.proofs.Regular.{IsFound}

same_line : (k l : Line) → Some k ≡ Some l → k ≡ l
same_line k l e = cc

-- a line that a path leads to has the contents that the path has
filed_step : (l : Line) (ls : List Line) → AreChecked (l ∷ ls) → (k g : Line)
    → ((p : List ℕ) → led ls p ≡ Some k → filed ls p ≡ Some g → filed ls k.path ≡ Some g)
    → (p : List ℕ) → led (l ∷ ls) p ≡ Some k → filed (l ∷ ls) p ≡ Some g → filed (l ∷ ls) k.path ≡ Some g
filed_step l ls c k g again p d f = elim (bytes_eq l.path p) as
    (λ t. cond t (cond (is_hard l.word) (led ls l.text) (Some l)) (led ls p) ≡ Some k
    → cond t (cond (is_hard l.word || is_same l.word) (filed ls l.text) (cond (is_file l.word) (Some l) None))
    (filed ls p) ≡ Some g → filed (l ∷ ls) k.path ≡ Some g) [
      | true ↦ elim (is_hard l.word) as
          (λ h. is_hard l.word ≡ h → cond h (led ls l.text) (Some l) ≡ Some k
          → cond (h || is_same l.word) (filed ls l.text) (cond (is_file l.word) (Some l) None) ≡ Some g
          → filed (l ∷ ls) k.path ≡ Some g) [
            | true ↦ λ h. past l.text
            | false ↦ λ h e i.
                subst (λ (z : Line). filed (l ∷ ls) z.path ≡ Some g) (same_line l k e) (rw (self, h) i)
          ] refl
      | false ↦ past p
    ] d f
  where
    self : bytes_eq l.path l.path ≡ true
    self = (bytes_decides l.path l.path).1 refl

    past : (r : List ℕ) → led ls r ≡ Some k → filed ls r ≡ Some g → filed (l ∷ ls) k.path ≡ Some g
    past r e i =
        let none = no_path ls l.path (sound_place ls l c.0).1 in
        let n : bytes_eq l.path k.path ≡ false =
        nat_list_eq_equiv.symm l.path k.path
        ∙ has_of (λ (x : Line). bytes_eq x.path l.path ≡ false) ls k (led_member ls r k e).0 none in
        rw n (again r e i)

filed_same : (ls : List Line) → AreChecked ls → (k g : Line) (p : List ℕ) → led ls p ≡ Some k → filed ls p ≡ Some g
    → filed ls k.path ≡ Some g
filed_same [] c k g p d f = absurd (cc)
filed_same (l ∷ ls) c k g p d f = filed_step l ls c k g (λ q e i. filed_same ls c.1 k g q e i) p d f

-- the bytes of a file with the contents of a `file` line
fill_by : (all : List Line) (sizes : List ℕ) (k g : Line) (w : Word) → (is_file w || is_same w) ≡ true
    → filed (reverse all) k.path ≡ Some g → (inode_by all sizes w k).fill ≡ source (sources_before g.number all)
fill_by all sizes k g File h e = ap (λ (f : Option Line). (with_contents all sizes k f).fill) e
fill_by all sizes k g Same h e = ap (λ (f : Option Line). (with_contents all sizes k f).fill) e
fill_by all sizes k g Dir h e = absurd (cc)
fill_by all sizes k g Slink h e = absurd (cc)
fill_by all sizes k g Block h e = absurd (cc)
fill_by all sizes k g Character h e = absurd (cc)
fill_by all sizes k g Fifo h e = absurd (cc)
fill_by all sizes k g Socket h e = absurd (cc)
fill_by all sizes k g Hard h e = absurd (cc)

fill_is : (all : List Line) (sizes : List ℕ) (k g : Line) → (is_file k.word || is_same k.word) ≡ true
    → filed (reverse all) k.path ≡ Some g → (inode_of all sizes k).fill ≡ source (sources_before g.number all)
unfolding inode_of
fill_is all sizes k g h e = fill_by all sizes k g k.word h e

-- a node has the bytes of its value
pub same_bytes : (image : List ℕ) (x : Node) (v : Value) → node_value image x ≡ v → contents_of image x ≡ v.bytes
unfolding node_value
same_bytes image x v e = ap (λ (w : Value). w.bytes) e

-- at the path of a line a file has the bytes of the source of its `file` line
pub filled_by : (m : ManifestLines) (sizes : List ℕ) → IsManifest m → (l g : Line) (q : List (List ℕ))
    → filed (reverse m.lines) l.path ≡ Some g → (v : IsFound m sizes l.path q)
    → (inode_of m.lines sizes v.line).fill ≡ source (sources_before g.number m.lines)
filled_by m sizes is l g q f v =
    let c = checked_lines m is.0 is.1 in
    let back : c.latest ≡ reverse m.lines = sym (ap reverse c.reversed ∙ reverse-reverse c.latest) in
    fill_is m.lines sizes v.line g v.makes
    (filed_same (reverse m.lines) (subst AreChecked back c.checked) v.line g l.path v.leads f)

-- A regular file is empty, or has the contents of a source. A file with these is regular, and has their size.
abbrev pub IsSourced : List ℕ → Inode → Type 0
IsSourced sizes i =
    (i.kind ≡ Regular → (i.fill ≡ no_bytes) ⊎ ((k : ℕ) × (i.fill ≡ source k)))
    × ((k : ℕ) → i.fill ≡ source k → (i.kind ≡ Regular) × (i.size ≡ get_or sizes k 0))

contents_sourced : (all : List Line) (sizes : List ℕ) (l : Line) (o : Option Line)
    → IsSourced sizes (with_contents all sizes l o)
contents_sourced all sizes l None = ((λ z. inl refl), (λ k e. absurd (cc)))
contents_sourced all sizes l (Some o) =
    let own : ℕ = sources_before o.number all in (
      λ z. inr (own, refl),
      λ k e. let same : own ≡ k = cc in (refl, ap (λ (j : ℕ). get_or sizes j 0) same),
    )

inode_sourced : (all : List Line) (sizes : List ℕ) (l : Line) (w : Word) → IsSourced sizes (inode_by all sizes w l)
inode_sourced all sizes l File = contents_sourced all sizes l (filed (reverse all) l.path)
inode_sourced all sizes l Same = contents_sourced all sizes l (filed (reverse all) l.path)
inode_sourced all sizes l Hard = ((λ z. inl refl), (λ k e. absurd (cc)))
inode_sourced all sizes l Dir = ((λ z. absurd (cc)), (λ k e. absurd (cc)))
inode_sourced all sizes l Slink = ((λ z. absurd (cc)), (λ k e. absurd (cc)))
inode_sourced all sizes l Block = ((λ z. absurd (cc)), (λ k e. absurd (cc)))
inode_sourced all sizes l Character = ((λ z. absurd (cc)), (λ k e. absurd (cc)))
inode_sourced all sizes l Fifo = ((λ z. absurd (cc)), (λ k e. absurd (cc)))
inode_sourced all sizes l Socket = ((λ z. absurd (cc)), (λ k e. absurd (cc)))

line_sourced : (all : List Line) (sizes : List ℕ) (l : Line) → IsSourced sizes (inode_of all sizes l)
unfolding inode_of
line_sourced all sizes l = inode_sourced all sizes l l.word

same_inode : (i j : Inode) → Some i ≡ Some j → i ≡ j
same_inode i j e = cc

at_sourced : (all : List Line) (sizes p : List ℕ) (i : Inode) → file_at all sizes p ≡ Some i → IsSourced sizes i
unfolding file_at
at_sourced all sizes p i e = by (led (reverse all) p) e
  where
    by : (o : Option Line) → option_map (inode_of all sizes) o ≡ Some i → IsSourced sizes i
    by None e = absurd (cc)
    by (Some l) e = subst (IsSourced sizes) (same_inode (inode_of all sizes l) i e) (line_sourced all sizes l)

-- so is the file at each path
pub named_sourced : (all : List Line) (sizes : List ℕ) (q : List (List ℕ)) (i : Inode)
    → file_named all sizes q ≡ Some i → IsSourced sizes i
unfolding root_of
named_sourced all sizes [] i e =
    subst (IsSourced sizes) (same_inode (root_of all sizes) i e) (by (file_at all sizes (47 ∷ [])) refl)
  where
    by : (o : Option Inode) → file_at all sizes (47 ∷ []) ≡ o → IsSourced sizes (or_else bare_root o)
    by None f = ((λ z. absurd (cc)), (λ k e. absurd (cc)))
    by (Some j) f = at_sourced all sizes (47 ∷ []) j f
named_sourced all sizes (n ∷ ns) i e = by (find (λ l. is_named (n ∷ ns) (names_of l.path)) all) e
  where
    by : (o : Option Line) → option_and_then (λ (l : Line). file_at all sizes l.path) o ≡ Some i → IsSourced sizes i
    by None e = absurd (cc)
    by (Some l) e = at_sourced all sizes l.path i e

-- the length of the contents of a source
pub length_source : (cs : List (List ℕ)) (k : ℕ) → length (get_or cs k []) ≡ get_or (map length cs) k 0
length_source [] k = refl
length_source (c ∷ cs) zero = refl
length_source (c ∷ cs) (suc k) = length_source cs k
