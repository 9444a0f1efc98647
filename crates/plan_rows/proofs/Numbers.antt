-- The number of a line's misfit, from what the code tests.
use Rattle.std.proofs.Common.{◌≡◌, ℕ, Bool, true, false, not, ◌&&◌, cond, List, Option, Some, None, refl, sym, ap, ◌∙◌}
use Rattle.std.proofs.Common.{reverse}
use Rattle.std.specs.Option.{option_map}
use Rattle.manifest.specs.declared.line.Line.{Line}
use Rattle.manifest.specs.declared.line.Word.{Word}
use Rattle.manifest.specs.declared.line.Word.TheVariants.{Dir, File, Slink, Block, Character, Fifo, Socket, Hard, Same}
use Rattle.manifest.specs.Lines.{ManifestLines, is_hard, filed}
use Rattle.manifest_tree.specs.Tree.{inode_of, inode_by, with_contents}
use Rattle.plan_rows.specs.Files.{contents_at, contents_of}
use Rattle.formats.specs.Format.{Format, romfs, cramfs}
use Rattle.manifest.specs.Paths.{names_of}
use Rattle.manifest_layout.specs.Misfit.{name_len}
use Rattle.manifest_layout.specs.Tests.{bad_attribute, is_large, is_long, has_no_links, number_by, number_of_line}
use Rattle.plan_rows.specs.Misfits.{kind_by, without_bytes, size_by, size_or}

contents_attribute : (f : Format) (all : List Line) (sizes : List ℕ) (l : Line) (o : Option Line)
    → kind_by l.word ≡ kind_by File → bad_attribute f (with_contents all sizes l o) ≡ bad_attribute f (without_bytes l)
contents_attribute romfs all sizes l None e = rw e refl
contents_attribute romfs all sizes l (Some o) e = rw e refl
contents_attribute (cramfs b) all sizes l None e = refl
contents_attribute (cramfs b) all sizes l (Some o) e = refl

pub attribute_is : (f : Format) (all : List Line) (sizes : List ℕ) (l : Line)
    → bad_attribute f (inode_of all sizes l) ≡ bad_attribute f (without_bytes l)
unfolding inode_of
attribute_is f all sizes l = by f l.word refl
  where
    by : (f : Format) (w : Word) → l.word ≡ w
        → bad_attribute f (inode_by all sizes w l) ≡ bad_attribute f (without_bytes l)
    by f File e = contents_attribute f all sizes l (filed (reverse all) l.path) (ap kind_by e)
    by f Same e = contents_attribute f all sizes l (filed (reverse all) l.path) (ap kind_by e)
    by romfs Dir e = rw e refl
    by romfs Slink e = rw e refl
    by romfs Block e = rw e refl
    by romfs Character e = rw e refl
    by romfs Fifo e = rw e refl
    by romfs Socket e = rw e refl
    by romfs Hard e = rw e refl
    by (cramfs o) Dir e = refl
    by (cramfs o) Slink e = refl
    by (cramfs o) Block e = refl
    by (cramfs o) Character e = refl
    by (cramfs o) Fifo e = refl
    by (cramfs o) Socket e = refl
    by (cramfs o) Hard e = refl

contents_size : (all : List Line) (sizes : List ℕ) (l : Line) (o : Option Line)
    → (with_contents all sizes l o).size ≡ size_or (option_map (contents_of all sizes) o)
contents_size all sizes l None = refl
contents_size all sizes l (Some o) = refl

pub size_is : (all : List Line) (sizes : List ℕ) (l : Line)
    → (inode_of all sizes l).size ≡ size_by l.word l (contents_at all sizes l.path)
unfolding inode_of
size_is all sizes l = by l.word
  where
    by : (w : Word) → (inode_by all sizes w l).size ≡ size_by w l (contents_at all sizes l.path)
    by File = contents_size all sizes l (filed (reverse all) l.path)
    by Same = contents_size all sizes l (filed (reverse all) l.path)
    by Dir = refl
    by Slink = refl
    by Block = refl
    by Character = refl
    by Fifo = refl
    by Socket = refl
    by Hard = refl

-- the tests one after the other
pub number_is : (h a b c d : Bool)
    → number_by h a b c d ≡ cond (not h && a) (Some 1) (cond b (Some 2) (cond c (Some 3) (cond (h && d) (Some 4) None)))
number_is false true b c d = refl
number_is false false true c d = refl
number_is false false false true d = refl
number_is false false false false d = refl
number_is true a true c d = refl
number_is true a false true d = refl
number_is true a false false true = refl
number_is true a false false false = refl

pub number_of_line_is : (f : Format) (m : ManifestLines) (sizes : List ℕ) (l : Line) (a b c : Bool)
    → a ≡ bad_attribute f (without_bytes l) → b ≡ is_large f (size_by l.word l (contents_at m.lines sizes l.path))
    → c ≡ is_long f (name_len (names_of l.path))
    → number_by (is_hard l.word) a b c (has_no_links f) ≡ number_of_line f m sizes l
number_of_line_is f m sizes l a b c p q r =
    let s = p ∙ sym (attribute_is f m.lines sizes l) in
    let t = q ∙ ap (is_large f) (sym (size_is m.lines sizes l)) in
    ap (λ (x : Bool). number_by (is_hard l.word) x b c (has_no_links f)) s
    ∙ ap (λ (x : Bool). number_by (is_hard l.word) (bad_attribute f (inode_of m.lines sizes l)) x c (has_no_links f)) t
    ∙ ap (λ (x : Bool). number_by (is_hard l.word) (bad_attribute f (inode_of m.lines sizes l))
    (is_large f (inode_of m.lines sizes l).size) x (has_no_links f)) r
