-- A path with contents leads to a regular file.
use Rattle.std.proofs.Common.{◌≡◌, ℕ, ◌||◌, ◌&&◌, Bool, true, false, cond, List, [], ◌∷◌, reverse, find}
use Rattle.std.proofs.Common.{Option, Some, None, inl, inr, refl, sym, ap, ◌∙◌}
use Rattle.std.specs.Cmp.Lexicographic.{bytes_decides}
use Rattle.std.specs.Option.{option_map, option_and_then}
use Rattle.std.specs.Str.{bytes_eq}
use Rattle.record_forest.specs.Members.{Has}
use Rattle.rom_tree.specs.Tree.{Node, node, directory, regular, symlink, block, character, socket, fifo, is_regular}
use Rattle.rom_tree.specs.Tree.{kind_of}
use Rattle.rom_tree.specs.declared.types.Kind.TheVariants as kind
use Rattle.manifest.specs.declared.line.Line.{Line}
use Rattle.manifest.specs.declared.line.Word.{Word}
use Rattle.manifest.specs.declared.line.Word.TheVariants.{Dir, File, Slink, Block, Character, Fifo, Socket, Hard, Same}
use Rattle.manifest.specs.Lines.{ManifestLines, is_file, is_hard, is_same, led, filed}
use Rattle.manifest.specs.Paths.{names_of}
use Rattle.manifest.proofs.Named.{path_with_names}
use Rattle.manifest_tree.specs.Meant.{IsMeant}
use Rattle.manifest_tree.specs.Names.{Inode}
use Rattle.manifest_tree.specs.Shape.{Value, file_value, node_under, node_value}
use Rattle.manifest_tree.specs.Tree.{file_at, file_named, inode_by, inode_of, is_named, names_eq, with_contents}

-- the line to which a path with contents leads: it makes a regular file
record IsMade (ls : List Line) (p : List ℕ) : Type 0 where
  line : Line
  leads : led ls p ≡ Some line
  makes : (is_file line.word || is_same line.word) ≡ true

made_step : (l : Line) (ls : List Line) (g : Line) → ((q : List ℕ) → filed ls q ≡ Some g → IsMade ls q) → (p : List ℕ)
    → filed (l ∷ ls) p ≡ Some g → IsMade (l ∷ ls) p
made_step l ls g again p e = elim (bytes_eq l.path p) as
    (λ t. bytes_eq l.path p ≡ t → cond t
    (cond (is_hard l.word || is_same l.word) (filed ls l.text) (cond (is_file l.word) (Some l) None)) (filed ls p)
    ≡ Some g → IsMade (l ∷ ls) p) [
      | true ↦ λ b h. by l.word refl b h
      | false ↦ λ b h.
          let i = again p h in
          record { line = i.line; leads = (rw b i.leads); makes = i.makes }
    ] refl e
  where
    by : (w : Word) → l.word ≡ w → bytes_eq l.path p ≡ true
        → cond (is_hard w || is_same w) (filed ls l.text) (cond (is_file w) (Some l) None) ≡ Some g → IsMade (l ∷ ls) p
    by Dir e b h = absurd (cc)
    by Slink e b h = absurd (cc)
    by Block e b h = absurd (cc)
    by Character e b h = absurd (cc)
    by Fifo e b h = absurd (cc)
    by Socket e b h = absurd (cc)
    by Hard e b h =
        let i = again l.text h in
        let k : is_hard l.word ≡ true = ap is_hard e in
        record { line = i.line; leads = (rw (b, k) i.leads); makes = i.makes }
    by File e b h =
        let k : is_hard l.word ≡ false = ap is_hard e in
        let f : is_file l.word ≡ true = ap is_file e in
        record { line = l; leads = (rw (b, k) refl); makes = (rw f refl) }
    by Same e b h =
        let k : is_hard l.word ≡ false = ap is_hard e in
        let f : is_file l.word ≡ false = ap is_file e in
        let s : is_same l.word ≡ true = ap is_same e in
        record { line = l; leads = (rw (b, k) refl); makes = (rw (f, s) refl) }

made : (ls : List Line) (p : List ℕ) (g : Line) → filed ls p ≡ Some g → IsMade ls p
made [] p g e = absurd (cc)
made (l ∷ ls) p g e = made_step l ls g (λ q h. made ls q g h) p e

with_kind : (all : List Line) (sizes : List ℕ) (k : Line) (o : Option Line)
    → (with_contents all sizes k o).kind ≡ kind.Regular
with_kind all sizes k None = refl
with_kind all sizes k (Some o) = refl

kind_by : (all : List Line) (sizes : List ℕ) (k : Line) (w : Word) → (is_file w || is_same w) ≡ true
    → (inode_by all sizes w k).kind ≡ kind.Regular
kind_by all sizes k File h = with_kind all sizes k (filed (reverse all) k.path)
kind_by all sizes k Same h = with_kind all sizes k (filed (reverse all) k.path)
kind_by all sizes k Dir h = absurd (cc)
kind_by all sizes k Slink h = absurd (cc)
kind_by all sizes k Block h = absurd (cc)
kind_by all sizes k Character h = absurd (cc)
kind_by all sizes k Fifo h = absurd (cc)
kind_by all sizes k Socket h = absurd (cc)
kind_by all sizes k Hard h = absurd (cc)

pub kind_is : (all : List Line) (sizes : List ℕ) (k : Line) → (is_file k.word || is_same k.word) ≡ true
    → (inode_of all sizes k).kind ≡ kind.Regular
unfolding inode_of
kind_is all sizes k h = kind_by all sizes k k.word h

-- names are the same exactly if the test says so
names_same : (ns : List (List ℕ)) → names_eq ns ns ≡ true
names_same [] = refl
names_same (n ∷ ns) = let s : bytes_eq n n ≡ true = (bytes_decides n n).1 refl in rw s (names_same ns)

and_true : (a b : Bool) → (a && b) ≡ true → (a ≡ true) × (b ≡ true)
and_true true b h = (refl, h)
and_true false b h = absurd (cc)

names_equal : (ms ns : List (List ℕ)) → names_eq ms ns ≡ true → ms ≡ ns
names_equal [] [] h = refl
names_equal [] (n ∷ ns) h = absurd (cc)
names_equal (m ∷ ms) [] h = absurd (cc)
names_equal (m ∷ ms) (n ∷ ns) h =
    let s = and_true (bytes_eq m n) (names_eq ms ns) h in
    ap (λ (x : List ℕ). x ∷ ms) ((bytes_decides m n).0 s.0)
    ∙ ap (λ (xs : List (List ℕ)). n ∷ xs) (names_equal ms ns s.1)

is_these : (q : List (List ℕ)) (o : Option (List (List ℕ))) → is_named q o ≡ true → o ≡ Some q
is_these q None h = absurd (cc)
is_these q (Some ns) h = ap (λ (x : List (List ℕ)). Some x) (names_equal ns q h)

-- the first line with the names of a line
first_named : (ls : List Line) (q : List (List ℕ)) (l : Line) → Has (λ k. k ≡ l) ls → names_of l.path ≡ Some q
    → (k : Line) × (find (λ (x : Line). is_named q (names_of x.path)) ls ≡ Some k) × (names_of k.path ≡ Some q)
first_named [] q l h e = absurd h
first_named (x ∷ xs) q l h e =
    let rest = find (λ (y : Line). is_named q (names_of y.path)) xs in
    elim (is_named q (names_of x.path)) as
    (λ t. is_named q (names_of x.path) ≡ t
    → (k : Line) × (cond t (Some x) rest ≡ Some k) × (names_of k.path ≡ Some q)) [
      | true ↦ λ b. (x, refl, is_these q (names_of x.path) b)
      | false ↦ λ b. elim h [
        | inl s ↦
            let same : names_of x.path ≡ Some q = ap (λ (y : Line). names_of y.path) s ∙ e in
            let yes : is_named q (names_of x.path) ≡ true = ap (is_named q) same ∙ names_same q in
            let no : true ≡ false = sym yes ∙ b in
            absurd (cc)
        | inr s ↦ first_named xs q l s e
      ]
    ] refl

-- the file at the path of such a line, and the line that makes it
pub record IsFound (m : ManifestLines) (sizes : List ℕ) (p : List ℕ) (q : List (List ℕ)) : Type 0 where
  pub line : Line
  pub leads : led (reverse m.lines) p ≡ Some line
  pub makes : (is_file line.word || is_same line.word) ≡ true
  pub is : file_named m.lines sizes q ≡ Some (inode_of m.lines sizes line)

pub found : (m : ManifestLines) (sizes : List ℕ) (l g : Line) (n : List ℕ) (ns : List (List ℕ))
    → Has (λ z. z ≡ l) m.lines → filed (reverse m.lines) l.path ≡ Some g → names_of l.path ≡ Some (n ∷ ns)
    → IsFound m sizes l.path (n ∷ ns)
unfolding file_at
found m sizes l g n ns here f e =
    let all = m.lines in
    let q = n ∷ ns in
    let k = made (reverse all) l.path g f in
    let first = first_named all q l here e in
    let same : first.0.path ≡ l.path =
    (path_with_names first.0.path n ns first.2).joined ∙ sym (path_with_names l.path n ns e).joined in
    let at_line : file_at all sizes l.path ≡ Some (inode_of all sizes k.line) =
    ap (option_map (inode_of all sizes)) k.leads in
    record {
      line = k.line;
      leads = k.leads;
      makes = k.makes;
      is =
          ap (option_and_then (λ (y : Line). file_at all sizes y.path)) first.1
          ∙ (ap (file_at all sizes) same ∙ at_line);
    }

pub by_kind : (x : Node) → kind_of x ≡ kind.Regular → is_regular x ≡ true
by_kind (node a (directory es)) e = absurd (cc)
by_kind (node a (regular ps)) e = refl
by_kind (node a (symlink ps)) e = absurd (cc)
by_kind (node a block) e = absurd (cc)
by_kind (node a character) e = absurd (cc)
by_kind (node a socket) e = absurd (cc)
by_kind (node a fifo) e = absurd (cc)

pub same_kind : (image : List ℕ) (x : Node) (v : Value) → node_value image x ≡ v → kind_of x ≡ v.kind
unfolding node_value
same_kind image x v e = ap (λ (w : Value). w.kind) e

pub file_kind : (contents : List (List ℕ)) (i : Inode) → (file_value contents i).kind ≡ i.kind
unfolding file_value
file_kind contents i = refl

same_some : (v w : Value) → Some v ≡ Some w → v ≡ w
same_some v w e = cc

-- the node at each path has this value of the file there
abbrev pub HasValues : List ℕ → Node → (Inode → Value) → ManifestLines → List ℕ → Type 0
HasValues image t V m sizes =
    (q : List (List ℕ)) → option_map (node_value image) (node_under q t) ≡ option_map V (file_named m.lines sizes q)

pub value_at : (image : List ℕ) (t : Node) (V : Inode → Value) (m : ManifestLines) (sizes : List ℕ)
    → HasValues image t V m sizes → (q : List (List ℕ)) (x : Node) (i : Inode) → node_under q t ≡ Some x
    → file_named m.lines sizes q ≡ Some i → node_value image x ≡ V i
value_at image t V m sizes values q x i under is =
    same_some (node_value image x) (V i)
    (sym (ap (option_map (node_value image)) under) ∙ (values q ∙ ap (option_map V) is))

-- The node at the path of a line with contents is a regular file.
pub regular_at : (image : List ℕ) (t : Node) (contents : List (List ℕ)) (m : ManifestLines) (sizes : List ℕ)
    → IsMeant image t contents m sizes → (l g : Line) (n : List ℕ) (ns : List (List ℕ)) (x : Node)
    → Has (λ z. z ≡ l) m.lines → filed (reverse m.lines) l.path ≡ Some g → names_of l.path ≡ Some (n ∷ ns)
    → node_under (n ∷ ns) t ≡ Some x → is_regular x ≡ true
regular_at image t contents m sizes meant l g n ns x here f e under =
    let v = found m sizes l g n ns here f e in
    let i : Inode = inode_of m.lines sizes v.line in
    let V : Inode → Value = file_value contents in
    by_kind x (same_kind image x (V i) (value_at image t V m sizes meant.values (n ∷ ns) x i under v.is)
    ∙ file_kind contents i ∙ kind_is m.lines sizes v.line v.makes)
