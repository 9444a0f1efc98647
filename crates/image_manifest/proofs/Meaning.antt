-- The manifest of an image means the image's tree.
use Rattle.std.proofs.Common.{◌≡◌, ℕ, suc, ◌+◌, Bool, true, false, ◌&&◌, cond, List, [], ◌∷◌, ◌++◌, length, map}
use Rattle.std.proofs.Common.{reverse, get_or, Option, None, Some, refl, sym, ap, subst, ◌∙◌, append-nil, eq-eqb, arith}
use Rattle.std.specs.Prelude.{◌==◌, ◌↔◌, is_none}
use Rattle.std.specs.Option.{option_map, option_and_then}
use Rattle.manifest.specs.declared.line.Line.{Line}
use Rattle.manifest.specs.declared.line.Word.{Word}
use Rattle.manifest.specs.declared.line.Word.TheVariants.{Dir, File, Slink, Block, Character, Fifo, Socket, Hard, Same}
use Rattle.manifest.specs.Lines.{led, filed}
use Rattle.manifest.specs.Paths.{names_of}
use Rattle.manifest.proofs.Named.{path_with_names}
use Rattle.manifest.specs.Printed.{AreTaken, as_read, first_number, numbered, numbered_from}
use Rattle.manifest_tree.specs.Meant.{IsMeant}
use Rattle.manifest_tree.specs.Names.{Inode}
use Rattle.manifest_tree.specs.Shape.{file_value, node_under, node_value}
use Rattle.manifest_tree.specs.Tree.{file_at, file_named, inode_by, inode_of, is_named, or_else, bare_root, root_of}
use Rattle.manifest_tree.specs.Tree.{sources_before, with_contents}
use Rattle.manifest_tree.proofs.Law.{line_named}
use Rattle.rom_tree.specs.declared.types.Kind.TheVariants.{Regular}
use Rattle.rom_tree.specs.Image.{Image, contents_of}
use Rattle.rom_tree.specs.Names.{Name, named, names, node_names}
use Rattle.rom_tree.specs.Tree.{Node, node, directory, regular, symlink, block, character, socket, fifo, IsIn, ino_of}
use Rattle.rom_tree.specs.Tree.{is_directory, is_regular, kind_of, nodes}
use Rattle.image_manifest.specs.ByPaths.{IsByPaths, has_slash}
use Rattle.image_manifest.specs.Lines.{first_name, lines_behind, member_lines, node_line}
use Rattle.image_manifest.specs.Sources.{has_source, sources_behind, file_contents}
use Rattle.image_manifest.proofs.Followed.{after_reversed, all_taken, in_tree, is_led, other, own_filed}
use Rattle.image_manifest.proofs.Paths.{has_names, same_names}
use Rattle.image_manifest.proofs.Plain.{ArePlain, PathsDiffer, has_path, leads, plain_under}
use Rattle.image_manifest.proofs.ReadBack.{has_line, lawful, named_at, named_name, names_eq-true, path_among}
use Rattle.image_manifest.proofs.ReadBack.{paths_differ}
use Rattle.image_manifest.proofs.Sourced.{as_many_sources, source_holds}
use Rattle.image_manifest.proofs.Ways.{true_is_not_false, Among, first, later, among_back, or_false, reaches}
use Rattle.image_manifest.specs.declared.rules.FileRules.{FileRules}

-- What the image's lines and sources are, from line j on.
abbrev all_lines : Image → FileRules → ℕ → List Line
all_lines m rules j = numbered_from j (lines_behind m rules [] (names m.tree))

abbrev all_sources : Image → List (List ℕ)
all_sources m = sources_behind m [] (names m.tree)

abbrev Taken : Image → FileRules → ℕ → Type 0
Taken m rules j = AreTaken [] j (lines_behind m rules [] (names m.tree))

reversed : (m : Image) (rules : FileRules) (j : ℕ) → all_taken m rules j (names m.tree) ≡ reverse (all_lines m rules j)
reversed m rules j =
    after_reversed [] j (lines_behind m rules [] (names m.tree)) ∙ append-nil (reverse (all_lines m rules j))

-- A line is a file of its own number, and holds what its node does.

inode_line : (all : List Line) (sizes : List ℕ) (l : Line) → (inode_of all sizes l).line ≡ l.number
unfolding inode_of
inode_line all sizes l = by l.word (filed (reverse all) l.path)
  where
    by_contents : (o : Option Line) → (with_contents all sizes l o).line ≡ l.number
    by_contents None = refl
    by_contents (Some d) = refl

    by : (w : Word) (o : Option Line) → (inode_by all sizes w l).line ≡ l.number
    by Dir o = refl
    by File o = by_contents (filed (reverse all) l.path)
    by Slink o = refl
    by Block o = refl
    by Character o = refl
    by Fifo o = refl
    by Socket o = refl
    by Hard o = refl
    by Same o = by_contents (filed (reverse all) l.path)

-- what the line of a regular file leads to
HasSource : Image → List Line → List (List ℕ) → FileRules → ℕ → List ℕ → Node → Type 0
HasSource m all contents rules k path x =
    (filed (reverse all) path ≡ Some (numbered k (node_line m rules path x)))
    × (get_or contents (sources_before k all) [] ≡ contents_of m.bytes x)

value_by : (m : Image) (all : List Line) (sizes : List ℕ) (contents : List (List ℕ)) (rules : FileRules) (k : ℕ)
    (path : List ℕ) (x : Node)
    → (kind_of x ≡ Regular → HasSource m all contents rules k path x)
    → file_value contents (inode_of all sizes (numbered k (node_line m rules path x))) ≡ node_value m.bytes x
unfolding inode_of file_value node_value HasSource
value_by m all sizes contents rules k path (node a (directory es)) h = refl
value_by m all sizes contents rules k path (node a (regular ps)) h =
    let s = h refl in
    ap (λ (o : Option Line). file_value contents
    (with_contents all sizes (numbered k (node_line m rules path (node a (regular ps)))) o)) s.0
    ∙ rw s.1 refl
value_by m all sizes contents rules k path (node a (symlink ps)) h = refl
value_by m all sizes contents rules k path (node a block) h = refl
value_by m all sizes contents rules k path (node a character) h = refl
value_by m all sizes contents rules k path (node a socket) h = refl
value_by m all sizes contents rules k path (node a fifo) h = refl

-- a regular file's name that has a line of its own has a source
own_source : (b : List Name) (o : Name) → other b o ≡ None → kind_of o.node ≡ Regular → has_source b o ≡ true
own_source b o h k = by o.node (first_name (ino_of o.node) b) k h
  where
    none : (q : Option Name) → q ≡ None → is_none q ≡ true
    none q e = ap is_none e

    by : (x : Node) (q : Option Name) → kind_of x ≡ Regular → cond (is_directory x) None q ≡ None
        → (is_regular x && is_none q) ≡ true
    by (node a (directory es)) q e g = absurd (cc)
    by (node a (regular ps)) q e g = none q g
    by (node a (symlink ps)) q e g = absurd (cc)
    by (node a block) q e g = absurd (cc)
    by (node a character) q e g = absurd (cc)
    by (node a socket) q e g = absurd (cc)
    by (node a fifo) q e g = absurd (cc)

own_value : (m : Image) (rules : FileRules) (j : ℕ) (sizes : List ℕ) (b : List Name) (o : Name) (a : List Name)
    → Taken m rules j → names m.tree ≡ b ++ o ∷ a → other b o ≡ None
    → file_value (all_sources m) (inode_of (all_lines m rules j) sizes
    (numbered (j + length b) (node_line m rules o.path o.node))) ≡ node_value m.bytes o.node
unfolding HasSource
own_value m rules j sizes b o a t e own =
    let k : ℕ = j + length b in
    let all : List Line = all_lines m rules j in
    value_by m all sizes (all_sources m) rules k o.path o.node (λ r. (
      ap (λ (v : List Line). filed v o.path) (sym (reversed m rules j))
          ∙ ap (λ (v : List Name). filed (all_taken m rules j v) o.path) e
          ∙ own_filed m rules j b o a (subst
          (λ (v : List Name). AreTaken [] j (lines_behind m rules [] v)) e t) own r,
      ap (λ (v : List Name). get_or (sources_behind m [] v)
          (sources_before k (numbered_from j (lines_behind m rules [] v))) []) e
          ∙ ap (λ (v : ℕ). get_or (sources_behind m [] (b ++ o ∷ a)) v [])
          (as_many_sources m rules [] b (o ∷ a) j k refl)
          ∙ source_holds m b o a (own_source b o own r),
    ))

-- What a list of names leads to in the tree and in the manifest.
record IsFile (m : Image) (rules : FileRules) (j : ℕ) (sizes : List ℕ) (q : List (List ℕ)) (x : Node) : Type 0 where
  before : List Name
  origin : Name
  after : List Name
  parts : names m.tree ≡ before ++ origin ∷ after
  own : other before origin ≡ None
  node : origin.node ≡ x
  file : file_named (all_lines m rules j) sizes q
      ≡ Some (inode_of (all_lines m rules j) sizes
      (numbered (j + length before) (node_line m rules origin.path origin.node)))

file_of : (m : Image) (rules : FileRules) (j : ℕ) (sizes : List ℕ) (p : List ℕ) (l : Line)
    → led (all_taken m rules j (names m.tree)) p ≡ Some l
    → file_at (all_lines m rules j) sizes p ≡ Some (inode_of (all_lines m rules j) sizes l)
unfolding file_at
file_of m rules j sizes p l h =
    ap (option_map (inode_of (all_lines m rules j) sizes))
    (ap (λ (v : List Line). led v p) (sym (reversed m rules j)) ∙ h)

by_name : (m : Image) (rules : FileRules) (j : ℕ) (sizes : List ℕ) (q : List (List ℕ)) (n : Name) → Taken m rules j
    → Among n (names m.tree)
    → ((i : Inode) → file_at (all_lines m rules j) sizes n.path ≡ Some i
    → file_named (all_lines m rules j) sizes q ≡ Some i) → IsFile m rules j sizes q n.node
by_name m rules j sizes q n t h f =
    let l = is_led m rules j (names m.tree) n t h in
    let line : Line = numbered (j + length l.before) (node_line m rules l.origin.path l.origin.node) in
    let stands : Among l.origin (names m.tree) =
    subst (λ (v : List Name). Among l.origin v) (sym l.parts)
    (among_back l.origin l.before (l.origin ∷ l.after) first) in
    record {
      before = l.before;
      origin = l.origin;
      after = l.after;
      parts = l.parts;
      own = l.own;
      node = m.coherent l.origin.node n.node (in_tree m.tree l.origin stands) (in_tree m.tree n h) l.number;
      file = f (inode_of (all_lines m rules j) sizes line) (file_of m rules j sizes n.path line l.line);
    }

some_is : {X : Type 0} (x y : X) → Some x ≡ Some y → x ≡ y
some_is x y h = cc

-- a name below the root has another path than it
not_root : (t : Node) (n : Name) → PathsDiffer (names t) → Among n (node_names [] t) → n.path ≡ 47 ∷ [] → ⊥
unfolding names
not_root t n d h e =
    true_is_not_false (has_path (47 ∷ []) (node_names [] t))
    (ap (λ (v : List ℕ). has_path v (node_names [] t)) (sym e) ∙ path_among n (node_names [] t) h) d.0

plain_below : (t : Node) → IsByPaths t → ArePlain (node_names [] t)
unfolding names
plain_below t h = (or_false (has_slash []) _ h.names).1

below : (t : Node) (n : Name) → Among n (node_names [] t) → Among n (names t)
unfolding names
below t n h = later h

root_among : (t : Node) → Among (named (47 ∷ []) [] t) (names t)
unfolding names
root_among t = first

differ_below : (t : Node) → PathsDiffer (names t) → PathsDiffer (node_names [] t)
unfolding names
differ_below t d = d.1

-- the case that names lead to a node
found : (m : Image) (rules : FileRules) (j : ℕ) (sizes : List ℕ) (q : List (List ℕ)) (x : Node) → Taken m rules j
    → IsByPaths m.tree → node_under q m.tree ≡ Some x → IsFile m rules j sizes q x
unfolding root_of
found m rules j sizes [] x t p h =
    subst (λ (v : Node). IsFile m rules j sizes [] v) (some_is m.tree x h)
    (by_name m rules j sizes [] (named (47 ∷ []) [] m.tree) t (root_among m.tree)
    (λ i e. ap (λ (o : Option Inode). Some (or_else bare_root o)) e))
found m rules j sizes (k ∷ ks) x t p h =
    let all : List Line = all_lines m rules j in
    let d = paths_differ m rules [] j [] (names m.tree) t in
    let r = reaches [] k ks m.tree x h in
    let stands = below m.tree r.name r.among in
    let plain = plain_under [] k ks m.tree x (plain_below m.tree p) h in
    let own = has_names r.name.path k ks r.path plain (lawful m rules [] j [] (names m.tree) r.name t stands)
    (not_root m.tree r.name d r.among) in
    subst (λ (v : Node). IsFile m rules j sizes (k ∷ ks) v) r.node
    (by_name m rules j sizes (k ∷ ks) r.name t stands
    (λ i e. named_at (file_at all sizes) all r.name.path k ks r.path own
    (has_line m rules j [] (names m.tree) r.name stands) ∙ e))

no_names : (k : List ℕ) (ks : List (List ℕ)) → names_of (47 ∷ []) ≡ Some (k ∷ ks) → ⊥
unfolding names_of
no_names k ks h = cc

have_names : (q : List (List ℕ)) (o : Option (List (List ℕ))) → is_named q o ≡ true → o ≡ Some q
have_names q None h = absurd (cc)
have_names q (Some ns) h = ap (λ (v : List (List ℕ)). Some v) (names_eq-true ns q h)

among_below : {R : Type 0} (t : Node) (n : Name) → Among n (names t) → (n ≡ named (47 ∷ []) [] t → R)
    → (Among n (node_names [] t) → R) → R
unfolding names
among_below t n first f g = f refl
among_below t n (later h) f g = g h

nothing_is_some : (x : Node) (o : Option Node) → o ≡ None → o ≡ Some x → ⊥
nothing_is_some x o h g = cc

-- the case that names lead to none
none_found : (m : Image) (rules : FileRules) (j : ℕ) (sizes : List ℕ) (k : List ℕ) (ks : List (List ℕ))
    → Taken m rules j → IsByPaths m.tree → node_under (k ∷ ks) m.tree ≡ None
    → file_named (all_lines m rules j) sizes (k ∷ ks) ≡ None
none_found m rules j sizes k ks t p h = by (line_named all (k ∷ ks)) refl
  where
    all : List Line
    all = all_lines m rules j

    by : (o : Option Line) → line_named (all_lines m rules j) (k ∷ ks) ≡ o
        → option_and_then (λ l. file_at (all_lines m rules j) sizes l.path) o ≡ None
    by None e = refl
    by (Some l) e =
        let n = named_name m rules j [] (names m.tree) (k ∷ ks) l e in
        let own : names_of n.name.path ≡ Some (k ∷ ks) = have_names (k ∷ ks) (names_of n.name.path) n.names in
        absurd (among_below {R = ⊥} m.tree n.name n.among
        (λ r. no_names k ks (ap (λ (v : Name). names_of v.path) (sym r) ∙ own))
        (λ r. let i = path_with_names n.name.path k ks own in
        let g = leads [] m.tree n.name (plain_below m.tree p)
        (differ_below m.tree (paths_differ m rules [] j [] (names m.tree) t)) r in
        let same = same_names g.head g.more k ks g.plain i.plain (sym g.path ∙ i.joined) in
        nothing_is_some n.name.node (node_under (k ∷ ks) m.tree) h
        (ap (λ (v : List (List ℕ)). node_under v m.tree) (sym same) ∙ g.node)))

-- the file of names is what their node is
values : (m : Image) (rules : FileRules) (j : ℕ) (sizes : List ℕ) (q : List (List ℕ)) → Taken m rules j
    → IsByPaths m.tree
    → option_map (node_value m.bytes) (node_under q m.tree)
    ≡ option_map (file_value (all_sources m)) (file_named (all_lines m rules j) sizes q)
values m rules j sizes q t p = by q (node_under q m.tree) refl
  where
    by : (q : List (List ℕ)) (o : Option Node) → node_under q m.tree ≡ o
        → option_map (node_value m.bytes) o
        ≡ option_map (file_value (all_sources m)) (file_named (all_lines m rules j) sizes q)
    by q (Some x) e =
        let f = found m rules j sizes q x t p e in
        ap (λ (v : Node). Some (node_value m.bytes v)) (sym f.node)
        ∙ ap (λ v. Some v) (sym (own_value m rules j sizes f.before f.origin f.after t f.parts f.own))
        ∙ ap (option_map (file_value (all_sources m))) (sym f.file)
    by [] None e = absurd (cc)
    by (k ∷ ks) None e = ap (option_map (file_value (all_sources m))) (sym (none_found m rules j sizes k ks t p e))

-- The first name of a node is at one index.

first_once : (number : ℕ) (b : List Name) (o : Name) (a c : List Name) (u : Name) (d : List Name)
    → b ++ o ∷ a ≡ c ++ u ∷ d → ino_of o.node ≡ number → ino_of u.node ≡ number
    → first_name number b ≡ None → first_name number c ≡ None → length b ≡ length c
first_once number [] o a [] u d e h k f g = refl
first_once number [] o a (y ∷ c) u d e h k f g =
    let s : o ≡ y = cc in
    absurd (not_first number y (first_name number c) (ap (λ (v : Name). ino_of v.node) (sym s) ∙ h) g)
  where
    not_first : (number : ℕ) (y : Name) (o : Option Name) → ino_of y.node ≡ number
        → cond (ino_of y.node == number) (Some y) o ≡ None → ⊥
    not_first number y o e g =
        let n : Some y ≡ None = ap (λ (b : Bool). cond b (Some y) o) (sym (eq-eqb (ino_of y.node) number e)) ∙ g in cc
first_once number (x ∷ b) o a [] u d e h k f g =
    let s : u ≡ x = cc in
    absurd (not_first number x (first_name number b) (ap (λ (v : Name). ino_of v.node) (sym s) ∙ k) f)
  where
    not_first : (number : ℕ) (y : Name) (o : Option Name) → ino_of y.node ≡ number
        → cond (ino_of y.node == number) (Some y) o ≡ None → ⊥
    not_first number y o e g =
        let n : Some y ≡ None = ap (λ (b : Bool). cond b (Some y) o) (sym (eq-eqb (ino_of y.node) number e)) ∙ g in cc
first_once number (x ∷ b) o a (y ∷ c) u d e h k f g =
    let s : b ++ o ∷ a ≡ c ++ u ∷ d = cc in
    ap suc (first_once number b o a c u d s h k (behind (ino_of x.node == number) x (first_name number b) f)
    (behind (ino_of y.node == number) y (first_name number c) g))
  where
    behind : (t : Bool) (x : Name) (o : Option Name) → cond t (Some x) o ≡ None → o ≡ None
    behind true x o h = absurd (cc)
    behind false x o h = h

at_one_place : (b : List Name) (o : Name) (a c : List Name) (u : Name) (d : List Name) → b ++ o ∷ a ≡ c ++ u ∷ d
    → length b ≡ length c → o ≡ u
at_one_place [] o a [] u d e h = cc
at_one_place [] o a (y ∷ c) u d e h = absurd (omega (arith, h))
at_one_place (x ∷ b) o a [] u d e h = absurd (omega (arith, h))
at_one_place (x ∷ b) o a (y ∷ c) u d e h =
    let s : b ++ o ∷ a ≡ c ++ u ∷ d = cc in at_one_place b o a c u d s (omega (arith, h))

file_line : (m : Image) (rules : FileRules) (j : ℕ) (sizes : List ℕ) (q : List (List ℕ)) (x : Node) (i : Inode)
    → (f : IsFile m rules j sizes q x) → file_named (all_lines m rules j) sizes q ≡ Some i
    → i.line ≡ j + length f.before
file_line m rules j sizes q x i f h =
    let l : Line = numbered (j + length f.before) (node_line m rules f.origin.path f.origin.node) in
    let own : Inode = inode_of (all_lines m rules j) sizes l in
    ap (λ (v : Inode). v.line) (some_is i own (sym h ∙ f.file)) ∙ inode_line (all_lines m rules j) sizes l

shared : (m : Image) (rules : FileRules) (j : ℕ) (sizes : List ℕ) → Taken m rules j → IsByPaths m.tree
    → (p q : List (List ℕ)) (x y : Node) (i k : Inode) → node_under p m.tree ≡ Some x → node_under q m.tree ≡ Some y
    → file_named (all_lines m rules j) sizes p ≡ Some i → file_named (all_lines m rules j) sizes q ≡ Some k
    → (ino_of x ≡ ino_of y) ↔ (i.line ≡ k.line)
shared m rules j sizes t w p q x y i k hp hq fp fq =
    let f = found m rules j sizes p x t w hp in
    let g = found m rules j sizes q y t w hq in
    let a : i.line ≡ j + length f.before = file_line m rules j sizes p x i f fp in
    let b : k.line ≡ j + length g.before = file_line m rules j sizes q y k g fq in
    (one_file f g a b, λ e. one_node f g (omega (arith, a, b, e)))
  where
    one_node : (f : IsFile m rules j sizes p x) (g : IsFile m rules j sizes q y)
        → length f.before ≡ length g.before → ino_of x ≡ ino_of y
    one_node f g e =
        let s = at_one_place f.before f.origin f.after g.before g.origin g.after (sym f.parts ∙ g.parts) e in
        ap ino_of (sym f.node ∙ ap (λ (v : Name). v.node) s ∙ g.node)

    none_before : (b : List Name) (o : Name) (z : Node) → o.node ≡ z → is_directory z ≡ false → other b o ≡ None
        → first_name (ino_of z) b ≡ None
    none_before b o z e d h =
        ap (λ (v : Node). first_name (ino_of v) b) (sym e)
        ∙ ap (λ (c : Bool). cond c None (first_name (ino_of o.node) b)) (sym (ap is_directory e ∙ d)) ∙ h

    by_kind : (f : IsFile m rules j sizes p x) (g : IsFile m rules j sizes q y) → i.line ≡ j + length f.before
        → k.line ≡ j + length g.before → ino_of x ≡ ino_of y → (d : Bool) → is_directory x ≡ d → i.line ≡ k.line
    by_kind f g a b e true d =
        let s : p ≡ q = w.directories p q x y hp hq d e in
        ap (λ (v : Inode). v.line) (some_is i k (sym fp ∙ ap (file_named (all_lines m rules j) sizes) s ∙ fq))
    by_kind f g a b e false d =
        let same : x ≡ y = m.coherent x y (of_tree f) (of_tree g) e in
        let n : length f.before ≡ length g.before =
        first_once (ino_of x) f.before f.origin f.after g.before g.origin g.after (sym f.parts ∙ g.parts)
        (ap ino_of f.node) (ap ino_of g.node ∙ sym e)
        (none_before f.before f.origin x f.node d f.own)
        (none_before g.before g.origin x (g.node ∙ sym same) d g.own) in
        omega (arith, a, b, n)
      where
        of_tree : {r : List (List ℕ)} {z : Node} → IsFile m rules j sizes r z → IsIn z (nodes m.tree)
        of_tree {r} {z} f =
            subst (λ (v : Node). IsIn v (nodes m.tree)) f.node
            (in_tree m.tree f.origin (subst (λ (v : List Name). Among f.origin v) (sym f.parts)
            (among_back f.origin f.before (f.origin ∷ f.after) first)))

    one_file : (f : IsFile m rules j sizes p x) (g : IsFile m rules j sizes q y) → i.line ≡ j + length f.before
        → k.line ≡ j + length g.before → ino_of x ≡ ino_of y → i.line ≡ k.line
    one_file f g a b e = by_kind f g a b e (is_directory x) refl

pub meant : (m : Image) (volume : List ℕ) (rules : FileRules) → AreTaken [] (first_number volume) (member_lines m rules)
    → IsByPaths m.tree
    → IsMeant m.bytes m.tree (file_contents m) (as_read volume (member_lines m rules)) (map length (file_contents m))
unfolding member_lines file_contents
meant m volume rules t w = record {
  values = λ q. values m rules (first_number volume) (map length (all_sources m)) q t w;
  shared = shared m rules (first_number volume) (map length (all_sources m)) t w;
}
