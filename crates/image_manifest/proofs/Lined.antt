-- The lines of an image's names, as its members describe them.
use Rattle.std.proofs.Common.{◌≡◌, ℕ, zero, suc, ◌+◌, ◌<◌, ◌≤◌, Bool, true, false, cond, List, [], ◌∷◌, ◌++◌, length}
use Rattle.std.proofs.Common.{map, take, drop, take-append-drop, get_or, Option, Some, None, option_map, refl, sym, ap}
use Rattle.std.proofs.Common.{ap₂, subst, ◌∙◌, append_assoc, append-nil, length-append, arith, codes}
use Rattle.std.specs.Prelude.{◌≢◌, ◌==◌, IfSome, decimal, if◌then◌else◌}
use Rattle.std.specs.List.{list_any}
use Rattle.std.proofs.lemmas.Bool.Decides.{nat_tests}
use Rattle.std.proofs.lemmas.List.{length-take-le, map-append, take_more, take_all}
use Rattle.manifest.specs.declared.line.Line.{Line}
use Rattle.manifest.specs.Printed.{line_text, lines_text}
use Rattle.rom_fields.specs.Texts.{escaped, octal}
use Rattle.rom_fields.specs.Written.{Puts, Sink}
use Rattle.rom_fields.proofs.Joins.{chain}
use Rattle.rom_tree.specs.declared.types.Kind.TheVariants.{Regular, Symlink}
use Rattle.rom_tree.specs.declared.types.Stat.{Stat}
use Rattle.rom_tree.specs.Image.{Image, contents_of, image_node, stat_of}
use Rattle.rom_tree.specs.Names.{Name, named, names, node_names, entries_names, path_below}
use Rattle.rom_tree.specs.Tree.{Node, node, directory, regular, symlink, block, character, socket, fifo, Entries}
use Rattle.rom_tree.specs.Runs.{front_of}
use Rattle.rom_tree.specs.Tree.{no_entries, entry, IsIn, here, there, ino_of, is_directory, nodes, entries_nodes}
use Rattle.rom_tree.specs.Tree.{places_of}
use Rattle.elf_format.specs.InPlace.{needs_pages}
use Rattle.rom_tree.proofs.Nodes.{node_at-in}
use Rattle.rom_tree.proofs.Paths.{escaped_both}
use Rattle.image_manifest.specs.declared.naming.Member.{Member}
use Rattle.image_manifest.specs.Lines.{file_align, first_name, hard_line, line_behind, line_by, line_with}
use Rattle.image_manifest.specs.Lines.{lines_behind, member_lines, node_line}
use Rattle.image_manifest.specs.Members.{AreMembers, Known, all_behind, first_behind, is_long, members_of, place_of}
use Rattle.image_manifest.specs.Members.{known_behind, known_of}
use Rattle.image_manifest.proofs.Behind.{as_many}
use Rattle.image_manifest.proofs.Ways.{or_false}
use Rattle.image_manifest.specs.Composed.{path_at, path_by, way_at, ways_of}
use Rattle.image_manifest.specs.Known.{line_from, line_described}
use Rattle.image_manifest.specs.declared.rules.FileRules.{FileRules}

-- a path with its attributes, and what is behind them
apart : (e o u g t rest : List ℕ) → (e ++ 32 ∷ (o ++ 32 ∷ (u ++ 32 ∷ (g ++ t)))) ++ rest
    ≡ e ++ 32 ∷ (o ++ 32 ∷ (u ++ 32 ∷ (g ++ (t ++ rest))))
apart e o u g t rest =
    append_assoc e (32 ∷ (o ++ 32 ∷ (u ++ 32 ∷ (g ++ t)))) rest
    ∙ ap (λ (v : List ℕ). e ++ 32 ∷ v)
    (append_assoc o (32 ∷ (u ++ 32 ∷ (g ++ t))) rest
    ∙ ap (λ (v : List ℕ). o ++ 32 ∷ v)
    (append_assoc u (32 ∷ (g ++ t)) rest ∙ ap (λ (v : List ℕ). u ++ 32 ∷ v) (append_assoc g t rest)))

-- the line of a file by its parts
pub file_text : (path folder : List ℕ) (align : ℕ) (s : Stat) → s.kind ≡ Regular
    → line_text (line_with path (folder ++ path) align s) ++ 10 ∷ []
    ≡ codes "file " ++ (escaped path ++ 32
    ∷ (octal s.mode ++ 32 ∷ (decimal s.uid ++ 32
    ∷ (decimal s.gid ++ 32 ∷ (decimal align ++ 32 ∷ (escaped folder ++ (escaped path ++ 10 ∷ [])))))))
unfolding line_text
file_text path folder align s h =
    rw (h, escaped_both folder path)
    (ap (λ (v : List ℕ). codes "file " ++ v)
    (apart (escaped path) (octal s.mode) (decimal s.uid) (decimal s.gid)
    (32 ∷ (decimal align ++ 32 ∷ (escaped folder ++ escaped path))) (10 ∷ [])
    ∙ ap (λ (v : List ℕ). escaped path ++ 32
    ∷ (octal s.mode ++ 32 ∷ (decimal s.uid ++ 32 ∷ (decimal s.gid ++ 32 ∷ v))))
    (append_assoc (decimal align) (32 ∷ (escaped folder ++ escaped path)) (10 ∷ [])
    ∙ ap (λ (v : List ℕ). decimal align ++ 32 ∷ v) (append_assoc (escaped folder) (escaped path) (10 ∷ [])))))

-- the alignment of a file, by the test of its bytes
pub aligned_by : (m : Image) (rules : FileRules) (x : Node) (t : Bool)
    → t ≡ needs_pages (front_of m.bytes (places_of x)) → (if t then rules.align else 4) ≡ file_align m rules x
unfolding file_align
aligned_by m rules x t e = ap (λ (s : Bool). if s then rules.align else 4) e

-- the line of a link
pub link_line : (m : Image) (rules : FileRules) (path text : List ℕ) (s : Stat) (x : Node) → s ≡ stat_of x
    → s.kind ≡ Symlink → text ≡ contents_of m.bytes x
    → line_with path text (file_align m rules x) s ≡ node_line m rules path x
link_line m rules path text s x e k t = by x e t
  where
    by : (x : Node) → s ≡ stat_of x → text ≡ contents_of m.bytes x
        → line_with path text (file_align m rules x) s ≡ node_line m rules path x
    by (node a (directory es)) e t = let z = sym k ∙ ap (λ (v : Stat). v.kind) e in absurd (cc)
    by (node a (regular ps)) e t = let z = sym k ∙ ap (λ (v : Stat). v.kind) e in absurd (cc)
    by (node a (symlink ps)) e t =
        ap (λ (v : List ℕ). line_with path v (file_align m rules (node a (symlink ps))) s) t
        ∙ ap (line_with path (contents_of m.bytes (node a (symlink ps)))
        (file_align m rules (node a (symlink ps)))) e
    by (node a block) e t = let z = sym k ∙ ap (λ (v : Stat). v.kind) e in absurd (cc)
    by (node a character) e t = let z = sym k ∙ ap (λ (v : Stat). v.kind) e in absurd (cc)
    by (node a socket) e t = let z = sym k ∙ ap (λ (v : Stat). v.kind) e in absurd (cc)
    by (node a fifo) e t = let z = sym k ∙ ap (λ (v : Stat). v.kind) e in absurd (cc)

-- the line of a node that has no bytes
pub other_line : (m : Image) (rules : FileRules) (path : List ℕ) (s : Stat) (x : Node) → s ≡ stat_of x
    → s.kind ≢ Symlink → s.kind ≢ Regular
    → line_with path [] (file_align m rules x) s ≡ node_line m rules path x
other_line m rules path s x e k r = by x e
  where
    by : (x : Node) → s ≡ stat_of x → line_with path [] (file_align m rules x) s ≡ node_line m rules path x
    by (node a (directory es)) e = ap (line_with path [] (file_align m rules (node a (directory es)))) e
    by (node a (regular ps)) e = absurd (r (ap (λ (v : Stat). v.kind) e))
    by (node a (symlink ps)) e = absurd (k (ap (λ (v : Stat). v.kind) e))
    by (node a block) e = ap (line_with path [] (file_align m rules (node a block))) e
    by (node a character) e = ap (line_with path [] (file_align m rules (node a character))) e
    by (node a socket) e = ap (line_with path [] (file_align m rules (node a socket))) e
    by (node a fifo) e = ap (line_with path [] (file_align m rules (node a fifo))) e

-- The path of the member at an index.

way_or : (ws : List (List ℕ)) (i : ℕ) → path_by (way_at ws i) ≡ get_or (map path_by ws) i (47 ∷ [])
way_or [] i = refl
way_or (w ∷ ws) zero = refl
way_or (w ∷ ws) (suc i) = way_or ws i

name_or : (ns : List Name) (i : ℕ) (d : List ℕ) (e : Name) → i < length ns
    → get_or (map (λ n. n.path) ns) i d ≡ (get_or ns i e).path
name_or [] i d e h = absurd (omega (arith, h))
name_or (n ∷ ns) zero d e h = refl
name_or (n ∷ ns) (suc i) d e h = name_or ns i d e (omega (arith, h))

path_or : (ms : List Member) (ns : List Name) (i : ℕ) → map path_by (ways_of ms) ≡ map (λ n. n.path) ns
    → path_at ms i ≡ get_or (map (λ (n : Name). n.path) ns) i (47 ∷ [])
path_or ms ns i h = way_or (ways_of ms) i ∙ ap (λ (v : List (List ℕ)). get_or v i (47 ∷ [])) h

path_here : (ms : List Member) (ns : List Name) (i : ℕ) (e : Name) → map path_by (ways_of ms) ≡ map (λ n. n.path) ns
    → i < length ns → path_at ms i ≡ (get_or ns i e).path
path_here ms ns i e h l = path_or ms ns i h ∙ name_or ns i (47 ∷ []) e l

not_long : (n : Name) → is_long n ≡ false → length n.path ≤ 4095
not_long n h = grind (arith, nat_tests, h)

short_at : (ns : List Name) (i : ℕ) → list_any is_long ns ≡ false
    → length (get_or (map (λ (n : Name). n.path) ns) i (47 ∷ [])) ≤ 4095
short_at [] i h = omega arith
short_at (n ∷ ns) zero h = not_long n (or_false (is_long n) (list_any is_long ns) h).0
short_at (n ∷ ns) (suc i) h = short_at ns i (or_false (is_long n) (list_any is_long ns) h).1

-- no path is long
pub all_short : (m : Image) (ms : List Member) → AreMembers m ms → (i : ℕ) → length (path_at ms i) ≤ 4095
all_short m ms h i = let e : length (path_at ms i)
    ≡ length (get_or (map (λ (n : Name). n.path) (names m.tree)) i (47 ∷ [])) =
    ap length (path_or ms (names m.tree) i h.paths) in omega (arith, e, short_at (names m.tree) i h.short)

-- The node of a name.

mutual
  unfolding node_names

  node_all : (path : List ℕ) (x : Node) → x ∷ map (λ n. n.node) (node_names path x) ≡ nodes x
  node_all path (node a (directory es)) = ap (λ (v : List Node). node a (directory es) ∷ v) (entries_all path es)
  node_all path (node a (regular ps)) = refl
  node_all path (node a (symlink ps)) = refl
  node_all path (node a block) = refl
  node_all path (node a character) = refl
  node_all path (node a socket) = refl
  node_all path (node a fifo) = refl

  entries_all : (path : List ℕ) (es : Entries) → map (λ n. n.node) (entries_names path es) ≡ entries_nodes es
  entries_all path no_entries = refl
  entries_all path (entry name x es) =
      let p : List ℕ = path_below path name in
      ap (λ (v : List Node). x ∷ v) (map-append (λ (n : Name). n.node) (node_names p x) (entries_names path es))
      ∙ ap₂ (λ (v w : List Node). v ++ w) (node_all p x) (entries_all path es)

-- the nodes of the names are those of the tree
pub names_nodes : (t : Node) → map (λ n. n.node) (names t) ≡ nodes t
unfolding names
names_nodes t = node_all [] t

in_at : (ns : List Name) (i : ℕ) (e : Name) → i < length ns → IsIn (get_or ns i e).node (map (λ n. n.node) ns)
in_at [] i e h = absurd (omega (arith, h))
in_at (n ∷ ns) zero e h = here
in_at (n ∷ ns) (suc i) e h = there (in_at ns i e (omega (arith, h)))

node_of_name : (m : Image) (i : ℕ) (e : Name) → i < length (names m.tree)
    → image_node m (ino_of (get_or (names m.tree) i e).node) ≡ Some (get_or (names m.tree) i e).node
node_of_name m i e h =
    let n : Name = get_or (names m.tree) i e in
    node_at-in m.tree n.node m.coherent
    (subst (λ (v : List Node). IsIn n.node v) (names_nodes m.tree) (in_at (names m.tree) i e h))

-- What a member has of a name, and the name's line, by the names before it.

behind_at : (before ns : List Name) (i : ℕ) (d : Known) (e : Name) → i < length ns
    → get_or (all_behind before ns) i d ≡ known_behind (before ++ take i ns) (get_or ns i e)
behind_at before [] i d e h = absurd (omega (arith, h))
behind_at before (n ∷ ns) zero d e h = ap (λ (v : List Name). known_behind v n) (sym (append-nil before))
behind_at before (n ∷ ns) (suc i) d e h =
    behind_at (before ++ n ∷ []) ns i d e (omega (arith, h))
    ∙ ap (λ (v : List Name). known_behind v (get_or ns i e)) (append_assoc before (n ∷ []) (take i ns))

line_at : (m : Image) (rules : FileRules) (before ns : List Name) (i : ℕ) (d : Line) (e : Name) → i < length ns
    → get_or (lines_behind m rules before ns) i d ≡ line_behind m rules (before ++ take i ns) (get_or ns i e)
line_at m rules before [] i d e h = absurd (omega (arith, h))
line_at m rules before (n ∷ ns) zero d e h = ap (λ (v : List Name). line_behind m rules v n) (sym (append-nil before))
line_at m rules before (n ∷ ns) (suc i) d e h =
    line_at m rules (before ++ n ∷ []) ns i d e (omega (arith, h))
    ∙ ap (λ (v : List Name). line_behind m rules v (get_or ns i e)) (append_assoc before (n ∷ []) (take i ns))

pub length-lines : (m : Image) (rules : FileRules) (before ns : List Name)
    → length (lines_behind m rules before ns) ≡ length ns
length-lines m rules before [] = refl
length-lines m rules before (n ∷ ns) = ap suc (length-lines m rules (before ++ n ∷ []) ns)

map_at : (ms : List Member) (i : ℕ) (d : Member) (t : Known) → i < length ms
    → get_or (map known_of ms) i t ≡ known_of (get_or ms i d)
map_at [] i d t h = absurd (omega (arith, h))
map_at (x ∷ ms) zero d t h = refl
map_at (x ∷ ms) (suc i) d t h = map_at ms i d t (omega (arith, h))

-- The path of the first name of a node.

abbrev name_path : List Name → ℕ → List ℕ
name_path [] i = []
name_path (n ∷ ns) zero = n.path
name_path (n ∷ ns) (suc i) = name_path ns i

path_named : (ns : List Name) (i : ℕ) (e : Name) → i < length ns → (get_or ns i e).path ≡ name_path ns i
path_named [] i e h = absurd (omega (arith, h))
path_named (n ∷ ns) zero e h = refl
path_named (n ∷ ns) (suc i) e h = path_named ns i e (omega (arith, h))

one_further : (b : Name) (ns : List Name) (o : Option ℕ)
    → option_map (name_path (b ∷ ns)) (option_map suc o) ≡ option_map (name_path ns) o
one_further b ns None = refl
one_further b ns (Some i) = refl

by_found : (t : Bool) (b : Name) (ns : List Name) (o : Option ℕ) (q : Option Name)
    → option_map (name_path ns) o ≡ option_map (λ n. n.path) q
    → option_map (name_path (b ∷ ns)) (cond t (Some 0) (option_map suc o))
    ≡ option_map (λ n. n.path) (cond t (Some b) q)
by_found true b ns o q h = refl
by_found false b ns o q h = one_further b ns o ∙ h

first_path : (number : ℕ) (before rest : List Name)
    → option_map (name_path (before ++ rest)) (place_of number before)
    ≡ option_map (λ n. n.path) (first_name number before)
first_path number [] rest = refl
first_path number (b ∷ before) rest =
    by_found (ino_of b.node == number) b (before ++ rest) (place_of number before) (first_name number before)
    (first_path number before rest)

-- The first name is before.

by_within : (t : Bool) (o : Option ℕ) (k : ℕ) → IfSome o (λ j. j < k)
    → IfSome (cond t (Some 0) (option_map suc o)) (λ j. j < suc k)
by_within true o k h = omega arith
by_within false None k h = h
by_within false (Some i) k h = omega (arith, h)

place_within : (number : ℕ) (before : List Name) → IfSome (place_of number before) (λ j. j < length before)
place_within number [] = tt
place_within number (b ∷ before) =
    by_within (ino_of b.node == number) (place_of number before) (length before) (place_within number before)

first_within : (t : Bool) (o : Option ℕ) (k l : ℕ) → k ≤ l → IfSome o (λ j. j < k) → IfSome (cond t None o) (λ j. j < l)
first_within true o k l h i = tt
first_within false None k l h i = tt
first_within false (Some j) k l h i = omega (arith, h, i)

-- The line of a member.

by_first : (m : Image) (rules : FileRules) (ms : List Member) (ns : List Name) (n : Name) (o : Option ℕ)
    (q : Option Name)
    → map path_by (ways_of ms) ≡ map (λ v. v.path) ns
    → IfSome o (λ j. j < length ns) → option_map (name_path ns) o ≡ option_map (λ v. v.path) q
    → line_from m rules ms n.path n.node o ≡ line_by m rules n q
by_first m rules ms ns n None None p l h = refl
by_first m rules ms ns n None (Some v) p l h = absurd cc
by_first m rules ms ns n (Some i) None p l h = absurd cc
by_first m rules ms ns n (Some i) (Some v) p l h =
    let e : name_path ns i ≡ v.path = cc in
    ap (hard_line n.path) (path_here ms ns i n p l ∙ path_named ns i n l ∙ e)

by_kind : (m : Image) (rules : FileRules) (ms : List Member) (ns : List Name) (n : Name) (t : Bool) (o : Option ℕ)
    (q : Option Name) → map path_by (ways_of ms) ≡ map (λ v. v.path) ns
    → IfSome (cond t None o) (λ j. j < length ns) → option_map (name_path ns) o ≡ option_map (λ v. v.path) q
    → line_from m rules ms n.path n.node (cond t None o) ≡ line_by m rules n (cond t None q)
by_kind m rules ms ns n true o q p l h = refl
by_kind m rules ms ns n false o q p l h = by_first m rules ms ns n o q p l h

-- what a member has of a name makes the name's line
line_as : (m : Image) (rules : FileRules) (ms : List Member) (before rest : List Name) (n : Name)
    → map path_by (ways_of ms) ≡ map (λ v. v.path) (before ++ rest)
    → line_from m rules ms n.path n.node (first_behind before n.node) ≡ line_behind m rules before n
line_as m rules ms before rest n p =
    let number : ℕ = ino_of n.node in
    by_kind m rules ms (before ++ rest) n (is_directory n.node) (place_of number before) (first_name number before) p
    (first_within (is_directory n.node) (place_of number before) (length before) (length (before ++ rest))
    (omega (arith, length-append before rest)) (place_within number before))
    (first_path number before rest)

-- what a member at an index is, and its line
pub record IsLined (m : Image) (rules : FileRules) (ms : List Member) (i : ℕ) (x : Member) : Type 0 where
  pub node : Node
  pub at : image_node m x.node.0 ≡ Some node
  pub first : IfSome x.first (λ j. j < length ms)
  pub within : i < length (member_lines m rules)
  pub line : (d : Line) → get_or (member_lines m rules) i d ≡ line_described m rules ms i node x.first

pub lined : (m : Image) (rules : FileRules) (ms : List Member) (i : ℕ) (d : Member) → AreMembers m ms → i < length ms
    → IsLined m rules ms i (get_or ms i d)
unfolding members_of member_lines
lined m rules ms i d h l =
    let ns : List Name = names m.tree in
    let e : Name = named [] [] m.tree in
    let t : Known = known_behind [] e in
    let n : Name = get_or ns i e in
    let before : List Name = take i ns in
    let number : ℕ = ino_of n.node in
    let many : length ms ≡ length ns = as_many ms ns h.known in
    let k : i < length ns = omega (arith, many, l) in
    let few : length before ≤ length ms = omega (arith, many, k, length-take-le i ns (omega (arith, k))) in
    let known : known_of (get_or ms i d) ≡ known_behind before n =
    sym (map_at ms i d t l) ∙ ap (λ (v : List Known). get_or v i t) h.known ∙ behind_at [] ns i t e k in
    let paths : map path_by (ways_of ms) ≡ map (λ v. v.path) (before ++ drop i ns) =
    h.paths ∙ ap (map (λ (v : Name). v.path)) (sym (take-append-drop i ns)) in
    record {
      node = n.node;
      at = ap (λ (v : Known). image_node m v.number) known ∙ node_of_name m i e k;
      first = subst (λ (o : Option ℕ). IfSome o (λ j. j < length ms)) (sym (ap (λ (v : Known). v.first) known))
          (first_within (is_directory n.node) (place_of number before) (length before) (length ms) few
          (place_within number before));
      within = omega (arith, k, length-lines m rules [] ns);
      line = λ x. line_at m rules [] ns i x e k ∙ sym (line_as m rules ms before (drop i ns) n paths)
          ∙ ap₂ (λ (p : List ℕ) (o : Option ℕ). line_from m rules ms p n.node o) (sym (path_here ms ns i e h.paths k))
          (sym (ap (λ (v : Known). v.first) known));
    }

-- as many lines as members
pub as_many_lines : (m : Image) (rules : FileRules) (ms : List Member) → AreMembers m ms
    → length (member_lines m rules) ≡ length ms
unfolding members_of member_lines
as_many_lines m rules ms h = length-lines m rules [] (names m.tree) ∙ sym (as_many ms (names m.tree) h.known)

-- The lines so far.

line_more : (ls : List Line) (l : Line) → lines_text (ls ++ l ∷ []) ≡ lines_text ls ++ (line_text l ++ 10 ∷ [])
line_more [] l = append-nil (line_text l ++ 10 ∷ [])
line_more (k ∷ ls) l =
    ap (λ (v : List ℕ). (line_text k ++ 10 ∷ []) ++ v) (line_more ls l)
    ∙ sym (append_assoc (line_text k ++ 10 ∷ []) (lines_text ls) (line_text l ++ 10 ∷ []))

-- one line more
pub and_line : {r s t : Sink} (ls : List Line) (i : ℕ) (l : Line) → i < length ls → ((d : Line) → get_or ls i d ≡ l)
    → Puts r s (lines_text (take i ls)) → Puts s t (line_text l ++ 10 ∷ []) → Puts r t (lines_text (take (i + 1) ls))
and_line {r} {s} {t} ls i l h e p q =
    let P : List ℕ → Type 0 = λ v. Puts r t v in
    subst P (sym (ap lines_text (take_more ls i l h ∙ ap (λ (v : Line). take i ls ++ v ∷ []) (e l))
    ∙ line_more (take i ls) l)) (chain p q)

-- all of them
pub all_lines : {s t : Sink} (ls : List Line) (i : ℕ) → length ls ≤ i → Puts s t (lines_text (take i ls))
    → Puts s t (lines_text ls)
all_lines {s} {t} ls i h p = let P : List ℕ → Type 0 = λ v. Puts s t v in subst P (ap lines_text (take_all i ls h)) p
