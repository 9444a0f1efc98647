-- The nodes of a tree: those of its names, those that a walk has still to return, and the entries of a directory.
use Rattle.std.proofs.Common.{◌≡◌, ℕ, zero, suc, ◌-◌, ◌<◌, ◌≤◌, List, [], ◌∷◌, ◌++◌, length, map, Some, None}
use Rattle.std.proofs.Common.{refl, sym, ap, ap₂, ◌∙◌, arith, length-append}
use Rattle.std.proofs.lemmas.List.{map-append, length-map}
use Rattle.rom_tree.specs.Tree.{Node, node, Body, directory, regular, symlink, block, character, socket, fifo, Entries}
use Rattle.rom_tree.specs.Tree.{no_entries, entry, IsIn, here, there, nodes, body_nodes, entries_nodes}
use Rattle.rom_tree.specs.Tree.{entries_of, entry_at, entry_count, drop_entries, node_at}
use Rattle.rom_tree.specs.Names.{Name, names, node_names, entries_names, path_below}
use Rattle.rom_tree.proofs.Nodes.{in-split, node_at-some}

mutual
  unfolding node_names

  node_all : (path : List ℕ) (x : Node) → x ∷ map (λ n. n.node) (node_names path x) ≡ nodes x
  node_all path (node a (directory es)) = ap (λ (v : List Node). node a (directory es) ∷ v) (entries_all path es)
  node_all path (node a (regular ps)) = refl
  node_all path (node a (symlink ps)) = refl
  node_all path (node a block) = refl
  node_all path (node a character) = refl
  node_all path (node a socket) = refl
  node_all path (node a fifo) = refl

  entries_all : (path : List ℕ) (es : Entries) → map (λ n. n.node) (entries_names path es) ≡ entries_nodes es
  entries_all path no_entries = refl
  entries_all path (entry name x es) =
      let p : List ℕ = path_below path name in
      ap (λ (v : List Node). x ∷ v) (map-append (λ (n : Name). n.node) (node_names p x) (entries_names path es))
      ∙ ap₂ (λ (v w : List Node). v ++ w) (node_all p x) (entries_all path es)

abbrev pub nodes_of : List Name → List Node
nodes_of ns = map (λ n. n.node) ns

-- the nodes of the names are those of the tree
pub names_nodes : (t : Node) → nodes_of (names t) ≡ nodes t
unfolding names
names_nodes t = node_all [] t

pub few_nodes : (t : Node) (n : ℕ) → length (names t) ≤ n → length (nodes t) ≤ n
few_nodes t n h =
    let e : length (nodes t) ≡ length (names t) =
    ap length (sym (names_nodes t)) ∙ length-map (names t) (λ (n : Name). n.node) in
    omega (arith, e, h)

some_nodes : (x : Node) → 0 < length (nodes x)
some_nodes (node a b) = omega arith

-- a directory has less entries than nodes
entries_few : (es : Entries) → entry_count es ≤ length (entries_nodes es)
entries_few no_entries = omega arith
entries_few (entry name x es) =
    let r = entries_few es in
    let s = some_nodes x in
    let l = length-append (nodes x) (entries_nodes es) in
    omega (arith, r, s, l)

node_few : (x : Node) → entry_count (entries_of x) < length (nodes x)
node_few (node a (directory es)) = let r = entries_few es in omega (arith, r)
node_few (node a (regular ps)) = omega arith
node_few (node a (symlink ps)) = omega arith
node_few (node a block) = omega arith
node_few (node a character) = omega arith
node_few (node a socket) = omega arith
node_few (node a fifo) = omega arith

-- a node of a tree has no more nodes than the tree
mutual
  within : (t x : Node) → IsIn x (nodes t) → length (nodes x) ≤ length (nodes t)
  within (node a b) x here = omega arith
  within (node a b) x (there h) = let r = within_body b x h in omega (arith, r)

  within_body : (b : Body) (x : Node) → IsIn x (body_nodes b) → length (nodes x) ≤ length (body_nodes b)
  within_body (directory es) x h = within_entries es x h
  within_body (regular ps) x h = elim h [ ]
  within_body (symlink ps) x h = elim h [ ]
  within_body block x h = elim h [ ]
  within_body character x h = elim h [ ]
  within_body socket x h = elim h [ ]
  within_body fifo x h = elim h [ ]

  within_entries : (es : Entries) (x : Node) → IsIn x (entries_nodes es) → length (nodes x) ≤ length (entries_nodes es)
  within_entries no_entries x h = elim h [ ]
  within_entries (entry n z es) x h =
      let l = length-append (nodes z) (entries_nodes es) in
      in-split x (nodes z) (entries_nodes es) h
      (λ v. let r = within z x v in omega (arith, l, r))
      (λ v. let r = within_entries es x v in omega (arith, l, r))

-- a directory has less entries than the tree has nodes
pub fewer_entries : (t x : Node) (n : ℕ) → node_at t n ≡ Some x → entry_count (entries_of x) < length (nodes t)
fewer_entries t x n e =
    let f = node_at-some t n x e in
    let s = node_few x in
    let w = within t x f.within in
    omega (arith, s, w)

-- the entries that are left at an index
pub count-drop : (i : ℕ) (es : Entries) → entry_count (drop_entries i es) ≡ entry_count es - i
count-drop zero es = omega arith
count-drop (suc i) no_entries = omega arith
count-drop (suc i) (entry name n es) = let r = count-drop i es in omega (arith, r)

pub count-none : (i : ℕ) (es : Entries) → entry_at es i ≡ None → entry_count es ≤ i
count-none i no_entries h = omega arith
count-none zero (entry name n es) h = absurd (cc)
count-none (suc i) (entry name n es) h = let r = count-none i es h in omega (arith, r)
