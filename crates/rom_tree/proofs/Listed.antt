-- The lines of the names of a tree are its list.
use Rattle.std.proofs.Common.{◌≡◌, ◌<◌, ℕ, ◌∷◌, [], ◌++◌, List, length, refl, sym, ap, ◌∙◌, arith, append_assoc}
use Rattle.std.proofs.Common.{append-nil}
use Rattle.std.proofs.lemmas.Grind.{flat_map-append}
use Rattle.rom_fields.specs.Texts.{escaped}
use Rattle.rom_tree.specs.Tree.{Node, node, directory, regular, symlink, block, character, socket, fifo, Entries}
use Rattle.rom_tree.specs.Tree.{no_entries, entry}
use Rattle.rom_tree.specs.Listing.{line, below, node_lines, entries_lines, list_text}
use Rattle.rom_tree.specs.Names.{Name, named, names, node_names, entries_names, path_below, name_line, listed}
use Rattle.rom_tree.proofs.Paths.{escaped_none, escaped_both, escaped_slash, escaped_below}

listed_both : (b : List ℕ) (ns ms : List Name) → listed b (ns ++ ms) ≡ listed b ns ++ listed b ms
unfolding listed
listed_both b ns ms = flat_map-append (name_line b) ns ms

listed_none : (b : List ℕ) → listed b [] ≡ []
unfolding listed
listed_none b = refl

listed_more : (b : List ℕ) (n : Name) (ns : List Name) → listed b (n ∷ ns) ≡ name_line b n ++ listed b ns
unfolding listed
listed_more b n ns = refl

-- a path below another, escaped
below_escaped : (path name : List ℕ) → escaped (path_below path name) ≡ below (escaped path) name
below_escaped path name = escaped_both path (47 ∷ name) ∙ ap (λ (v : List ℕ). escaped path ++ v) (escaped_below name)

mutual
  unfolding node_lines node_names

  -- the lines below a node
  node_listed : (b path : List ℕ) (x : Node) → node_lines b (escaped path) x ≡ listed b (node_names path x)
  node_listed b path (node a (directory es)) = entries_listed b path es
  node_listed b path (node a (regular ps)) = sym (listed_none b)
  node_listed b path (node a (symlink ps)) = sym (listed_none b)
  node_listed b path (node a block) = sym (listed_none b)
  node_listed b path (node a character) = sym (listed_none b)
  node_listed b path (node a socket) = sym (listed_none b)
  node_listed b path (node a fifo) = sym (listed_none b)

  entries_listed : (b path : List ℕ) (es : Entries)
      → entries_lines b (escaped path) es ≡ listed b (entries_names path es)
  entries_listed b path no_entries = sym (listed_none b)
  entries_listed b path (entry name x es) =
      let p : List ℕ = path_below path name in
      let e : below (escaped path) name ≡ escaped p = sym (below_escaped path name) in
      ap (λ (v : List ℕ). line b v x ++ (node_lines b v x ++ entries_lines b (escaped path) es)) e
      ∙ (ap (λ (v : List ℕ). line b (escaped p) x ++ (v ++ entries_lines b (escaped path) es)) (node_listed b p x)
      ∙ (ap (λ (v : List ℕ). line b (escaped p) x ++ (listed b (node_names p x) ++ v)) (entries_listed b path es)
      ∙ (ap (λ (v : List ℕ). line b (escaped p) x ++ v) (sym (listed_both b (node_names p x) (entries_names path es)))
      ∙ sym (listed_more b (named p name x) (node_names p x ++ entries_names path es)))))

-- the lines of all names
pub tree_listed : (b : List ℕ) (t : Node) → listed b (names t) ≡ list_text b t
unfolding list_text names
tree_listed b t =
    listed_more b (named (47 ∷ []) [] t) (node_names [] t)
    ∙ (ap (λ (v : List ℕ). line b v t ++ listed b (node_names [] t)) escaped_slash
    ∙ ap (λ (v : List ℕ). line b (47 ∷ []) t ++ v)
    (sym (node_listed b [] t) ∙ ap (λ (v : List ℕ). node_lines b v t) escaped_none))

-- the text so far, the line of the name that was given, and the rest
pub more_texts : (b done all : List ℕ) (given : Name) (old new : List Name) → old ≡ given ∷ new
    → done ++ listed b old ≡ all → (done ++ name_line b given) ++ listed b new ≡ all
more_texts b done all given old new e h =
    append_assoc done (name_line b given) (listed b new)
    ∙ (ap (λ (v : List ℕ). done ++ v) (sym (ap (listed b) e ∙ listed_more b given new)) ∙ h)

-- nothing is left
pub last_texts : (b done all : List ℕ) (old : List Name) → old ≡ [] → done ++ listed b old ≡ all → done ≡ all
last_texts b done all old e h =
    sym (append-nil done) ∙ (ap (λ (v : List ℕ). done ++ v) (sym (ap (listed b) e ∙ listed_none b)) ∙ h)

-- a name less is to come
pub fewer : (given : Name) (old new : List Name) → old ≡ given ∷ new → length new < length old
fewer given old new e = rw e (omega arith)
