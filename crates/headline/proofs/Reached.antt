-- Each node of a layout's tree is at the end of a path.
use Rattle.std.proofs.Common.{◌≡◌, ℕ, ◌+◌, true, false, ◌⊎◌, List, [], ◌∷◌, Some, inl, inr, refl, sym, ap}
use Rattle.std.proofs.Common.{subst, ◌∙◌}
use Rattle.std.specs.Cmp.Lexicographic.{bytes_decides}
use Rattle.std.specs.Option.{option_and_then}
use Rattle.std.specs.Str.{bytes_eq}
use Rattle.rom_tree.specs.Image.{find_entry}
use Rattle.rom_tree.specs.Kinds.{KindNumbers, body_by}
use Rattle.rom_tree.specs.Tree.{Attributes, Entries, IsIn, Node, block, body_entries, character, directory}
use Rattle.rom_tree.specs.Tree.{entries_nodes, entries_of, entry, fifo, here, no_entries, node, nodes, regular, socket}
use Rattle.rom_tree.specs.Tree.{symlink, there}
use Rattle.rom_tree.proofs.ByKind.{below_body, by_kind_directory, by_kind_map}
use Rattle.rom_tree.proofs.Nodes.{in-split}
use Rattle.cramfs_format.specs.declared.order.Order.{Order}
use Rattle.cramfs_format.specs.Inode as of_cramfs
use Rattle.cramfs_format.specs.Tree as cramfs_tree
use Rattle.cramfs_layout.specs.Forest.{spots}
use Rattle.cramfs_layout.specs.Layout as cramfs_layout
use Rattle.cramfs_layout.specs.Planned as cramfs_plan
use Rattle.cramfs_layout.specs.Wells as cramfs_wells
use Rattle.cramfs_layout.proofs.Image as cramfs_image
use Rattle.cramfs_layout.proofs.Whole.{all_spots}
use Rattle.manifest_tree.specs.Lists.{StandsIn}
use Rattle.manifest_tree.specs.Names.{Inode, Names, leaf, link, nothing, subdirectory}
use Rattle.manifest_tree.specs.Shape.{node_under}
use Rattle.romfs_format.specs.Record as of_romfs
use Rattle.romfs_format.specs.Tree as romfs_tree
use Rattle.romfs_layout.specs.Layout as romfs_layout
use Rattle.romfs_layout.specs.Wells as romfs_wells
use Rattle.romfs_layout.proofs.Entries.{made_of}
use Rattle.romfs_layout.proofs.Image.{tree_in}

-- a node at the end of a path that begins with one of these names
pub record IsReached (N : List ℕ → Type 0) (es : Entries) (x : Node) : Type 0 where
  pub name : List ℕ
  pub more : List (List ℕ)
  pub stands : N name
  pub found : option_and_then (λ y. node_under more y) (find_entry es name) ≡ Some x

-- each node below some entries
abbrev pub AreReached : (List ℕ → Type 0) → Entries → Type 0
AreReached N es = (x : Node) → IsIn x (entries_nodes es) → IsReached N es x

-- x is the node y, or below its entries es
abbrev IsBelow : Node → Entries → Node → Type 0
IsBelow y es x = (x ≡ y) ⊎ ((entries_of y ≡ es) × IsIn x (entries_nodes es))

below_kind : (a : Attributes) (k : KindNumbers) (t : ℕ) (ps : List ℕ) (es : Entries) (x : Node)
    → IsIn x (nodes (node a (body_by k t ps es))) → IsBelow (node a (body_by k t ps es)) es x
below_kind a k t ps es x here = inl refl
below_kind a k t ps es x (there h) =
    let b = below_body k t ps es x h in inr (
      by_kind_map body_entries k t (directory es) (regular ps) (symlink ps) block character socket fifo
          ∙ by_kind_directory k t es no_entries no_entries no_entries no_entries no_entries no_entries b.0,
      b.1,
    )

-- a path below a node
under_node : (N : List ℕ → Type 0) (y : Node) (es : Entries) (x : Node) → AreReached N es → IsBelow y es x
    → (q : List (List ℕ)) × (node_under q y ≡ Some x)
under_node N y es x all (inl e) = ([], ap (λ (z : Node). Some z) (sym e))
under_node N y es x all (inr (e, i)) =
    let r = all x i in (
      r.name ∷ r.more,
      ap (λ (fs : Entries). option_and_then (λ z. node_under r.more z) (find_entry fs r.name)) e ∙ r.found,
    )

-- one more name, which is not among the later ones
first_reached : (N M P : List ℕ → Type 0) (name : List ℕ) (y : Node) (own es : Entries) → N name
    → ((m : List ℕ) → M m → N m) → (M name → ⊥) → ((x : Node) → IsIn x (nodes y) → IsBelow y own x)
    → AreReached P own → AreReached M es → AreReached N (entry name y es)
first_reached N M P name y own es stands wider free below under later x i =
    in-split x (nodes y) (entries_nodes es) i mine theirs
  where
    self : bytes_eq name name ≡ true
    self = (bytes_decides name name).1 refl

    mine : IsIn x (nodes y) → IsReached N (entry name y es) x
    mine h =
        let q = under_node P y own x under (below x h) in
        record { name = name; more = q.0; stands = stands; found = rw self q.1 }

    other : (m : List ℕ) → M m → bytes_eq name m ≡ false
    other m h = elim (bytes_eq name m) as (λ t. bytes_eq name m ≡ t → t ≡ false) [
      | true ↦ λ e. absurd (free (subst M (sym ((bytes_decides name m).0 e)) h))
      | false ↦ λ e. refl
    ] refl

    theirs : IsIn x (entries_nodes es) → IsReached N (entry name y es) x
    theirs h =
        let r = later x h in
        let no = other r.name r.stands in
        record { name = r.name; more = r.more; stands = wider r.name r.stands; found = rw no r.found }

none_reached : (N : List ℕ → Type 0) → AreReached N no_entries
none_reached N x i = elim i [ ]

nowhere : List ℕ → Type 0
nowhere m = ⊥

-- all nodes of a tree
abbrev pub HavePaths : Node → Type 0
HavePaths t = (x : Node) → IsIn x (nodes t) → (q : List (List ℕ)) × (node_under q t ≡ Some x)

below_in_cramfs : (o : Order) (b : List ℕ) (p : ℕ) (es : Entries) (x : Node)
    → IsIn x (nodes (cramfs_tree.node_of o b p es)) → IsBelow (cramfs_tree.node_of o b p es) es x
unfolding cramfs_tree.node_of
below_in_cramfs o b p es x i =
    below_kind (cramfs_tree.attributes_at o b p) cramfs_tree.kind_numbers (of_cramfs.type_of o b p)
    (cramfs_tree.places_at o b p) es x i

entries_in_cramfs : (o : Order) (b : List ℕ) (cs : List (List ℕ)) (high l : ℕ) (s : cramfs_layout.State) (n : Names)
    → cramfs_wells.AreWell cs n → cramfs_wells.AllRead o b cs high l s n
    → AreReached (λ m. StandsIn m n) (cramfs_tree.entries_at o b (spots l s n))
entries_in_cramfs o b cs high l s nothing h r = none_reached (λ m. StandsIn m nothing)
entries_in_cramfs o b cs high l s (leaf name i rest) h r =
    let l' = l + cramfs_layout.entry_len name in
    let s' = cramfs_layout.after_file s i in
    first_reached (λ m. StandsIn m (leaf name i rest)) (λ m. StandsIn m rest) nowhere (of_cramfs.name_of o b l)
    (cramfs_tree.node_of o b l no_entries) no_entries (cramfs_tree.entries_at o b (spots l' s' rest))
    (inl r.0.name_is) (λ m z. inr z)
    (λ z. h.0.0.alone (subst (λ (v : List ℕ). StandsIn v rest) r.0.name_is z)) (below_in_cramfs o b l no_entries)
    (none_reached nowhere) (entries_in_cramfs o b cs high l' s' rest h.2 r.2)
entries_in_cramfs o b cs high l s (link name i rest) h r = absurd h
entries_in_cramfs o b cs high l s (subdirectory name i own rest) h r =
    let l' = l + cramfs_layout.entry_len name in
    let s1 = cramfs_layout.after_list s own in
    let s2 = cramfs_layout.after_names s1 own in
    let p = cramfs_layout.pad4 s.at in
    let mine = cramfs_tree.entries_at o b (spots p s1 own) in
    first_reached (λ m. StandsIn m (subdirectory name i own rest)) (λ m. StandsIn m rest) (λ m. StandsIn m own)
    (of_cramfs.name_of o b l) (cramfs_tree.node_of o b l mine) mine
    (cramfs_tree.entries_at o b (spots l' s2 rest)) (inl r.0.name_is) (λ m z. inr z)
    (λ z. h.0.0.alone (subst (λ (v : List ℕ). StandsIn v rest) r.0.name_is z)) (below_in_cramfs o b l mine)
    (entries_in_cramfs o b cs high p s1 own h.2 r.1) (entries_in_cramfs o b cs high l' s2 rest h.3 r.2)

pub paths_in_cramfs : (o : Order) (volume : List ℕ) (root : Inode) (n : Names) (cs : List (List ℕ))
    → cramfs_plan.IsPlanned volume root n cs
    → HavePaths (cramfs_tree.tree_of o (cramfs_layout.layout o volume root n cs) (all_spots n))
unfolding cramfs_tree.tree_of
paths_in_cramfs o volume root n cs h x i =
    let b = cramfs_layout.layout o volume root n cs in
    let s = cramfs_layout.first_state n in
    let es = cramfs_tree.entries_at o b (spots 76 s n) in
    under_node (λ m. StandsIn m n) (cramfs_tree.node_of o b 64 es) es x
    (entries_in_cramfs o b cs (cramfs_layout.after_names s n).at 76 s n h.well
    (cramfs_image.is_image o volume root n cs h).holds.reads) (below_in_cramfs o b 64 es x i)

below_in_romfs : (b : List ℕ) (p : ℕ) (es : Entries) (x : Node) → IsIn x (nodes (romfs_tree.node_of b p es))
    → IsBelow (romfs_tree.node_of b p es) es x
unfolding romfs_tree.node_of
below_in_romfs b p es x i =
    below_kind (romfs_tree.attributes_at b p) romfs_tree.kind_numbers (of_romfs.type_of b p)
    (romfs_tree.places_at b p) es x i

entries_in_romfs : (b : List ℕ) (cs : List (List ℕ)) (at' : ℕ → ℕ) (from : ℕ) (n : Names) → romfs_wells.AreWell cs n
    → AreReached (λ m. StandsIn m n) (made_of b at' from n)
entries_in_romfs b cs at' from nothing h = none_reached (λ m. StandsIn m nothing)
entries_in_romfs b cs at' from (leaf name i after) h =
    let q = romfs_layout.leaf_end from name i in
    let p = romfs_layout.place_of from name i in
    first_reached (λ m. StandsIn m (leaf name i after)) (λ m. StandsIn m after) nowhere name
    (romfs_tree.node_of b p no_entries) no_entries (made_of b at' q after) (inl refl) (λ m z. inr z) h.0.alone
    (below_in_romfs b p no_entries) (none_reached nowhere) (entries_in_romfs b cs at' q after h.2)
entries_in_romfs b cs at' from (link name i after) h =
    let q = romfs_layout.header_end from name in
    first_reached (λ m. StandsIn m (link name i after)) (λ m. StandsIn m after) nowhere name
    (romfs_tree.node_of b (at' i.line) no_entries) no_entries (made_of b at' q after) (inl refl) (λ m z. inr z)
    h.0.alone (below_in_romfs b (at' i.line) no_entries) (none_reached nowhere)
    (entries_in_romfs b cs at' q after h.2)
entries_in_romfs b cs at' from (subdirectory name i own after) h =
    let p = of_romfs.pad16 from in
    let he = romfs_layout.header_end from name in
    let q = romfs_layout.ends (he + 64) own in
    let mine = made_of b at' (he + 64) own in
    first_reached (λ m. StandsIn m (subdirectory name i own after)) (λ m. StandsIn m after) (λ m. StandsIn m own) name
    (romfs_tree.node_of b p mine) mine (made_of b at' q after) (inl refl) (λ m z. inr z) h.0.alone
    (below_in_romfs b p mine) (entries_in_romfs b cs at' (he + 64) own h.2) (entries_in_romfs b cs at' q after h.3)

pub paths_in_romfs : (b volume : List ℕ) (n : Names) (cs : List (List ℕ)) → romfs_wells.AreWell cs n
    → HavePaths (tree_in b volume n)
unfolding tree_in
paths_in_romfs b volume n cs h x i =
    let r = romfs_layout.root_at volume in
    let at' = romfs_layout.place_with (romfs_layout.placed (r + 64) n) in
    let es = made_of b at' (r + 64) n in
    under_node (λ m. StandsIn m n) (romfs_tree.node_of b r es) es x (entries_in_romfs b cs at' (r + 64) n h)
    (below_in_romfs b r es x i)
