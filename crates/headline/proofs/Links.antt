-- The text of a link lies in one row of an image that has a tree.
use Rattle.std.proofs.Common.{◌≡◌, ℕ, zero, suc, ◌≤◌, true, false, if◌then◌else◌, ◌⊎◌, inl, inr, List, [], length, min}
use Rattle.std.proofs.Common.{refl, sym, ap, subst, ◌∙◌, arith, append-nil}
use Rattle.rom_tree.specs.Image.{Image}
use Rattle.rom_tree.specs.Tree.{Node, node, Attributes, Entries, entry, IsIn, here, there, nodes, entries_nodes}
use Rattle.rom_tree.specs.Tree.{places_of, is_link, is_link_body, row_from}
use Rattle.rom_tree.specs.Kinds.{KindNumbers, by_kind, body_by}
use Rattle.rom_tree.specs.declared.types.Limits.{Limits}
use Rattle.rom_tree.proofs.ByKind.{below_body, body_places_is, only_link}
use Rattle.rom_tree.proofs.Nodes.{in-split}
use Rattle.rom_tree.proofs.Numbers.{length_row, row_at}
use Rattle.record_forest.specs.Forest.{Forest, none, at}
use Rattle.rom_tree.specs.Dots.{is_dots}
use Rattle.romfs_format.specs.Record.{end_of, size_of, type_of, name_of}
use Rattle.romfs_format.specs.Tree as in_romfs
use Rattle.romfs_format.specs.Tree.{RomfsTree}
use Rattle.cramfs_format.specs.declared.order.Order.{Order}
use Rattle.cramfs_format.specs.Order.{word}
use Rattle.cramfs_format.specs.Inode as inode
use Rattle.cramfs_format.specs.Inode.{block_count, block_start}
use Rattle.cramfs_format.specs.Tree as in_cramfs
use Rattle.cramfs_format.specs.Tree.{CramfsTree, blocks_from}
use Rattle.cramfs_format.specs.Refers.{root_place}
use Rattle.cramfs_format.proofs.Contents.{length_places}
use Rattle.image_check.specs.Checked.{HasTree}
use Rattle.headline.proofs.Pieces.{Follow}

abbrev IsRow : List ℕ → Type 0
IsRow ps = (p : ℕ) × Follow p ps

row : (p k : ℕ) → IsRow (row_from p k)
row p k = (p, λ j l. row_at p k j (let n = length_row p k in omega arith))

-- a node that is made of a record, or one of the entries of its list
in_made : (a : Attributes) (k : KindNumbers) (t : ℕ) (ps : List ℕ) (es : Entries) (x : Node)
    → IsIn x (nodes (node a (body_by k t ps es)))
    → (x ≡ node a (body_by k t ps es)) ⊎ IsIn x (entries_nodes es)
in_made a k t ps es x here = inl refl
in_made a k t ps es x (there h) = inr (below_body k t ps es x h).1

-- a link has the places of its record
link_places : (a : Attributes) (k : KindNumbers) (t : ℕ) (ps : List ℕ) (es : Entries) (x : Node)
    → by_kind k k.of_symlink [] ps ps [] [] [] [] ≡ ps
    → x ≡ node a (body_by k t ps es) → is_link x ≡ true → places_of x ≡ ps
link_places a k t ps es x own e h =
    let body = body_by k t ps es in
    let is : is_link_body body ≡ true = subst (λ (y : Node). is_link y ≡ true) e h in
    ap places_of e ∙ body_places_is k t ps es
    ∙ ap (λ (n : ℕ). by_kind k n [] ps ps [] [] [] []) (only_link k t ps es is) ∙ own

-- romfs: a link's bytes stand behind its record
romfs_row : (b : List ℕ) (p : ℕ) (es : Entries) (x : Node) → (IsIn x (entries_nodes es) → IsRow (places_of x))
    → IsIn x (nodes (in_romfs.node_of b p es)) → is_link x ≡ true → IsRow (places_of x)
unfolding in_romfs.node_of in_romfs.places_at
romfs_row b p es x below h e =
    elim (in_made (in_romfs.attributes_at b p) in_romfs.kind_numbers (type_of b p) (in_romfs.places_at b p) es x h) [
      | inl i ↦ subst IsRow (sym (link_places (in_romfs.attributes_at b p) in_romfs.kind_numbers (type_of b p)
          (in_romfs.places_at b p) es x refl i e)) (row (end_of b p) (size_of b p))
      | inr i ↦ below i
    ]

romfs_rows : (b : List ℕ) (f : Forest) (x : Node) → is_link x ≡ true → IsIn x (entries_nodes (in_romfs.entries_at b f))
    → IsRow (places_of x)
romfs_rows b none x e h = elim h [ ]
romfs_rows b (at p own after) x e h =
    let n = in_romfs.node_of b (in_romfs.led 8 b p) (in_romfs.entries_at b own) in
    let es = in_romfs.entries_at b after in
    elim (is_dots (name_of b p)) as (λ t. IsIn x (entries_nodes (if t then es else entry (name_of b p) n es))
    → IsRow (places_of x)) [
      | true ↦ romfs_rows b after x e
      | false ↦ λ i. in-split x (nodes n) (entries_nodes es) i
          (λ j. romfs_row b (in_romfs.led 8 b p) (in_romfs.entries_at b own) x (romfs_rows b own x e) j e)
          (romfs_rows b after x e)
    ] h

-- cramfs: they stand in one block
one_block : (o : Order) (b : List ℕ) (n q size : ℕ) → n ≤ 1 → IsRow (blocks_from o b n q size)
one_block o b zero q size l = (0, λ j k. absurd (omega arith))
one_block o b (suc zero) q size l =
    let place = block_start (word o b q) in
    subst IsRow (sym (append-nil (row_from place (min 4096 size)))) (row place (min 4096 size))
one_block o b (suc (suc n)) q size l = absurd (omega arith)

short_row : (o : Order) (b : List ℕ) (p : ℕ) → length (in_cramfs.places_at o b p) ≤ 4095
    → IsRow (in_cramfs.places_at o b p)
unfolding in_cramfs.places_at
short_row o b p l =
    let n = length_places o b p in
    one_block o b (block_count (inode.size_of o b p)) (inode.offset_of o b p) (inode.size_of o b p) (omega (arith, n))

-- a link has no more than 4095 bytes
abbrev IsShort : Node → Type 0
IsShort x = length (places_of x) ≤ 4095

cramfs_row : (o : Order) (b : List ℕ) (p : ℕ) (es : Entries) (x : Node)
    → (IsIn x (entries_nodes es) → IsRow (places_of x))
    → IsIn x (nodes (in_cramfs.node_of o b p es)) → is_link x ≡ true → IsShort x → IsRow (places_of x)
unfolding in_cramfs.node_of
cramfs_row o b p es x below h e s = elim
    (in_made (in_cramfs.attributes_at o b p) in_cramfs.kind_numbers (inode.type_of o b p)
    (in_cramfs.places_at o b p) es x h) [
      | inl i ↦
          let are = link_places (in_cramfs.attributes_at o b p) in_cramfs.kind_numbers (inode.type_of o b p)
          (in_cramfs.places_at o b p) es x refl i e in
          subst IsRow (sym are) (short_row o b p (subst (λ (ps : List ℕ). length ps ≤ 4095) are s))
      | inr i ↦ below i
    ]

cramfs_rows : (o : Order) (b : List ℕ) (f : Forest) (x : Node) → is_link x ≡ true → IsShort x
    → IsIn x (entries_nodes (in_cramfs.entries_at o b f)) → IsRow (places_of x)
cramfs_rows o b none x e s h = elim h [ ]
cramfs_rows o b (at p own after) x e s h =
    let es = in_cramfs.entries_at o b own in
    in-split x (nodes (in_cramfs.node_of o b p es)) (entries_nodes (in_cramfs.entries_at o b after)) h
    (λ j. cramfs_row o b p es x (cramfs_rows o b own x e s) j e s) (cramfs_rows o b after x e s)

romfs_links : (all : List ℕ) (most deepest : ℕ) (t x : Node) → RomfsTree all most deepest t → IsIn x (nodes t)
    → is_link x ≡ true → IsRow (places_of x)
unfolding in_romfs.tree_of
romfs_links all most deepest t x h i e =
    let own = in_romfs.below_root h.b h.r h.forest in
    romfs_row h.b h.r (in_romfs.entries_at h.b own) x (romfs_rows h.b own x e)
    (subst (λ (y : Node). IsIn x (nodes y)) h.same i) e

cramfs_links : (o : Order) (all : List ℕ) (most deepest : ℕ) (t x : Node) → CramfsTree o all most deepest t
    → IsIn x (nodes t) → is_link x ≡ true → IsShort x → IsRow (places_of x)
unfolding in_cramfs.tree_of
cramfs_links o all most deepest t x h i e s =
    let own = in_cramfs.below_root h.forest in
    cramfs_row o h.b root_place (in_cramfs.entries_at o h.b own) x (cramfs_rows o h.b own x e s)
    (subst (λ (y : Node). IsIn x (nodes y)) h.same i) e s

-- so does each link of an image whose tree one of the formats gives
pub links : (all : List ℕ) (limits : Limits) (m : Image) (x : Node) → HasTree all limits m.tree → IsIn x (nodes m.tree)
    → is_link x ≡ true
    → (p : ℕ) × Follow p (places_of x)
links all limits m x (inl h) i e = romfs_links all limits.references limits.depth m.tree x h i e
links all limits m x (inr h) i e =
    cramfs_links h.0 all limits.references limits.depth m.tree x h.1 i e (m.links x i e).1
