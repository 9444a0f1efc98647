-- Where the bytes of a node are, from the numbers of its image.
use Rattle.std.proofs.Common.{◌≡◌, ◌∙◌, ℕ, List, Bool, true, false, if◌then◌else◌, length, take, refl, sym, ap, subst}
use Rattle.std.proofs.Common.{[]}
use Rattle.std.proofs.Common.{Some, IsSome}
use Rattle.rom_tree.specs.Tree.{Node, node_at, places_of, row_from}
use Rattle.rom_tree.specs.Image.{Image, HasNode, image_node}
use Rattle.rom_tree.proofs.Numbers.{length_row}
use Rattle.romfs_format.specs.Record.{end_of}
use Rattle.romfs_format.proofs.Contents.{made_places as romfs_places, file_size as romfs_size}
use Rattle.romfs_format.proofs.Trees.{IsKnown as IsRomfsKnown, known as romfs_knows, named as romfs_named}
use Rattle.romfs_image.specs.declared.image.Parts.{Parts as RomfsParts}
use Rattle.romfs_image.specs.Parts.{AreParts as AreRomfsParts}
use Rattle.cramfs_format.specs.Inode.{offset_of, size_of, type_of, has_data, block_count}
use Rattle.cramfs_format.specs.Tree.{blocks_from, places_at}
use Rattle.cramfs_format.specs.declared.order.Order.{Order}
use Rattle.cramfs_format.proofs.Contents.{made_places as cramfs_places, made_length, file_size}
use Rattle.cramfs_format.proofs.Trees.{IsKnown as IsCramfsKnown, known as cramfs_knows, named as cramfs_named}
use Rattle.cramfs_image.specs.declared.image.Parts.{Parts as CramfsParts}
use Rattle.cramfs_image.specs.Parts.{AreParts as AreCramfsParts}
use Rattle.image_check.specs.declared.any.Parts.{Parts}
use Rattle.image_check.specs.declared.any.Parts.TheVariants.{Romfs, Cramfs}
use Rattle.image_check.specs.Parts.{AreParts, tree_of_parts}
use Rattle.image_info.specs.Data.{data_places}

module _ (m : Image) (parts : Parts) (n : ℕ) (a : AreParts m.bytes parts)
    (t : m.tree ≡ tree_of_parts m.bytes parts) where
  module _ (p : RomfsParts) (e : parts ≡ Romfs p) where
    romfs_are : AreRomfsParts m.bytes p
    romfs_are = subst (AreParts m.bytes) e a

    pub romfs_known : HasNode m n → IsRomfsKnown (take p.accessible m.bytes) p.root p.references n
    romfs_known h =
        let P : Node → Type 0 = λ v. IsSome (node_at v n) in
        romfs_knows romfs_are.sound n (subst P (t ∙ ap (tree_of_parts m.bytes) e) h)

    pub romfs_located : (x : Node) (start size : ℕ) → image_node m n ≡ Some x
        → start ≡ end_of (take p.accessible m.bytes) n → size ≡ length (places_of x)
        → places_of x ≡ data_places m.bytes parts (record { start = start; size = size })
    romfs_located x start size i s z =
        let b : List ℕ = take p.accessible m.bytes in
        let P : Node → Type 0 = λ v. node_at v n ≡ Some x in
        let q = romfs_named romfs_are.sound n x (subst P (t ∙ ap (tree_of_parts m.bytes) e) i) in
        let d : places_of x ≡ row_from (end_of b n) (romfs_size b n) =
        ap places_of q.0 ∙ romfs_places b p.root p.references n in
        let l : size ≡ romfs_size b n = z ∙ (ap length d ∙ length_row (end_of b n) (romfs_size b n)) in
        let w : row_from (end_of b n) (romfs_size b n) ≡ row_from start size =
        ap (λ (v : ℕ). row_from v (romfs_size b n)) (sym s) ∙ ap (row_from start) (sym l) in
        d ∙ (w ∙ ap (λ (v : Parts). data_places m.bytes v (record { start = start; size = size })) (sym e))

  module _ (p : CramfsParts) (e : parts ≡ Cramfs p) where
    cramfs_are : AreCramfsParts m.bytes p
    cramfs_are = subst (AreParts m.bytes) e a

    pub cramfs_known : HasNode m n → IsCramfsKnown p.order (take p.accessible m.bytes) p.references n
    cramfs_known h =
        let P : Node → Type 0 = λ v. IsSome (node_at v n) in
        cramfs_knows cramfs_are.sound n (subst P (t ∙ ap (tree_of_parts m.bytes) e) h)

    data_if : (o : Order) (b : List ℕ) (v : Bool) (start size : ℕ)
        → (if v then blocks_from o b (block_count size) start size else [])
        ≡ blocks_from o b (block_count (if v then size else 0)) start (if v then size else 0)
    data_if o b true start size = refl
    data_if o b false start size = refl

    pub cramfs_located : (x : Node) (start size : ℕ) → image_node m n ≡ Some x
        → start ≡ offset_of p.order (take p.accessible m.bytes) n → size ≡ length (places_of x)
        → places_of x ≡ data_places m.bytes parts (record { start = start; size = size })
    unfolding places_at
    cramfs_located x start size i s z =
        let o : Order = p.order in
        let b : List ℕ = take p.accessible m.bytes in
        let P : Node → Type 0 = λ v. node_at v n ≡ Some x in
        let q = cramfs_named cramfs_are.sound n x (subst P (t ∙ ap (tree_of_parts m.bytes) e) i) in
        let d : places_of x
        ≡ blocks_from o b (block_count (file_size o b n)) (offset_of o b n) (file_size o b n) =
        ap places_of q.0 ∙ (cramfs_places o b p.references n
        ∙ data_if o b (has_data (type_of o b n)) (offset_of o b n) (size_of o b n)) in
        let l : size ≡ file_size o b n =
        z ∙ (ap (λ (v : Node). length (places_of v)) q.0 ∙ made_length o b p.references n) in
        let w : blocks_from o b (block_count (file_size o b n)) (offset_of o b n) (file_size o b n)
        ≡ blocks_from o b (block_count size) start size =
        ap (λ (v : ℕ). blocks_from o b (block_count (file_size o b n)) v (file_size o b n)) (sym s)
        ∙ ap (λ (v : ℕ). blocks_from o b (block_count v) start v) (sym l) in
        d ∙ (w ∙ ap (λ (v : Parts). data_places m.bytes v (record { start = start; size = size })) (sym e))
