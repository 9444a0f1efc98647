-- Sections and items by their index.
use Rattle.std.proofs.Common.{◌≡◌, ℕ, zero, suc, ◌<◌, List, [], ◌∷◌, map, length, get_or, refl, sym, ◌∙◌, arith}
use Rattle.manifest_tree.specs.Items.{Item, Section, record_of}
use Rattle.manifest_tree.specs.Bodies.{item_at}
use Rattle.manifest_layout.specs.declared.item.Item as code_item
use Rattle.manifest_layout.specs.Views.{item_view}
use Rattle.image_stream.specs.Segments.{segment_at}
use Rattle.romfs_layout.specs.Layout.{record_len}
use Rattle.romfs_layout.proofs.ReadBack.{length-header}
use Rattle.romfs_write.specs.Form.{segment_of}
use Rattle.romfs_write.specs.Known.{IsBody}

pub item_seen : (xs : List code_item.Item) (k : ℕ) (d : code_item.Item) → k < length xs
    → item_at (map item_view xs) k ≡ item_view (get_or xs k d)
item_seen [] k d h = absurd (omega arith)
item_seen (x ∷ xs) zero d h = refl
item_seen (x ∷ xs) (suc k) d h = item_seen xs k d (omega arith)

pub segment_seen : (is : List Item) (ss : List Section) (i : ℕ) (d : Section) → i < length ss
    → segment_at (map (segment_of is) ss) i ≡ segment_of is (get_or ss i d)
segment_seen is [] i d h = absurd (omega arith)
segment_seen is (s ∷ ss) zero d h = refl
segment_seen is (s ∷ ss) (suc i) d h = segment_seen is ss i d (omega arith)

pub record_is_long : (is : List Item) (sizes : List ℕ) (len k : ℕ) → IsBody is sizes len (record_of k)
    → record_len (item_at is k).name ≡ len
record_is_long is sizes len k h =
    let i = item_at is k in
    sym (length-header i.first i.second i.third i.name) ∙ h.2
