-- Segments by their index.
use Rattle.std.proofs.Common.{◌≡◌, ℕ, zero, suc, ◌<◌, List, [], ◌∷◌, map, length, get_or, None, refl, sym, ap, ◌∙◌}
use Rattle.std.proofs.Common.{arith}
use Rattle.std.proofs.lemmas.List.{length-map}
use Rattle.cramfs_format.specs.declared.order.Order.{Order}
use Rattle.image_stream.specs.Segments.{len, outline, segment_at}
use Rattle.manifest_tree.specs.Items.{Item, Section}
use Rattle.manifest_layout.specs.declared.section.Body as code_body
use Rattle.manifest_layout.specs.declared.section.Body.TheVariants.{Super, Record, Table, Text, Content}
use Rattle.manifest_layout.specs.Views.{body_view}
use Rattle.cramfs_write.specs.Form.{segment_by, segment_of}
use Rattle.cramfs_write.specs.Known.{IsBody}
use Rattle.cramfs_write.proofs.Laid.{len_by}

segment_seen : (o : Order) (is : List Item) (ss : List Section) (i : ℕ) (d : Section) → i < length ss
    → segment_at (map (segment_of o is) ss) i ≡ segment_of o is (get_or ss i d)
segment_seen o is [] i d h = absurd (omega arith)
segment_seen o is (s ∷ ss) zero d h = refl
segment_seen o is (s ∷ ss) (suc i) d h = segment_seen o is ss i d (omega arith)

-- the segment of a section that was found
pub segment_found : (o : Order) (is : List Item) (ss : List Section) (i : ℕ) (d s : Section)
    → i < length (map (segment_of o is) ss) → s ≡ get_or ss i d
    → segment_at (map (segment_of o is) ss) i ≡ segment_of o is s
segment_found o is ss i d s l e =
    let n = length-map ss (segment_of o is) in
    segment_seen o is ss i d (omega (arith, n, l)) ∙ ap (segment_of o is) (sym e)

pub segment_is_long : (o : Order) (is : List Item) (sizes : List ℕ) (ss : List Section) (i : ℕ) (d s : Section)
    → i < length (map (segment_of o is) ss) → s ≡ get_or ss i d → IsBody is sizes s.len s.body
    → len (segment_at (map (segment_of o is) ss) i) ≡ s.len
segment_is_long o is sizes ss i d s l e b =
    ap len (segment_found o is ss i d s l e) ∙ len_by o is sizes s.place s.len s.body b

-- the outline of a section that is no file's contents
pub outline_by : (o : Order) (is : List Item) (sizes : List ℕ) (at n : ℕ) (b : code_body.Body)
    → IsBody is sizes n (body_view b)
    → ((file : ℕ) → b ≡ Content file → ⊥)
    → record { place = at; len = n; source = None } ≡ outline (segment_by o is at n (body_view b))
outline_by o is sizes at n Super h g = absurd h
outline_by o is sizes at n (Record k) h g =
    ap (λ (m : ℕ). record { place = at; len = m; source = None })
    (sym (len_by o is sizes at n (body_view (Record k)) h))
outline_by o is sizes at n (Table k) h g =
    ap (λ (m : ℕ). record { place = at; len = m; source = None }) (sym (len_by o is sizes at n (body_view (Table k)) h))
outline_by o is sizes at n (Text k) h g =
    ap (λ (m : ℕ). record { place = at; len = m; source = None }) (sym (len_by o is sizes at n (body_view (Text k)) h))
outline_by o is sizes at n (Content k) h g = absurd (g k refl)
