-- The form of a plan is laid out.
use Rattle.std.proofs.Common.{◌≡◌, ℕ, zero, suc, ◌+◌, ◌<◌, ◌≤◌, List, [], ◌∷◌, map, length, drop, refl, sym, ap, ◌∙◌}
use Rattle.std.proofs.Common.{arith}
use Rattle.std.specs.List.{AllByRecursion as Every}
use Rattle.rom_fields.proofs.Padding.{pad-after}
use Rattle.image_stream.specs.Segments.{place, len, segment_at, SegmentsRise, HasSource, IsLaidOut}
use Rattle.manifest_tree.specs.Names.{Fill, bytes_of}
use Rattle.manifest_tree.specs.Items.{Item, Section, Body, super, record_of, table_of, text_of, contents_of}
use Rattle.manifest_tree.specs.Items.{SectionsRise}
use Rattle.manifest_layout.specs.Plans.{Planned}
use Rattle.romfs_layout.specs.Layout.{root_at}
use Rattle.romfs_write.specs.Form.{full_size, segment_by, segment_of, form_of}
use Rattle.romfs_write.specs.Known.{IsBody, IsRomfsPlan}

place_by : (is : List Item) (at n : ℕ) (b : Body) → place (segment_by is at n b) ≡ at
place_by is at n super = refl
place_by is at n (record_of k) = refl
place_by is at n (table_of k) = refl
place_by is at n (text_of k) = refl
place_by is at n (contents_of k) = refl

pub len_by : (is : List Item) (sizes : List ℕ) (at n : ℕ) (b : Body) → IsBody is sizes n b
    → len (segment_by is at n b) ≡ n
len_by is sizes at n super h = absurd h
len_by is sizes at n (record_of k) h = h.2
len_by is sizes at n (table_of k) h = absurd h
len_by is sizes at n (text_of k) h = ap (λ (f : Fill). length (bytes_of [] f)) h.2 ∙ h.3
len_by is sizes at n (contents_of k) h = refl

source_by : (is : List Item) (sizes : List ℕ) (at n : ℕ) (b : Body) → IsBody is sizes n b
    → HasSource sizes (segment_by is at n b)
source_by is sizes at n super h = tt
source_by is sizes at n (record_of k) h = tt
source_by is sizes at n (table_of k) h = tt
source_by is sizes at n (text_of k) h = tt
source_by is sizes at n (contents_of k) h = (h.0, sym h.1)

module _ (is : List Item) (sizes : List ℕ) where
  rise : (from end : ℕ) (ss : List Section) → SectionsRise from end ss → Every (λ s. IsBody is sizes s.len s.body) ss
      → SegmentsRise from (map (segment_of is) ss) end
  rise from end [] r b = r
  rise from end (s ∷ ss) r b =
      let p = place_by is s.place s.len s.body in
      let n = len_by is sizes s.place s.len s.body b.0 in
      let low = r.0 in
      (omega (arith, p), rw (p, n) (rise (s.place + s.len) end ss r.2 b.1))

  sources : (ss : List Section) → Every (λ s. IsBody is sizes s.len s.body) ss → (i : ℕ)
      → i < length (map (segment_of is) ss) → HasSource sizes (segment_at (map (segment_of is) ss) i)
  sources [] b i l = absurd (omega (arith, l))
  sources (s ∷ ss) b zero l = source_by is sizes s.place s.len s.body b.0
  sources (s ∷ ss) b (suc i) l = sources ss b.1 i (omega (arith, l))

  rise_up : (from end up : ℕ) (ss : List Section) → end ≤ up → SectionsRise from end ss → SectionsRise from up ss
  rise_up from end up [] l r = omega (arith, r)
  rise_up from end up (s ∷ ss) l r = (r.0, r.1, rise_up (s.place + s.len) end up ss l r.2)

pub laid_out : (p : Planned) → IsRomfsPlan p → IsLaidOut (form_of p)
laid_out p h =
    let end = h.end in
    let full = h.full in
    let short = h.short in
    let after = pad-after (full_size p.items) 1024 (omega arith) in
    let wide : full_size p.items ≤ p.image_len = omega arith in
    record {
      rises = rise p.items p.sizes (root_at p.volume) p.image_len (drop 1 p.sections)
          (rise_up p.items p.sizes (root_at p.volume) (full_size p.items) p.image_len
          (drop 1 p.sections) wide h.rises) h.bodies;
      files = sources p.items p.sizes (drop 1 p.sections) h.bodies;
      small = omega arith;
      short = omega arith;
      sized = h.sized;
    }
