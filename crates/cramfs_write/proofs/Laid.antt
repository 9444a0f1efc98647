-- The form of a plan is laid out, and its image is composed of the plan's sections.
use Rattle.std.proofs.Common.{◌≡◌, ℕ, zero, suc, ◌+◌, ◌-◌, ◌<◌, ◌≤◌, List, [], ◌∷◌, ◌++◌, map, length, drop, replicate}
use Rattle.std.proofs.Common.{refl, sym, ap, ◌∙◌, arith, length-append}
use Rattle.std.proofs.lemmas.List.{length-replicate, take_all}
use Rattle.std.specs.List.{AllByRecursion as Every}
use Rattle.cramfs_format.specs.declared.order.Order.{Order}
use Rattle.cramfs_format.specs.declared.order.Order.TheVariants.{Little, Big}
use Rattle.crc.specs.Crc.{crc_of}
use Rattle.rom_fields.specs.Parts.{Part, part}
use Rattle.image_stream.specs.Sources.{content_of}
use Rattle.image_stream.specs.Segments.{place, len, segment_at, segment_part, SegmentsRise, HasSource, IsLaidOut}
use Rattle.image_stream.specs.Outcomes.{AreSized}
use Rattle.manifest_tree.specs.Names.{Fill, bytes_of}
use Rattle.manifest_tree.specs.Items.{Item, Section, Body, super, record_of, table_of, text_of, contents_of}
use Rattle.manifest_tree.specs.Items.{SectionsRise}
use Rattle.manifest_tree.specs.Bodies.{item_at}
use Rattle.manifest_layout.specs.Plans.{Planned}
use Rattle.cramfs_layout.specs.Layout.{with_crc}
use Rattle.cramfs_layout.specs.Composed.{cramfs_part}
use Rattle.cramfs_layout.proofs.Held.{length-written}
use Rattle.cramfs_layout.proofs.Super.{length-pointers}
use Rattle.cramfs_format.specs.Inode.{block_count}
use Rattle.cramfs_write.specs.Form.{words_bytes, superblock_storing, segment_by, segment_of, form_of}
use Rattle.cramfs_write.specs.Known.{IsBody, IsCramfsPlan}

place_by : (o : Order) (is : List Item) (at n : ℕ) (b : Body) → place (segment_by o is at n b) ≡ at
place_by o is at n super = refl
place_by o is at n (record_of k) = refl
place_by o is at n (table_of k) = refl
place_by o is at n (text_of k) = refl
place_by o is at n (contents_of k) = refl

pub len_by : (o : Order) (is : List Item) (sizes : List ℕ) (at n : ℕ) (b : Body) → IsBody is sizes n b
    → len (segment_by o is at n b) ≡ n
len_by o is sizes at n super h = absurd h
len_by o is sizes at n (record_of k) h = length-written o (item_at is k) ∙ h.2
len_by o is sizes at n (table_of k) h = length-pointers o (item_at is k).start (block_count (item_at is k).len) ∙ h.1
len_by o is sizes at n (text_of k) h = ap (λ (f : Fill). length (bytes_of [] f)) h.2 ∙ h.3
len_by o is sizes at n (contents_of k) h = refl

source_by : (o : Order) (is : List Item) (sizes : List ℕ) (at n : ℕ) (b : Body) → IsBody is sizes n b
    → HasSource sizes (segment_by o is at n b)
source_by o is sizes at n super h = tt
source_by o is sizes at n (record_of k) h = tt
source_by o is sizes at n (table_of k) h = tt
source_by o is sizes at n (text_of k) h = tt
source_by o is sizes at n (contents_of k) h = (h.0, sym h.1)

module _ (o : Order) (is : List Item) (sizes : List ℕ) where
  rise : (from end : ℕ) (ss : List Section) → SectionsRise from end ss → Every (λ s. IsBody is sizes s.len s.body) ss
      → SegmentsRise from (map (segment_of o is) ss) end
  rise from end [] r b = r
  rise from end (s ∷ ss) r b =
      let p = place_by o is s.place s.len s.body in
      let n = len_by o is sizes s.place s.len s.body b.0 in
      let low = r.0 in
      (omega (arith, p), rw (p, n) (rise (s.place + s.len) end ss r.2 b.1))

  sources : (ss : List Section) → Every (λ s. IsBody is sizes s.len s.body) ss → (i : ℕ)
      → i < length (map (segment_of o is) ss) → HasSource sizes (segment_at (map (segment_of o is) ss) i)
  sources [] b i l = absurd (omega (arith, l))
  sources (s ∷ ss) b zero l = source_by o is sizes s.place s.len s.body b.0
  sources (s ∷ ss) b (suc i) l = sources ss b.1 i (omega (arith, l))

  -- the parts of the segments are those of the sections
  part_by : (cs : List (List ℕ)) (block : List ℕ) (s : Section) (b : Body) → s.body ≡ b → AreSized sizes cs
      → IsBody is sizes s.len b
      → segment_part cs (segment_of o is s) ≡ cramfs_part o block cs is s
  part_by cs block s super e z h = absurd h
  part_by cs block s (record_of k) e z h = rw e refl
  part_by cs block s (table_of k) e z h = rw e refl
  part_by cs block s (text_of k) e z h =
      rw e (ap (λ (f : Fill). part s.place (bytes_of [] f)) h.2
      ∙ ap (λ (f : Fill). part s.place (bytes_of cs f)) (sym h.2))
  part_by cs block s (contents_of k) e z h =
      let n : length (content_of cs k) ≡ s.len = z k h.0 ∙ h.1 in
      rw e (ap (part s.place) (take_all s.len (content_of cs k) (omega (arith, n))))

  pub parts_by : (cs : List (List ℕ)) (block : List ℕ) (ss : List Section) → AreSized sizes cs
      → Every (λ s. IsBody is sizes s.len s.body) ss
      → map (segment_part cs) (map (segment_of o is) ss) ≡ map (cramfs_part o block cs is) ss
  parts_by cs block [] z h = refl
  parts_by cs block (s ∷ ss) z h =
      let e = part_by cs block s s.body refl z h.0 in
      ap (λ (p : Part). p ∷ map (segment_part cs) (map (segment_of o is) ss)) e
      ∙ ap (λ (ps : List Part). cramfs_part o block cs is s ∷ ps) (parts_by cs block ss z h.1)

pub laid_out : (o : Order) (p : Planned) → IsCramfsPlan p → IsLaidOut (form_of o p)
laid_out o p h =
    let room = h.room in
    record {
      rises = rise o p.items p.sizes 76 p.image_len (drop 1 p.sections) h.rises h.bodies;
      files = sources o p.items p.sizes (drop 1 p.sections) h.bodies;
      small = omega arith;
      short = omega arith;
      sized = h.sized;
    }

-- the superblock with any word as its crc
pub length_super : (o : Order) (crc size files : ℕ) (volume : List ℕ) (first second third : ℕ) → length volume ≤ 16
    → length (superblock_storing o crc size files volume first second third) ≡ 76
length_super Little crc size files volume a b c l =
    let zeros = replicate {A = ℕ} (16 - length volume) 0 in
    omega (
      arith,
      length-append volume (zeros ++ words_bytes Little a b c),
      length-append zeros (words_bytes Little a b c),
      length-replicate {A = ℕ} (16 - length volume) 0,
    )
length_super Big crc size files volume a b c l =
    let zeros = replicate {A = ℕ} (16 - length volume) 0 in
    omega (
      arith,
      length-append volume (zeros ++ words_bytes Big a b c),
      length-append zeros (words_bytes Big a b c),
      length-replicate {A = ℕ} (16 - length volume) 0,
    )

pub crc_stored : (o : Order) (crc size files : ℕ) (volume : List ℕ) (a b c : ℕ) (rest : List ℕ)
    → crc_of (superblock_storing o 0 size files volume a b c ++ rest) ≡ crc
    → superblock_storing o crc size files volume a b c ++ rest
    ≡ with_crc o (superblock_storing o 0 size files volume a b c ++ rest)
unfolding with_crc
crc_stored Little crc size files volume a b c rest e = rw e refl
crc_stored Big crc size files volume a b c rest e = rw e refl
