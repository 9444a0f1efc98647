-- The files of a built image are in place.
use Rattle.std.proofs.Common.{◌≡◌, ◌≢◌, ℕ, ◌+◌, ◌*◌, ◌/◌, ◌%◌, ◌^◌, ◌<◌, ◌≤◌, true, false, List, ◌∷◌, ◌++◌, length, map}
use Rattle.std.proofs.Common.{Ok, inl, inr, sym, ap, ◌∙◌, arith, mul_assoc}
use Rattle.std.proofs.lemmas.Bool.{cases_lt}
use Rattle.rom_tree.specs.Tree.{Node, IsIn, ino_of, nodes, is_regular, places_of, row_from}
use Rattle.cramfs_format.specs.declared.order.Order.{Order}
use Rattle.cramfs_format.specs.Tree.{CramfsTree}
use Rattle.formats.specs.Format.{Format}
use Rattle.manifest.specs.Grammar.{IsManifest}
use Rattle.manifest.specs.Lines.{ManifestLines}
use Rattle.manifest_layout.specs.Format.{layout_of, len_of}
use Rattle.manifest_layout.specs.Misfit.{HasNoMisfit, long}
use Rattle.manifest_layout.specs.Placement.{IsPlaced}
use Rattle.image_build.specs.Builds.{Builds}
use Rattle.cramfs_format.specs.Inode.{block_count}
use Rattle.program_pages.specs.Physmem.{Flash, is_whole}
use Rattle.program_pages.specs.declared.mapping.Mapping.{Mapping}
use Rattle.program_pages.specs.InPlace.{IsInPlace}
use Rattle.headline.specs.Files.{HoldsImage, AreInPlace, AreMappedWhole}
use Rattle.headline.proofs.Regular.{regular_at}
use Rattle.headline.proofs.Under.{in_under}
use Rattle.manifest_tree.specs.Meant.{IsMeant}

-- what the lower laws say
abbrev pub MapsAligned : Type 0
MapsAligned =
    (o : Order) (bytes rest : List ℕ) (most deepest start : ℕ) (t x : Node) (f : Flash)
    → CramfsTree o bytes most deepest t → length bytes < 2 ^ 32 → f.bytes ≡ bytes ++ rest → f.address ≢ 0
    → IsIn x (nodes t) → is_regular x ≡ true → places_of x ≡ row_from start (length (places_of x))
    → (f.address + start) % 4096 ≡ 0 → IsInPlace o f x start

abbrev pub HasLength : Type 0
HasLength =
    (f : Format) (m : ManifestLines) (contents : List (List ℕ)) → IsManifest m → HasNoMisfit f m (map length contents)
    → length (layout_of f m contents) ≡ len_of f m (map length contents)

-- a built image is small
pub small : HasLength → (f : Format) (text : List ℕ) (cs : List (List ℕ)) (bytes : List ℕ) → Builds f text cs (Ok bytes)
    → length bytes < 2 ^ 32
small law f text cs bytes x =
    let n : ℕ = len_of f x.0 (map length cs) in
    let e : length bytes ≡ n = ap length x.3.layout ∙ law f x.0 cs (text, x.1.manifest) x.2 in
    elim (cases_lt (2 ^ 28) n) [
      | inl l ↦ absurd (x.2.whole (long l))
      | inr l ↦ omega arith
    ]

-- multiples of an alignment of whole pages
on_page : (k align : ℕ) → align % 4096 ≡ 0 → (k * align) % 4096 ≡ 0
on_page k align h =
    let e : align ≡ align / 4096 * 4096 = omega arith in
    let m : k * align ≡ k * (align / 4096) * 4096 =
    ap (λ (a : ℕ). k * a) e ∙ sym (mul_assoc k (align / 4096) 4096) in
    omega arith

pub in_place : MapsAligned → (o : Order) (bytes : List ℕ) (m : ManifestLines) (t : Node) (f : Flash)
    (contents : List (List ℕ)) (sizes : List ℕ) → CramfsTree o bytes (2 ^ 20) 64 t → length bytes < 2 ^ 32
    → HoldsImage f bytes → IsPlaced t m → IsMeant bytes t contents m sizes → AreInPlace o f t m
in_place law o bytes m t f contents sizes tree little held placed meant l g n ns x has filed align names under =
    let regular = regular_at bytes t contents m sizes meant l g n ns x has filed names under in
    let r = placed l g n ns x has filed names under in
    let start : ℕ = r.0 * g.align in
    let page : start % 4096 ≡ 0 = on_page r.0 g.align align in
    let base = held.aligned in
    record {
      regular = regular;
      start = start;
      aligned = page;
      run = r.1;
      mapped = law o bytes held.rest (2 ^ 20) 64 start t x f tree little held.front held.some
          (in_under (n ∷ ns) t x under) regular r.1 (omega arith);
    }

abbrev pub MapsWhole : Type 0
MapsWhole =
    (o : Order) (bytes rest : List ℕ) (most deepest start : ℕ) (t x : Node) (f : Flash) (m : Mapping)
    → CramfsTree o bytes most deepest t → length bytes < 2 ^ 32 → f.bytes ≡ bytes ++ rest → f.address ≢ 0
    → IsIn x (nodes t) → is_regular x ≡ true → places_of x ≡ row_from start (length (places_of x))
    → m.writable ≡ false → m.first < block_count (length (places_of x))
    → m.first + m.count ≤ block_count (length (places_of x)) → is_whole o f (ino_of x) m ≡ true

pub whole : MapsWhole → (o : Order) (bytes : List ℕ) (m : ManifestLines) (t : Node) (f : Flash)
    (contents : List (List ℕ)) (sizes : List ℕ) → CramfsTree o bytes (2 ^ 20) 64 t → length bytes < 2 ^ 32
    → HoldsImage f bytes → IsPlaced t m → IsMeant bytes t contents m sizes → AreMappedWhole o f t m
whole law o bytes m t f contents sizes tree little held placed meant l g n ns x has filed names under k fixed begins
    within =
    let regular = regular_at bytes t contents m sizes meant l g n ns x has filed names under in
    let r = placed l g n ns x has filed names under in
    law o bytes held.rest (2 ^ 20) 64 (r.0 * g.align) t x f k tree little held.front held.some
    (in_under (n ∷ ns) t x under) regular r.1 fixed begins within
