-- The bytes that may be behind those that a checksum covers.
use Rattle.std.proofs.Common.{◌≡◌, ℕ, ◌-◌, ◌≤◌, List, ◌++◌, length, take, drop, Option, Some, None, sym, refl, ◌∙◌}
use Rattle.std.proofs.Common.{arith, subst, append_assoc, length-append, length-take, length-drop}
use Rattle.std.proofs.lemmas.List.{length-replicate}
use Rattle.image_stream.specs.Sources.{content_of, IfKnown}
use Rattle.std.specs.Io.KnownBytes.{Appends}
use Rattle.rom_fields.proofs.Joins.{appends_join}
use Rattle.image_stream.specs.Answers.{Answer, IsBodyRead}
use Rattle.image_stream.specs.Segments.{Segment, fixed, content, len, IsBody, HasSource, zeros}
use Rattle.image_stream.specs.Outcomes.{AreSized}
use Rattle.image_stream.specs.Steps.{IsFront, IsFrontRead, Sent}
use Rattle.image_stream.proofs.Fronts.{rest_of, rest_within}

length_within : (c xs : List ℕ) (k n : ℕ) → k ≤ n → length c ≡ n → length xs ≡ k
    → length (xs ++ take (n - k) (drop k c)) ≡ n
length_within c xs k n small e f =
    let a = length-append xs (take (n - k) (drop k c)) in
    let t = length-take (n - k) (drop k c) in
    let d = length-drop k c in
    omega arith

-- bytes behind a front of a segment that make it whole
pub some_rest : (known : Option (List (List ℕ))) (sizes : List ℕ) (p : Segment) (xs : List ℕ) (k : ℕ)
    → HasSource sizes p
    → IfKnown known (AreSized sizes) → k ≤ len p → IsFront known p k xs → (rest : List ℕ) × IsBody known p (xs ++ rest)
some_rest known sizes (fixed at bs) xs k h s small f = (drop k bs, sym (rest_of bs xs k f))
some_rest None sizes (content at n file) xs k h s small f =
    let l = length-append xs (zeros (n - k)) in
    let z : length (zeros (n - k)) ≡ n - k = length-replicate (n - k) 0 in
    let q = f.0 in
    (zeros (n - k), (omega arith, λ cs is. absurd (cc)))
some_rest (Some cs) sizes (content at n file) xs k h s small f =
    let c = content_of cs file in (
      take (n - k) (drop k c),
      (
        length_within c xs k n small (s cs refl file h.0 ∙ sym h.1) f.0,
        λ ds is.
            let same : ds ≡ cs = cc in
            rw same (sym (rest_within c xs k n small (f.1 cs refl))),
      ),
    )

-- a segment of which no further byte counts
pub sent_full : (All : Type 0) (known : Option (List (List ℕ))) (sizes : List ℕ) (p : Segment) (k : ℕ)
    (a b : Option (List ℕ)) (Was Is : List ℕ → Type 0) (was is : List Answer → Type 0) → HasSource sizes p
    → IfKnown known (AreSized sizes) → k ≤ len p → (All → ⊥) → ((ys : List ℕ) → Appends b b ys)
    → ((xs ys : List ℕ) → Is xs → Is (xs ++ ys))
    → Sent All (IsFront known p k) (IsFrontRead p k) was is a b Was Is
    → Sent All (IsBody known p) (λ answers. IsBodyRead answers p) was is a b Was Is
sent_full All known sizes p k a b Was Is was is h s small some unwritten full g =
    let r = some_rest known sizes p g.bytes k h s small g.are.0 in
    let read = g.are.1 in
    record {
      bytes = g.bytes ++ r.0;
      are = (r.1, record { answers = read.answers; are = λ all. absurd (some all); logged = read.logged });
      written = appends_join a b b g.bytes r.0 g.written (unwritten r.0);
      added = λ xs v. let R : List ℕ → Type 0 =
          λ z. Is z in let t : Is ((xs ++ g.bytes) ++ r.0) =
          full (xs ++ g.bytes) r.0 (g.added xs v) in subst R (append_assoc xs g.bytes r.0) t;
    }
