-- Images whose contents have a property, such as that they were read.
use Rattle.std.proofs.Common.{◌≡◌, ℕ, ◌+◌, ◌-◌, List, [], ◌∷◌, ◌++◌, length, refl, sym, ap, ◌∙◌, append_assoc}
use Rattle.image_stream.specs.Answers.{Answer, IsBodyRead, IsImageRead}
use Rattle.image_stream.specs.Segments.{Segment, fixed, content, place, len, zeros}
use Rattle.image_build.specs.Each.{IsReadIn}

-- the bytes of a segment: its own, or contents with the property
abbrev pub IsBodyOf : (ℕ → List ℕ → Type 0) → Segment → List ℕ → Type 0
IsBodyOf G (fixed at bytes) xs = xs ≡ bytes
IsBodyOf G (content at size file) xs = (length xs ≡ size) × G file xs

-- the bytes from `at` to `end`
abbrev pub IsOf : (ℕ → List ℕ → Type 0) → ℕ → List Segment → ℕ → List ℕ → Type 0
IsOf G at [] end xs = xs ≡ zeros (end - at)
IsOf G at (p ∷ ps) end xs =
    (body : List ℕ) × (rest : List ℕ) × IsBodyOf G p body × IsOf G (place p + len p) ps end rest
    × (xs ≡ zeros (place p - at) ++ (body ++ rest))

-- no bytes are read by no reads
pub none_read : (answers : List Answer) (file : ℕ) → IsReadIn answers file []
none_read answers file = record { before = []; mine = []; after = answers; among = refl; reads = refl }

body_read : (all before mine later : List Answer) → all ≡ before ++ (mine ++ later) → (p : Segment) (xs : List ℕ)
    → IsBodyRead mine p xs → IsBodyOf (IsReadIn all) p xs
body_read all before mine later e (fixed at bytes) xs h = h.1
body_read all before mine later e (content at size file) xs h =
    (h.0, record { before = before; mine = mine; after = later; among = e; reads = h.1 })

of_reads : (all before answers : List Answer) (at : ℕ) (ps : List Segment) (end : ℕ) (xs : List ℕ)
    → all ≡ before ++ answers → IsImageRead answers at ps end xs → IsOf (IsReadIn all) at ps end xs
of_reads all before answers at [] end xs e h = h.1
of_reads all before answers at (p ∷ ps) end xs e (mine, later, body, rest, split, is, more, whole) =
    let f : all ≡ before ++ (mine ++ later) = e ∙ ap (λ (v : List Answer). before ++ v) split in (
      body,
      rest,
      body_read all before mine later f p body is,
      of_reads all (before ++ mine) later (place p + len p) ps end rest (f ∙ sym (append_assoc before mine later)) more,
      whole,
    )

pub of_read : (answers : List Answer) (at : ℕ) (ps : List Segment) (end : ℕ) (xs : List ℕ)
    → IsImageRead answers at ps end xs → IsOf (IsReadIn answers) at ps end xs
of_read answers at ps end xs h = of_reads answers [] answers at ps end xs refl h
