-- A segment that goes out piece by piece.
use Rattle.std.proofs.Common.{◌≡◌, ℕ, ◌+◌, ◌-◌, ◌≤◌, ◌<◌, List, [], ◌++◌, length, take, drop, get_or, Option, Some}
use Rattle.std.proofs.Common.{None, ap, sym, refl, ◌∙◌, arith, append-nil, append_assoc, subst, length-append}
use Rattle.std.proofs.Math.Seq.{take-add}
use Rattle.std.proofs.lemmas.List.{take_all, take-append-drop}
use Rattle.std.specs.Io.KnownBytes.{Appends}
use Rattle.rom_fields.specs.Written.{AppendsPrefix}
use Rattle.rom_fields.proofs.Joins.{appends_none, appends_join, front_after, front_first, front_all}
use Rattle.image_stream.specs.declared.outline.Outline.{Outline}
use Rattle.image_stream.specs.declared.error.StreamError.{StreamError}
use Rattle.image_stream.specs.declared.error.StreamError.TheVariants.{SizeDiffers, SourceFault, WriteFault, Changed}
use Rattle.image_stream.specs.Sources.{content_of, IfKnown, Reads}
use Rattle.image_stream.specs.Segments.{Segment, fixed, content, place, len, outline, bytes_of, IsBody, HasSource}
use Rattle.image_stream.specs.Steps.{IsFront, IsPiece, IsReadFault, IsFault, Gone}

-- nothing is a front of each part
pub front_none : (known : Option (List (List ℕ))) (p : Segment) → IsFront known p 0 []
front_none known (fixed p bs) = refl
front_none known (content p n f) = (refl, λ cs is. refl)

joined : (c xs ys : List ℕ) (k : ℕ) → xs ≡ take k c → ys ≡ take (length ys) (drop k c)
    → xs ++ ys ≡ take (k + length ys) c
joined c xs ys k e f =
    ap (λ (v : List ℕ). v ++ ys) e ∙ ap (λ (v : List ℕ). take k c ++ v) f ∙ sym (take-add k (length ys) c)

-- a front and the piece after it
pub front_more : (known : Option (List (List ℕ))) (p : Segment) (xs ys : List ℕ) (k : ℕ) → IsFront known p k xs
    → IsPiece known p k ys → IsFront known p (k + length ys) (xs ++ ys)
front_more known (fixed p bs) xs ys k h q = joined bs xs ys k h q
front_more known (content p n f) xs ys k h q = (
  length-append xs ys ∙ ap (λ (v : ℕ). v + length ys) h.0,
  λ cs is. joined (content_of cs f) xs ys k (h.1 cs is) (q cs is),
)

-- the whole of it
pub front_whole : (known : Option (List (List ℕ))) (p : Segment) (xs : List ℕ) (k : ℕ) → k ≡ len p
    → IsFront known p k xs
    → IsBody known p xs
front_whole known (fixed p bs) xs k e h = h ∙ ap (λ (v : ℕ). take v bs) e ∙ take_all (length bs) bs (omega arith)
front_whole known (content p n f) xs k e h = (h.0 ∙ e, λ cs is. h.1 cs is ∙ ap (λ (v : ℕ). take v (content_of cs f)) e)

pub rest_of : (c xs : List ℕ) (k : ℕ) → xs ≡ take k c → c ≡ xs ++ drop k c
rest_of c xs k e = sym (take-append-drop k c) ∙ ap (λ (v : List ℕ). v ++ drop k c) (sym e)

pub rest_within : (c xs : List ℕ) (k n : ℕ) → k ≤ n → xs ≡ take k c → take n c ≡ xs ++ take (n - k) (drop k c)
rest_within c xs k n h e =
    let s : k + (n - k) ≡ n = omega arith in
    ap (λ (v : ℕ). take v c) (sym s) ∙ take-add k (n - k) c ∙ ap (λ (v : List ℕ). v ++ take (n - k) (drop k c)) (sym e)

-- if the bytes are known, the rest of the part
pub front_rest : (known : Option (List (List ℕ))) (p : Segment) (xs : List ℕ) (k : ℕ) (cs : List (List ℕ))
    → known ≡ Some cs → k ≤ len p → IsFront known p k xs → (rest : List ℕ) × (bytes_of cs p ≡ xs ++ rest)
front_rest known (fixed p bs) xs k cs is small h = (drop k bs, rest_of bs xs k h)
front_rest known (content p n f) xs k cs is small h =
    (take (n - k) (drop k (content_of cs f)), rest_within (content_of cs f) xs k n small (h.1 cs is))

-- what was written is a front of the part: all of xs, or xs and a front of ys
pub front_written : (known : Option (List (List ℕ))) (p : Segment) (xs : List ℕ) (k : ℕ) (cs : List (List ℕ))
    (a b : Option (List ℕ)) → known ≡ Some cs → k ≤ len p → IsFront known p k xs → Appends a b xs
    → AppendsPrefix a b (bytes_of cs p)
front_written known p xs k cs a b is small h w =
    let r = front_rest known p xs k cs is small h in
    let q : AppendsPrefix a b (xs ++ r.0) = front_first a b xs r.0 (front_all a b xs w) in
    (q.0, q.1, q.2, r.1 ∙ q.3)

pub front_broken : (known : Option (List (List ℕ))) (p : Segment) (xs ys : List ℕ) (k : ℕ) (cs : List (List ℕ))
    (a b c : Option (List ℕ)) → known ≡ Some cs → k + length ys ≤ len p → IsFront known p k xs → IsPiece known p k ys
    → Appends a b xs → AppendsPrefix b c ys → AppendsPrefix a c (bytes_of cs p)
front_broken known p xs ys k cs a b c is small h q w v =
    let r = front_rest known p (xs ++ ys) (k + length ys) cs is small (front_more known p xs ys k h q) in
    let t : AppendsPrefix a c ((xs ++ ys) ++ r.0) = front_first a c (xs ++ ys) r.0 (front_after a b c xs ys w v) in
    (t.0, t.1, t.2, r.1 ∙ t.3)

-- the source of a part that is a content
pub source_fits : (sizes : List ℕ) (p : Segment) (s : Outline) (file : ℕ) → s ≡ outline p → s.source ≡ Some file
    → HasSource sizes p → (file < length sizes) × (len p ≡ get_or sizes file 0)
source_fits sizes (fixed p bs) s file e g h = absurd (cc)
source_fits sizes (content p n f) s file e g h =
    let same : f ≡ file = cc in
    (rw (← same) h.0, rw (← same) h.1)

pub piece_read : (known : Option (List (List ℕ))) (p : Segment) (s : Outline) (file k : ℕ) (xs : List ℕ) → s ≡ outline p
    → s.source ≡ Some file
    → IfKnown known (λ cs. xs ≡ take (length xs) (drop k (content_of cs file))) → IsPiece known p k xs
piece_read known (fixed p bs) s file k xs e g h = absurd (cc)
piece_read known (content p n f) s file k xs e g h =
    let same : f ≡ file = cc in
    λ cs is. h cs is ∙ ap (λ (v : ℕ). take (length xs) (drop k (content_of cs v))) (sym same)

pub piece_filled : (known : Option (List (List ℕ))) (p : Segment) (s : Outline) (k : ℕ) (xs : List ℕ) → s ≡ outline p
    → s.source ≡ None
    → ((q : ℕ) (bs : List ℕ) → p ≡ fixed q bs → xs ≡ take (length xs) (drop k bs)) → IsPiece known p k xs
piece_filled known (fixed p bs) s k xs e g h = h p bs refl
piece_filled known (content p n f) s k xs e g h = absurd (cc)

-- a fault of a read is one of the stream
pub read_fault : (known : Option (List (List ℕ))) (sizes : List ℕ) (file end : ℕ) (r r' : Reads) (e : StreamError)
    → file < length sizes → end ≤ get_or sizes file 0
    → IsReadFault known file end r r' e → IsFault known sizes r r' 0 0 e
read_fault known sizes file end r r' (SizeDiffers f) within small h =
    (rw h.0 within, λ cs is. let q = h.1 cs is in rw h.0 (omega arith))
read_fault known sizes file end r r' (SourceFault f) within small h = (rw h.0 within, rw h.0 h.1)
read_fault known sizes file end r r' WriteFault within small h = absurd h
read_fault known sizes file end r r' Changed within small h = absurd h

pub outline_len : (p : Segment) (s : Outline) → s ≡ outline p → s.len ≡ len p
outline_len (fixed p bs) s e = ap (λ (v : Outline). v.len) e
outline_len (content p n f) s e = ap (λ (v : Outline). v.len) e

pub outline_place : (p : Segment) (s : Outline) → s ≡ outline p → s.place ≡ place p
outline_place (fixed p bs) s e = ap (λ (v : Outline). v.place) e
outline_place (content p n f) s e = ap (λ (v : Outline). v.place) e

-- more bytes go out after those that did
pub gone_more : (P Q : List ℕ → Type 0) (a b c : Option (List ℕ)) (Was Is Next : List ℕ → Type 0) (ys : List ℕ)
    → Gone P a b Was Is → ((xs : List ℕ) → P xs → Q (xs ++ ys)) → Appends b c ys
    → ((xs : List ℕ) → Is xs → Next (xs ++ ys)) → Gone Q a c Was Next
gone_more P Q a b c Was Is Next ys h q w k = record {
  bytes = h.bytes ++ ys;
  are = q h.bytes h.are;
  written = appends_join a b c h.bytes ys h.written w;
  added = λ xs v. let R : List ℕ → Type 0 =
      λ z. Next z in let t : Next ((xs ++ h.bytes) ++ ys) =
      k (xs ++ h.bytes) (h.added xs v) in subst R (append_assoc xs h.bytes ys) t;
}

pub gone_none : (P : List ℕ → Type 0) (a : Option (List ℕ)) (Is : List ℕ → Type 0) → P [] → Gone P a a Is Is
gone_none P a Is h = record {
  bytes = [];
  are = h;
  written = appends_none a;
  added = λ xs v. let R : List ℕ → Type 0 = λ z. Is z in subst R (sym (append-nil xs)) v;
}

pub piece_known : (known known' : Option (List (List ℕ))) (p : Segment) (k : ℕ) (ys : List ℕ) → known' ≡ known
    → IsPiece known' p k ys → IsPiece known p k ys
piece_known known known' p k ys e q = let T : Option (List (List ℕ)) → Type 0 = λ v. IsPiece v p k ys in subst T e q
