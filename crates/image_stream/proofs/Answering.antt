-- What was read for the parts of an image.
use Rattle.std.proofs.Common.{◌≡◌, ℕ, ◌+◌, ◌-◌, ◌<◌, List, [], ◌∷◌, ◌++◌, length, take, drop, Option, Some, None, ap}
use Rattle.std.proofs.Common.{sym, refl, ◌∙◌, arith, append-nil, append_assoc, subst, length-append}
use Rattle.std.proofs.Common.{zero, suc, get_or, inl, inr}
use Rattle.std.proofs.lemmas.Bool.{cases_lt}
use Rattle.std.proofs.Math.Seq.{take-add}
use Rattle.std.proofs.lemmas.List.{take_all, drop_all}
use Rattle.std.specs.Io.KnownBytes.{Appends}
use Rattle.std.specs.Prelude.{Result, Ok, Err, OnOk}
use Rattle.image_stream.specs.declared.outline.Outline.{Outline}
use Rattle.image_stream.specs.Sources.{content_of}
use Rattle.image_stream.specs.Segments.{Segment, fixed, content, place, len, segment_at, outline, zeros, IsBody}
use Rattle.image_stream.specs.Segments.{IsImage}
use Rattle.image_stream.specs.Outcomes.{FrontSized}
use Rattle.image_stream.specs.Answers.{Answer, answer, Logs, Grew, AreOf, AreReads, IsBodyRead, IsImageRead}
use Rattle.image_stream.specs.Steps.{IsFront, IsFrontRead, IsPiece, IsPieceRead, IsNext, IsNextRead, IsDone, IsDoneRead}
use Rattle.image_stream.specs.Steps.{Gone, Read, Sent}
use Rattle.image_stream.proofs.Fronts.{gone_more, gone_none, front_more, piece_known}
use Rattle.image_stream.proofs.Images.{done_next, drop_part}

-- a log that grows twice
pub logs_none : (was : List Answer → Type 0) → Logs was was []
logs_none was = λ log h. subst was (sym (append-nil log)) h

pub logs_join : (was mid is : List Answer → Type 0) (one two : List Answer) → Logs was mid one → Logs mid is two
    → Logs was is (one ++ two)
logs_join was mid is one two f g = λ log h. subst is (append_assoc log one two) (g (log ++ one) (f log h))

pub grew_join : (was mid is : List Answer → Type 0) → Grew was mid → Grew mid is → Grew was is
grew_join was mid is f g = (f.0 ++ g.0, logs_join was mid is f.0 g.0 f.1 g.1)

pub grew_ok : {A E : Type 0} (r : Result A E) (P : List Answer → List ℕ → Type 0) (was is : List Answer → Type 0)
    (xs : List ℕ) → OnOk r (Read P was is xs) → OnOk r (Grew was is)
grew_ok (Ok a) P was is xs h = (h.answers, h.logged)
grew_ok (Err e) P was is xs h = tt

-- answers of contents, and more of them
pub of_join : (cs : List (List ℕ)) (one two : List Answer) → AreOf cs one → AreOf cs two → AreOf cs (one ++ two)
of_join cs [] two f g = g
of_join cs (a ∷ more) two f g = (f.0, of_join cs more two f.1 g)

take_again : (n : ℕ) (xs : List ℕ) → take n xs ≡ take (length (take n xs)) xs
take_again zero xs = refl
take_again (suc n) [] = refl
take_again (suc n) (x ∷ xs) = ap (λ (v : List ℕ). x ∷ v) (take_again n xs)

pub of_more : (cs : List (List ℕ)) (log : List Answer) (file at n : ℕ) (bytes : List ℕ) → AreOf cs log
    → bytes ≡ take n (drop at (content_of cs file)) → AreOf cs (log ++ answer file at bytes ∷ [])
of_more cs log file at n bytes h e =
    let all = drop at (content_of cs file) in
    of_join cs log (answer file at bytes ∷ []) h
    (e ∙ take_again n all ∙ ap (λ (v : List ℕ). take (length v) all) (sym e), tt)

-- the planned sizes of one file more
pub sized_more : (sizes : List ℕ) (cs : List (List ℕ)) (n : ℕ) → FrontSized sizes n cs
    → length (content_of cs n) ≡ get_or sizes n 0 → FrontSized sizes (n + 1) cs
sized_more sizes cs n h e = λ k l. elim (cases_lt k n) [
  | inl less ↦ h k less
  | inr more ↦
      let same : k ≡ n = omega arith in
      ap (λ (v : ℕ). length (content_of cs v)) same ∙ e ∙ ap (λ (v : ℕ). get_or sizes v 0) (sym same)
]

-- one read, and reads behind reads
pub reads_one : (file at : ℕ) (xs : List ℕ) → AreReads file at (answer file at xs ∷ []) xs
reads_one file at xs = (refl, refl, ([], refl, sym (append-nil xs)))

pub reads_join : (file at : ℕ) (one two : List Answer) (xs ys : List ℕ) → AreReads file at one xs
    → AreReads file (at + length xs) two ys → AreReads file at (one ++ two) (xs ++ ys)
reads_join file at [] two xs ys h q =
    let from : at + length xs ≡ at = ap (λ (v : List ℕ). at + length v) h ∙ omega arith in
    let R : ℕ → Type 0 = λ k. AreReads file k two ys in
    let S : List ℕ → Type 0 = λ v. AreReads file at two (v ++ ys) in
    subst S (sym h) (subst R from q)
reads_join file at (a ∷ more) two xs ys h q =
    let rest = h.2.0 in
    let from : at + length xs ≡ (at + length a.bytes) + length rest =
    ap (λ (v : List ℕ). at + length v) h.2.2 ∙ omega (arith, length-append a.bytes rest) in
    let R : ℕ → Type 0 = λ k. AreReads file k two ys in (
      h.0,
      h.1,
      (
        rest ++ ys,
        reads_join file (at + length a.bytes) more two rest ys h.2.1 (subst R from q),
        ap (λ (v : List ℕ). v ++ ys) h.2.2 ∙ append_assoc a.bytes rest ys,
      ),
    )

-- nothing was read for nothing
pub front_none_read : (p : Segment) → IsFrontRead p 0 [] []
front_none_read (fixed p bs) = (refl, refl)
front_none_read (content p n f) = (refl, refl)

-- a front and the piece after it
pub front_more_read : (p : Segment) (one two : List Answer) (xs ys : List ℕ) (k : ℕ) → IsFrontRead p k one xs
    → IsPieceRead p k two ys → IsFrontRead p (k + length ys) (one ++ two) (xs ++ ys)
front_more_read (fixed p bs) one two xs ys k h q = (
  ap (λ (v : List Answer). v ++ two) h.0 ∙ q.0,
  ap (λ (v : List ℕ). v ++ ys) h.1 ∙ ap (λ (v : List ℕ). take k bs ++ v) q.1 ∙ sym (take-add k (length ys) bs),
)
front_more_read (content p n f) one two xs ys k h q =
    let R : ℕ → Type 0 = λ j. AreReads f j two ys in (
      length-append xs ys ∙ ap (λ (v : ℕ). v + length ys) h.0,
      reads_join f 0 one two xs ys h.1 (subst R (sym h.0 ∙ omega arith) q),
    )

-- the whole of it
pub front_whole_read : (p : Segment) (answers : List Answer) (xs : List ℕ) (k : ℕ) → k ≡ len p
    → IsFrontRead p k answers xs → IsBodyRead answers p xs
front_whole_read (fixed p bs) answers xs k e h =
    (h.0, h.1 ∙ ap (λ (v : ℕ). take v bs) e ∙ take_all (length bs) bs (omega arith))
front_whole_read (content p n f) answers xs k e h = (h.0 ∙ e, h.1)

-- a piece that was read or filled
pub piece_by_read : (p : Segment) (s : Outline) (file k : ℕ) (answers : List Answer) (xs : List ℕ) → s ≡ outline p
    → s.source ≡ Some file
    → AreReads file k answers xs → IsPieceRead p k answers xs
piece_by_read (fixed p bs) s file k answers xs e g h = absurd (cc)
piece_by_read (content p n f) s file k answers xs e g h =
    let same : f ≡ file = cc in
    let R : ℕ → Type 0 = λ j. AreReads j k answers xs in
    subst R (sym same) h

pub piece_read_ok : {A E : Type 0} (r : Result A E) (p : Segment) (s : Outline) (file k : ℕ)
    (was is : List Answer → Type 0) (xs : List ℕ) → s ≡ outline p → s.source ≡ Some file
    → OnOk r (Read (λ answers ys. AreReads file k answers ys) was is xs)
    → OnOk r (Read (λ answers ys. IsPieceRead p k answers ys) was is xs)
piece_read_ok (Ok a) p s file k was is xs e g h =
    record { answers = h.answers; are = piece_by_read p s file k h.answers xs e g h.are; logged = h.logged }
piece_read_ok (Err x) p s file k was is xs e g h = tt

pub piece_by_fill : (p : Segment) (s : Outline) (k : ℕ) (xs : List ℕ) → s ≡ outline p → s.source ≡ None
    → ((q : ℕ) (bs : List ℕ) → p ≡ fixed q bs → xs ≡ take (length xs) (drop k bs)) → IsPieceRead p k [] xs
piece_by_fill (fixed p bs) s k xs e g h = (refl, h p bs refl)
piece_by_fill (content p n f) s k xs e g h = absurd (cc)

-- more bytes go out, for which more was read
module _ (All : Type 0) (P Q : List ℕ → Type 0) (R T : List Answer → List ℕ → Type 0) (a b c : Option (List ℕ))
    (Was Is Next : List ℕ → Type 0) (was mid is : List Answer → Type 0) where
  pub sent_more : (ys : List ℕ) (more : List Answer) → Sent All P R was mid a b Was Is
      → ((xs : List ℕ) → P xs → Q (xs ++ ys))
      → ((answers : List Answer) (xs : List ℕ) → R answers xs → All → T (answers ++ more) (xs ++ ys))
      → Logs mid is more → Appends b c ys → ((xs : List ℕ) → Is xs → Next (xs ++ ys)) → Sent All Q T was is a c Was Next
  sent_more ys more h q t l w k =
      gone_more (λ xs. P xs × Read (λ answers zs. All → R answers zs) was mid xs)
      (λ xs. Q xs × Read (λ answers zs. All → T answers zs) was is xs) a b c Was Is Next ys h
      (λ xs v. (
        q xs v.0,
        record {
          answers = v.1.answers ++ more;
          are = λ all. t v.1.answers xs (v.1.are all) all;
          logged = logs_join was mid is v.1.answers more v.1.logged l;
        },
      ))
      w k

-- nothing went out yet
pub sent_none : (All : Type 0) (P : List ℕ → Type 0) (R : List Answer → List ℕ → Type 0) (a : Option (List ℕ))
    (Is : List ℕ → Type 0) (was : List Answer → Type 0) → P [] → R [] [] → Sent All P R was was a a Is Is
sent_none All P R a Is was h r =
    gone_none (λ xs. P xs × Read (λ answers zs. All → R answers zs) was was xs) a Is
    (h, record { answers = []; are = λ _. r; logged = logs_none was })

pub sent_piece : (All : Type 0) (known known' : Option (List (List ℕ))) (p : Segment) (k n : ℕ)
    (a b c : Option (List ℕ))
    (Was Is Next : List ℕ → Type 0) (was mid is : List Answer → Type 0) (ys : List ℕ) → known' ≡ known → length ys ≡ n
    → Sent All (IsFront known p k) (IsFrontRead p k) was mid a b Was Is → IsPiece known' p k ys
    → Read (IsPieceRead p k) mid is ys → Appends b c ys → ((xs : List ℕ) → Is xs → Next (xs ++ ys))
    → Sent All (IsFront known p (k + n)) (IsFrontRead p (k + n)) was is a c Was Next
sent_piece All known known' p k n a b c Was Is Next was mid is ys e m h q r w s =
    let piece = piece_known known known' p k ys e q in
    sent_more All (IsFront known p k) (IsFront known p (k + n)) (IsFrontRead p k) (IsFrontRead p (k + n)) a b c
    Was Is Next was mid is ys r.answers h
    (λ xs v. let F : ℕ → Type 0 = λ z. IsFront known p (k + z) (xs ++ ys) in subst F m
    (front_more known p xs ys k v piece))
    (λ answers xs v _. let F : ℕ → Type 0 = λ z. IsFrontRead p (k + z) (answers ++ r.answers) (xs ++ ys) in
    subst F m (front_more_read p answers r.answers xs ys k v r.are))
    r.logged w s

-- the zeros before a segment, and it
pub sent_segment : (All : Type 0) (known : Option (List (List ℕ))) (at k : ℕ) (p : Segment) (a b c : Option (List ℕ))
    (Was Is Next : List ℕ → Type 0) (was is : List Answer → Type 0) → k ≡ place p
    → Gone (λ xs. xs ≡ zeros (k - at)) a b Was Is
    → Sent All (IsBody known p) (λ answers. IsBodyRead answers p) was is b c Is Next
    → Sent All (IsNext known at p) (IsNextRead at p) was is a c Was Next
sent_segment All known at k p a b c Was Is Next was is e z n =
    let gap : (xs : List ℕ) → xs ≡ zeros (k - at) → xs ++ n.bytes ≡ zeros (place p - at) ++ n.bytes =
    λ xs v. ap (λ (y : List ℕ). y ++ n.bytes) (v ∙ ap (λ (j : ℕ). zeros (j - at)) e) in
    gone_more (λ xs. xs ≡ zeros (k - at))
    (λ xs. IsNext known at p xs × Read (λ answers zs. All → IsNextRead at p answers zs) was is xs) a b c
    Was Is Next n.bytes z
    (λ xs v. (
      record { body = n.bytes; stands = n.are.0; all = gap xs v },
      record { answers = n.are.1.answers; are = λ all. (n.bytes, n.are.1.are all, gap xs v); logged = n.are.1.logged },
    ))
    n.written n.added

-- one segment further
pub done_none_read : (start : ℕ) (parts : List Segment) (end : ℕ) → IsDoneRead start parts end start parts [] []
done_none_read start parts end = λ later rest h. h

done_next_read : (start : ℕ) (parts : List Segment) (end at : ℕ) (p : Segment) (ps : List Segment)
    (one two : List Answer) (xs ys : List ℕ) → IsDoneRead start parts end at (p ∷ ps) one xs → IsNextRead at p two ys
    → IsDoneRead start parts end (place p + len p) ps (one ++ two) (xs ++ ys)
done_next_read start parts end at p ps one two xs ys h n = λ later rest k.
    let gap = zeros (place p - at) in
    let body = n.0 in
    let split : (xs ++ ys) ++ rest ≡ xs ++ (gap ++ (body ++ rest)) =
    append_assoc xs ys rest ∙ ap (λ (v : List ℕ). xs ++ v)
    (ap (λ (v : List ℕ). v ++ rest) n.2 ∙ append_assoc gap body rest) in
    let I : List ℕ → Type 0 = λ v. IsImageRead (one ++ (two ++ later)) start parts end v in
    let J : List Answer → Type 0 = λ v. IsImageRead v start parts end ((xs ++ ys) ++ rest) in
    subst J (sym (append_assoc one two later))
    (subst I (sym split) (h (two ++ later) (gap ++ (body ++ rest)) (two, later, body, rest, refl, n.1, k, refl)))

pub sent_next : (All : Type 0) (known known' : Option (List (List ℕ))) (start : ℕ) (parts : List Segment) (end at i : ℕ)
    (a b c : Option (List ℕ)) (Was Is Next : List ℕ → Type 0) (was mid is : List Answer → Type 0) → known' ≡ known
    → i < length parts
    → Sent All (IsDone known start parts end at (drop i parts)) (IsDoneRead start parts end at (drop i parts))
    was mid a b Was Is
    → Sent All (IsNext known' at (segment_at parts i)) (IsNextRead at (segment_at parts i)) mid is b c Is Next
    → Sent All
    (IsDone known start parts end (place (segment_at parts i) + len (segment_at parts i)) (drop (i + 1) parts))
    (IsDoneRead start parts end (place (segment_at parts i) + len (segment_at parts i)) (drop (i + 1) parts))
    was is a c Was Next
sent_next All known known' start parts end at i a b c Was Is Next was mid is e small h n =
    let p = segment_at parts i in
    let ps = drop (i + 1) parts in
    let T : Option (List (List ℕ)) → Type 0 = λ v. IsNext v at p n.bytes in
    let split = drop_part parts i small in
    sent_more All (IsDone known start parts end at (drop i parts)) (IsDone known start parts end (place p + len p) ps)
    (IsDoneRead start parts end at (drop i parts)) (IsDoneRead start parts end (place p + len p) ps) a b c
    Was Is Next was mid is n.bytes n.are.1.answers h
    (λ xs v. done_next known start parts end at p ps xs n.bytes
    (let S : List Segment → Type 0 = λ z. IsDone known start parts end at z xs in subst S split v)
    (subst T e n.are.0))
    (λ answers xs v all. done_next_read start parts end at p ps answers n.are.1.answers xs n.bytes
    (let S : List Segment → Type 0 = λ z. IsDoneRead start parts end at z answers xs in subst S split v)
    (n.are.1.are all))
    n.are.1.logged n.written n.added

-- zeros to the end
pub sent_all : (All : Type 0) (known : Option (List (List ℕ))) (start : ℕ) (parts : List Segment) (end at i : ℕ)
    (a b c : Option (List ℕ)) (Was Is Next : List ℕ → Type 0) (was is : List Answer → Type 0) → i ≡ length parts
    → Sent All (IsDone known start parts end at (drop i parts)) (IsDoneRead start parts end at (drop i parts))
    was is a b Was Is → Gone (λ xs. xs ≡ zeros (end - at)) b c Is Next
    → Sent All (IsImage known start parts end) (λ answers. IsImageRead answers start parts end) was is a c Was Next
sent_all All known start parts end at i a b c Was Is Next was is e h n =
    let none : drop i parts ≡ [] = drop_all i parts (omega arith) in
    sent_more All (IsDone known start parts end at (drop i parts)) (IsImage known start parts end)
    (IsDoneRead start parts end at (drop i parts)) (λ answers. IsImageRead answers start parts end) a b c
    Was Is Next was is is n.bytes [] h
    (λ xs v. v.more n.bytes (let S : List Segment
    → Type 0 = λ z. IsImage known at z end n.bytes in subst S (sym none) n.are))
    (λ answers xs v _. v [] n.bytes (let S : List Segment
    → Type 0 = λ z. IsImageRead [] at z end n.bytes in subst S (sym none) (refl, n.are)))
    (logs_none is) n.written n.added
