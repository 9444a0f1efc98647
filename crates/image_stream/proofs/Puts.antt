-- Sections put into a buffer.
use Rattle.std.proofs.Common.{◌≡◌, ℕ, ◌+◌, ◌-◌, ◌≤◌, List, [], ◌++◌, length, take, drop, None, refl, sym, ap, ◌∙◌}
use Rattle.std.proofs.Common.{arith, append_assoc, append-nil, length-append, length-take}
use Rattle.std.proofs.lemmas.List.{length-replicate, length-take-le, take_at, take_all, drop_all}
use Rattle.std.proofs.Math.Seq.{drop-append_seam}
use Rattle.image_stream.specs.Segments.{Segment, fixed, content, len, outline, bytes_of, zeros}
use Rattle.image_stream.specs.Segments.{image_from, HasSource}
use Rattle.image_stream.specs.Sources.{content_of}
use Rattle.image_stream.specs.Outcomes.{AreSized}
use Rattle.image_stream.specs.declared.outline.Outline.{Outline}

-- zeros and bytes behind what was put
pub written : (x y z bytes : List ℕ) (e s n : ℕ) → n ≡ length bytes → e ≤ s → s + n ≤ length x
    → y ≡ take e x ++ (zeros (s - e) ++ drop s x) → z ≡ take s y ++ (bytes ++ drop (s + n) y)
    → take (s + n) z ≡ take e x ++ (zeros (s - e) ++ bytes)
written x y z bytes e s n len h k p q =
    let gap = zeros (s - e) in
    let a = take e x ++ gap in
    let m : length a ≡ s = simp (length-append, length-replicate, length-take) (omega arith) in
    let front : take s y ≡ a =
    ap (take s) (p ∙ sym (append_assoc (take e x) gap (drop s x))) ∙ take_at a (drop s x) s m in
    let d = drop (s + n) y in
    let w : z ≡ (a ++ bytes) ++ d = q ∙ ap (λ (v : List ℕ). v ++ (bytes ++ d)) front ∙ sym (append_assoc a bytes d) in
    let t : length (a ++ bytes) ≡ s + n = omega (arith, length-append a bytes, m) in
    ap (take (s + n)) w ∙ take_at (a ++ bytes) d (s + n) t ∙ append_assoc (take e x) gap bytes

-- zeros to the end
pub put_end : (cs : List (List ℕ)) (parts : List Segment) (end at i : ℕ) (x y whole : List ℕ) → i ≡ length parts
    → length x ≡ end → take at x ++ image_from cs at (drop i parts) end ≡ whole
    → y ≡ take at x ++ (zeros (length x - at) ++ drop (length x) x) → y ≡ whole
put_end cs parts end at i x y whole e n h q =
    let none : drop i parts ≡ [] = drop_all i parts (omega arith) in
    let over : drop (length x) x ≡ [] = drop_all (length x) x (omega arith) in
    q ∙ ap (λ (v : List ℕ). take at x ++ v)
    (ap (λ (v : List ℕ). zeros (length x - at) ++ v) over ∙ append-nil (zeros (length x - at))
    ∙ ap (λ (k : ℕ). zeros (k - at)) n)
    ∙ ap (λ (v : List Segment). take at x ++ image_from cs at v end) (sym none) ∙ h

-- the superblock before the rest
pub head_first : (head x y : List ℕ) (start : ℕ) → length head ≡ start → y ≡ head ++ drop start x → take start y ≡ head
head_first head x y start n q = ap (take start) q ∙ take_at head (drop start x) start n

pub head_over : (head new x y rest : List ℕ) (start : ℕ) → length head ≡ start → x ≡ head ++ rest
    → y ≡ new ++ drop start x → y ≡ new ++ rest
head_over head new x y rest start n p q =
    q ∙ ap (λ (v : List ℕ). new ++ v) (ap (drop start) p ∙ ap (λ (k : ℕ). drop k (head ++ rest)) (sym n)
    ∙ drop-append_seam head rest)

pub window_filled : (cs : List (List ℕ)) (p : Segment) (s : Outline) (xs : List ℕ) → s ≡ outline p → s.source ≡ None
    → length xs ≡ len p → ((q : ℕ) (bs : List ℕ) → p ≡ fixed q bs → xs ≡ take (length xs) (drop 0 bs))
    → xs ≡ bytes_of cs p
window_filled cs (fixed p bs) s xs e g n h =
    h p bs refl ∙ ap (λ (k : ℕ). take k bs) n ∙ take_all (length bs) bs (omega arith)
window_filled cs (content p n f) s xs e g m h = absurd (cc)

-- a part's bytes have its length
pub length_bytes : (sizes : List ℕ) (cs : List (List ℕ)) (p : Segment) → HasSource sizes p → AreSized sizes cs
    → len p ≡ length (bytes_of cs p)
length_bytes sizes cs (fixed p bs) h q = refl
length_bytes sizes cs (content p n f) h q =
    let e = q f h.0 in let m = h.1 in sym (length-take-le n (content_of cs f) (omega arith))
