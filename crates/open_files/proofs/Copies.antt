-- Bytes copied into a buffer.
use Rattle.std.proofs.Common.{◌≡◌, ℕ, zero, suc, ◌+◌, ◌≤◌, List, [], ◌∷◌, ◌++◌, length, take, drop, refl, sym, ap, ◌∙◌}
use Rattle.std.proofs.Common.{arith, append_assoc, length-append, length-take, length-drop, Some, Ok}
use Rattle.std.proofs.lemmas.List.{length-map}
use Rattle.std.specs.Prelude.{slice_index}
use Rattle.rom_tree.specs.declared.types.Run.{Run}
use Rattle.rom_tree.specs.Tree.{Node, places_of}
use Rattle.rom_tree.specs.Image.{Image, HasNode, image_node, IsRun}
use Rattle.rom_tree.proofs.Named.{node_by}
use Rattle.rom_tree.proofs.Rows.{row_bytes, row_end}
use Rattle.std.proofs.lemmas.List.{get_or-take, get_or-drop}
use Rattle.open_files.specs.Lending.{bytes_of}
use Rattle.open_files.specs.Machine.{Outcome}

take_nil : (n : ℕ) → take {A = ℕ} n [] ≡ []
take_nil zero = refl
take_nil (suc n) = refl

pub take_add : (a b : ℕ) (xs : List ℕ) → take (a + b) xs ≡ take a xs ++ take b (drop a xs)
take_add zero b xs = let e : zero + b ≡ b = omega arith in ap (λ (v : ℕ). take v xs) e
take_add (suc a) b [] = take_nil (suc a + b) ∙ sym (take_nil b)
take_add (suc a) b (x ∷ xs) = let e : suc a + b ≡ suc (a + b) =
    omega arith in ap (λ (v : ℕ). take v (x ∷ xs)) e ∙ ap (λ (v : List ℕ). x ∷ v) (take_add a b xs)

drop_nil : (n : ℕ) → drop {A = ℕ} n [] ≡ []
drop_nil zero = refl
drop_nil (suc n) = refl

pub drop_add : (a b : ℕ) (xs : List ℕ) → drop (a + b) xs ≡ drop b (drop a xs)
drop_add zero b xs = let e : zero + b ≡ b = omega arith in ap (λ (v : ℕ). drop v xs) e
drop_add (suc a) b [] = drop_nil (suc a + b) ∙ sym (drop_nil b)
drop_add (suc a) b (x ∷ xs) =
    let e : suc a + b ≡ suc (a + b) = omega arith in ap (λ (v : ℕ). drop v (x ∷ xs)) e ∙ drop_add a b xs

take_front : (xs ys : List ℕ) (n : ℕ) → length xs ≡ n → take n (xs ++ ys) ≡ xs
take_front [] ys zero e = refl
take_front [] ys (suc n) e = absurd (omega (arith, e))
take_front (x ∷ xs) ys zero e = absurd (omega (arith, e))
take_front (x ∷ xs) ys (suc n) e = ap (λ (v : List ℕ). x ∷ v) (take_front xs ys n (omega (arith, e)))

drop_front : (xs ys : List ℕ) (n : ℕ) → length xs ≡ n → drop n (xs ++ ys) ≡ ys
drop_front [] ys zero e = refl
drop_front [] ys (suc n) e = absurd (omega (arith, e))
drop_front (x ∷ xs) ys zero e = absurd (omega (arith, e))
drop_front (x ∷ xs) ys (suc n) e = drop_front xs ys n (omega (arith, e))

map_append : (b xs ys : List ℕ) → bytes_of b (xs ++ ys) ≡ bytes_of b xs ++ bytes_of b ys
map_append b [] ys = refl
map_append b (x ∷ xs) ys = ap (λ (v : List ℕ). slice_index b x ∷ v) (map_append b xs ys)

pub take_length : (n : ℕ) (xs : List ℕ) → take (length (take n xs)) xs ≡ take n xs
take_length zero xs = refl
take_length (suc n) [] = refl
take_length (suc n) (x ∷ xs) = ap (λ (v : List ℕ). x ∷ v) (take_length n xs)

-- the buffer after one more run
pub copy_step : (b ps old first text new : List ℕ) (at done count : ℕ)
    → old ≡ bytes_of b (take done (drop at ps)) ++ drop done first → done ≤ length (drop at ps)
    → text ≡ bytes_of b (take count (drop (at + done) ps)) → length text ≡ count
    → new ≡ take done old ++ (text ++ drop (done + length text) old)
    → new ≡ bytes_of b (take (done + count) (drop at ps)) ++ drop (done + count) first
copy_step b ps old first text new at done count o l t n e =
    let B : List ℕ = bytes_of b (take done (drop at ps)) in
    let d : length B ≡ done = length-map (take done (drop at ps)) (λ (p : ℕ). slice_index b p)
    ∙ (length-take done (drop at ps) ∙ omega (arith, l)) in
    let a : take done old ≡ B = ap (take done) o ∙ take_front B (drop done first) done d in
    let f : drop (done + length text) old ≡ drop (done + count) first =
    ap (λ (v : ℕ). drop (done + v) old) n
    ∙ (drop_add done count old ∙ (ap (drop count) (ap (drop done) o ∙ drop_front B (drop done first) done d)
    ∙ sym (drop_add done count first))) in
    let w : B ++ text ≡ bytes_of b (take (done + count) (drop at ps)) =
    ap (λ (v : List ℕ). B ++ v) (t ∙ ap (λ (v : List ℕ). bytes_of b (take count v)) (drop_add at done ps))
    ∙ (sym (map_append b (take done (drop at ps)) (take count (drop done (drop at ps))))
    ∙ ap (bytes_of b) (sym (take_add done count (drop at ps)))) in
    e ∙ (ap (λ (v : List ℕ). v ++ (text ++ drop (done + length text) old)) a
    ∙ (ap (λ (v : List ℕ). B ++ (text ++ v)) f
    ∙ (sym (append_assoc B text (drop (done + count) first)) ∙ ap (λ (v : List ℕ). v ++ drop (done + count) first) w)))

-- the bytes of the front of a run
pub run_text : (m : Image) (n : ℕ) (x : Node) (off count : ℕ) (r : Run) → image_node m n ≡ Some x
    → IsRun (places_of x) off r → count ≤ r.len
    → take count (drop r.place m.bytes) ≡ bytes_of m.bytes (take count (drop off (places_of x)))
run_text m n x off count r e i c =
    let ps : List ℕ = places_of x in
    let w = i.within in
    let k : length (take count (drop off ps)) ≡ count =
    length-take count (drop off ps) ∙ omega (arith, length-drop off ps, w, c) in
    let z = row_end m n x off r e i in
    row_bytes m.bytes (take count (drop off ps)) r.place count (sym k)
    (λ j l. get_or-take count (drop off ps) j 0 l ∙ (get_or-drop off ps j 0 ∙ i.row j (omega (arith, l, c))))
    (omega (arith, z, c))

-- the front of a run ends in the image
pub run_ends : (m : Image) (n : ℕ) (off count : ℕ) (r : Run) → HasNode m n
    → ((x : Node) → image_node m n ≡ Some x → IsRun (places_of x) off r) → count ≤ r.len
    → r.place + count ≤ length m.bytes
run_ends m n off count r h known c =
    let x = node_by m n h in
    let z = row_end m n x.0 off r x.1 (known x.0 x.1) in
    omega (arith, z, c)

-- the buffer keeps its length
pub copy_length : (old text new : List ℕ) (done : ℕ) → done + length text ≤ length old
    → new ≡ take done old ++ (text ++ drop (done + length text) old) → length new ≡ length old
copy_length old text new done l e =
    ap length e ∙ (length-append (take done old) (text ++ drop (done + length text) old)
    ∙ omega (
      arith,
      l,
      length-append text (drop (done + length text) old),
      length-take done old,
      length-drop (done + length text) old,
    ))

-- what is in the buffer afterwards: the bytes, and then what was there
copied_front : (b ps first new : List ℕ) (at n count : ℕ) → count ≡ length (take n (drop at ps))
    → new ≡ bytes_of b (take n (drop at ps)) ++ drop count first → take count new ≡ bytes_of b (take n (drop at ps))
copied_front b ps first new at n count c e =
    ap (take count) e ∙ take_front (bytes_of b (take n (drop at ps))) (drop count first) count
    (length-map (take n (drop at ps)) (λ (p : ℕ). slice_index b p) ∙ sym c)

pub copied_rest : (b ps first new : List ℕ) (at n count : ℕ) → count ≡ length (take n (drop at ps))
    → new ≡ bytes_of b (take n (drop at ps)) ++ drop count first → drop count new ≡ drop count first
copied_rest b ps first new at n count c e =
    ap (drop count) e ∙ drop_front (bytes_of b (take n (drop at ps))) (drop count first) count
    (length-map (take n (drop at ps)) (λ (p : ℕ). slice_index b p) ∙ sym c)

-- read's answer for a file with these places
abbrev pub read_within : List ℕ → List ℕ → ℕ → ℕ → Outcome (List ℕ)
read_within b ps at n = Ok (bytes_of b (take n (drop at ps)), at + length (take n (drop at ps)))

pub read_gives : (b ps first new : List ℕ) (at n count : ℕ) → count ≡ length (take n (drop at ps))
    → new ≡ bytes_of b (take n (drop at ps)) ++ drop count first
    → read_within b ps at n ≡ Ok (take count new, at + count)
read_gives b ps first new at n count c e =
    let ok : List ℕ → ℕ → Outcome (List ℕ) = λ v k. Ok (v, at + k) in
    ap (λ (v : List ℕ). ok v (length (take n (drop at ps)))) (sym (copied_front b ps first new at n count c e))
    ∙ ap (ok (take count new)) (sym c)
