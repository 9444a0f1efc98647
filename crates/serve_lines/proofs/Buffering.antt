-- A buffer in front of a writer: the accepted bytes are those of the writer, and then those that were not passed on
-- yet.
use Rattle.std.proofs.Common.{◌≡◌, ℕ, zero, suc, ◌+◌, ◌-◌, ◌≤◌, true, List, [], ◌∷◌, ◌++◌, length, take, drop, Option}
use Rattle.std.proofs.Common.{Some, None, Result, Ok, Err, refl, sym, ap, ◌∙◌, subst, append_assoc, append-nil}
use Rattle.std.proofs.Common.{length-append, take-append-drop, arith}
use Rattle.std.specs.Prelude.{OnOk, OnErr}
use Rattle.std.proofs.Math.Seq.{take-append_seam}
use Rattle.std.proofs.lemmas.Bool.{false≢true}
use Rattle.std.proofs.lemmas.List.{take_rest, drop-drop}
use Rattle.std.proofs.lemmas.Slice.Eq.{bytes_eq-Decides}
use Rattle.std.specs.Io.KnownBytes.{Appends, Keeps, append_known}
use Rattle.rom_fields.specs.Written.{AppendsPrefix}
use Rattle.rom_fields.proofs.Joins.{within_tail}
use Rattle.serve_lines.specs.Starts.{begins_with}

-- some more bytes were passed on
pub handed : (w v : Option (List ℕ)) (slice h : List ℕ) (s n : ℕ) → slice ≡ h
    → Appends w v (take n (take (length slice - s) (drop s slice)))
    → Appends w v (take n (drop s h))
handed w v slice h s n e a = subst (λ x. Appends w v (take n x)) (take_rest slice s ∙ ap (drop s) e) a

pub left_over : (h front : List ℕ) (s₀ s n : ℕ) → drop s₀ h ≡ front ++ drop s h
    → drop s₀ h ≡ (front ++ take n (drop s h)) ++ drop (s + n) h
left_over h front s₀ s n e =
    e ∙ ap (λ x. front ++ x) (sym (take-append-drop n (drop s h)) ∙ ap (λ x. take n (drop s h) ++ x) (drop-drop n s h))
    ∙ sym (append_assoc front (take n (drop s h)) (drop (s + n) h))

pub within_held : (slice h : List ℕ) (s n : ℕ) → slice ≡ h → s ≤ length h
    → n ≤ length (take (length slice - s) (drop s slice)) → s + n ≤ length h
within_held slice h s n e le k = within_tail h s n le (subst (λ x. n ≤ length (take (length x - s) (drop s x))) e k)

-- a text was put into the buffer
pub taken : (w v : Option (List ℕ)) (front c₀ c t : List ℕ) → Appends w v front → c₀ ≡ front ++ c
    → Appends (append_known w c₀) (append_known v (c ++ t)) t
taken None v front c₀ c t a e = tt
taken (Some xs) None front c₀ c t a e = absurd a
taken (Some xs) (Some ys) front c₀ c t a e =
    ap (λ z. z ++ (c ++ t)) a ∙ append_assoc xs front (c ++ t)
    ∙ ap (λ z. xs ++ z) (sym (append_assoc front c t) ∙ ap (λ z. z ++ t) (sym e))
    ∙ sym (append_assoc xs c₀ t)

-- nothing was accepted
pub kept : (w v : Option (List ℕ)) (front c₀ c : List ℕ) → Appends w v front → c₀ ≡ front ++ c
    → Keeps (append_known w c₀) (append_known v c)
kept None v front c₀ c a e = tt
kept (Some xs) None front c₀ c a e = absurd a
kept (Some xs) (Some ys) front c₀ c a e = ap (λ z. z ++ c) a ∙ append_assoc xs front c ∙ ap (λ z. xs ++ z) (sym e)

take_front : (xs ys : List ℕ) → take (length xs) (xs ++ ys) ≡ xs
take_front xs ys = take-append_seam xs ys

pub begins_itself : (w : Option (List ℕ)) → begins_with w w ≡ true
begins_itself None = refl
begins_itself (Some xs) =
    (bytes_eq-Decides (take (length xs) xs) xs).1 (ap (take (length xs)) (sym (append-nil xs)) ∙ take_front xs [])

first_part : (xs ys front : List ℕ) → take (length xs) ys ≡ xs → take (length xs) (ys ++ front) ≡ xs
first_part xs ys front e =
    let whole : ys ≡ xs ++ drop (length xs) ys =
    sym (take-append-drop (length xs) ys) ∙ ap (λ z. z ++ drop (length xs) ys) e in
    ap (λ z. take (length xs) (z ++ front)) whole ∙ ap (take (length xs)) (append_assoc xs (drop (length xs) ys) front)
    ∙ take_front xs (drop (length xs) ys ++ front)

pub begins_on : (start w v : Option (List ℕ)) (front : List ℕ) → begins_with start w ≡ true → Appends w v front
    → begins_with start v ≡ true
begins_on None w v front h a = refl
begins_on (Some xs) None v front h a = absurd (false≢true h)
begins_on (Some xs) (Some ys) None front h a = absurd a
begins_on (Some xs) (Some ys) (Some zs) front h a =
    (bytes_eq-Decides (take (length xs) zs) xs).1
    (ap (take (length xs)) a ∙ first_part xs ys front ((bytes_eq-Decides (take (length xs) ys) xs).0 h))

-- if a text was accepted, the writer holds a prefix of it behind what it held at first
pub prefix_held : (start v : Option (List ℕ)) (rest t : List ℕ) → begins_with start v ≡ true
    → Appends (append_known start []) (append_known v rest) t
    → AppendsPrefix start v t
prefix_held None v rest t h a = ([], t, tt, refl)
prefix_held (Some xs) None rest t h a = absurd (false≢true h)
prefix_held (Some xs) (Some ys) rest t h a =
    let whole : ys ≡ xs ++ drop (length xs) ys =
    sym (take-append-drop (length xs) ys)
    ∙ ap (λ z. z ++ drop (length xs) ys) ((bytes_eq-Decides (take (length xs) ys) xs).0 h) in
    let same : xs ++ (drop (length xs) ys ++ rest) ≡ xs ++ t =
    sym (append_assoc xs (drop (length xs) ys) rest) ∙ ap (λ z. z ++ rest) (sym whole) ∙ a ∙ append_assoc xs [] t in
    let text : drop (length xs) ys ++ rest ≡ t =
    sym (behind xs (drop (length xs) ys ++ rest)) ∙ ap (drop (length xs)) same ∙ behind xs t in
    (drop (length xs) ys, rest, whole, sym text)
  where
    behind : (xs ys : List ℕ) → drop (length xs) (xs ++ ys) ≡ ys
    behind [] ys = refl
    behind (x ∷ xs) ys = behind xs ys

pub prefix_of_prefix : (start v : Option (List ℕ)) (rest t : List ℕ) → begins_with start v ≡ true
    → AppendsPrefix (append_known start []) (append_known v rest) t → AppendsPrefix start v t
prefix_of_prefix start v rest t h a =
    let p = prefix_held start v rest a.0 h a.2 in
    (p.0, p.1 ++ a.1, p.2, a.3 ∙ ap (λ z. z ++ a.1) p.3 ∙ append_assoc p.0 p.1 a.1)

-- if nothing is left in the buffer, all of it was passed on
pub all_held : (start v : Option (List ℕ)) (rest t : List ℕ) → rest ≡ []
    → Appends (append_known start []) (append_known v rest) t → Appends start v t
all_held None v rest t e a = tt
all_held (Some xs) None rest t e a = absurd a
all_held (Some xs) (Some ys) rest t e a =
    sym (append-nil ys) ∙ ap (λ z. ys ++ z) (sym e) ∙ a ∙ append_assoc xs [] t

pub none_left : (h : List ℕ) (s : ℕ) → h ≡ [] → drop s h ≡ []
none_left h zero e = e
none_left h (suc s) e = ap (drop (suc s)) e

-- a buffer that accepted a text or refused it
pub still_within : {V E A : Type 0} (r : Result V E) (items : A → List ℕ) (u v : A) (t : List ℕ) (s : ℕ)
    → s ≤ length (items u)
    → OnOk r (items v ≡ items u ++ t) → OnErr r (v ≡ u) → s ≤ length (items v)
still_within (Ok x) items u v t s h ok err = omega (arith, h, ap length ok, length-append (items u) t)
still_within (Err x) items u v t s h ok err = subst (λ l. s ≤ length l) (sym (ap items err)) h
