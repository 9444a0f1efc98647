-- The way of known bytes through a stream that is in front of another one.
use Rattle.std.proofs.Common.{◌≡◌, ℕ, ◌-◌, ◌<◌, ◌≤◌, ◌⊎◌, inl, inr, Bool, true, false, List, [], ◌++◌, Option, Some}
use Rattle.std.proofs.Common.{None, IfSome, Result, Ok, Err, IfOk, OnErr, length, take, drop, refl, sym, ap, subst, ◌∙◌}
use Rattle.std.proofs.Common.{arith, append-nil, le_refl, take_all, take_at, drop_of_length-le, length-drop, cond}
use Rattle.std.proofs.lemmas.Bool.{false≢true}
use lib.Seq.{take-append-le}
use Rattle.std.specs.Io.{ReadsAtMost, StartsWith}
use Rattle.std.specs.Io.KnownBytes.{Appends, Keeps, Consumes, IsAtEnd, WriteAppends, append_known}
use Rattle.std.proofs.KnownBytes.{Keeps-trans, Consumes-nil, Consumes-kept, append_known-kept, append_known-grown}
use Rattle.std.proofs.KnownBytes.{append_known-passed, starts_with_rest}
use Rattle.std.proofs.Transfers.{starts_with_length, drop-appended}

-- ---- a reader

-- a call that failed took nothing from what the next one returns
pub kept_Consumes : (a b c : Option (List ℕ)) (bs : List ℕ) → Keeps a b → Consumes b c bs → Consumes a c bs
kept_Consumes None b c bs p q = tt
kept_Consumes (Some x) None c bs p q = absurd p
kept_Consumes (Some x) (Some y) None bs p q = absurd q
kept_Consumes (Some x) (Some y) (Some z) bs p q = sym p ∙ q

pub kept_IsAtEnd : (a b : Option (List ℕ)) → Keeps a b → IsAtEnd b → IsAtEnd a
kept_IsAtEnd None b p q = tt
kept_IsAtEnd (Some x) None p q = absurd p
kept_IsAtEnd (Some x) (Some y) p q = sym p ∙ q

-- nothing was read
pub none_read : (a b : Option (List ℕ)) (old new : List ℕ) → new ≡ old → Keeps a b
    → Consumes a b (drop (length old) new)
none_read a b old new e kept =
    subst (Consumes a b) (sym (ap (drop (length old)) e ∙ drop_of_length-le old (le_refl (length old))))
    (Consumes-kept a a b [] (Consumes-nil a) kept)

-- what was read is behind the rest
pub some_read : (a b : Option (List ℕ)) (old new bs : List ℕ) → new ≡ old ++ bs → Consumes a b bs
    → Consumes a b (drop (length old) new)
some_read a b old new bs e read = subst (Consumes a b) (sym (drop-appended old new bs e)) read

-- what was read into the front of a part of memory
pub read_front : {E : Type 0} (a b : Option (List ℕ)) (r : Result ℕ E) (part rest : List ℕ) → ReadsAtMost r part
    → IfOk r (λ n. Consumes a b (take n part)) → IfOk r (λ n. Consumes a b (take n (part ++ rest)))
read_front a b (Ok n) part rest fits read = subst (Consumes a b) (sym (take-append-le n part rest fits.0)) read
read_front a b (Err e) part rest fits read = tt

none_left : (a : Option (List ℕ)) (n : ℕ) (buf : List ℕ) → n ≡ 0 → IsAtEnd a → Consumes a (Some []) (take n buf)
none_left None n buf zero end = tt
none_left (Some xs) n buf zero end = end ∙ sym (ap (λ k. take k buf ++ []) zero)

-- a read that met the end leaves nothing
pub read_ended : (a c : Option (List ℕ)) (n : ℕ) (buf : List ℕ) (ended : Bool) → Consumes a c (take n buf)
    → (n ≡ 0 → 0 < length buf → IsAtEnd a)
    → ((ended ≡ true → (n ≡ 0) × (0 < length buf)) × ((n ≡ 0) × (0 < length buf) → ended ≡ true))
    → Consumes a (cond ended (Some []) c) (take n buf) × (n ≡ 0 → 0 < length buf → IsAtEnd (cond ended (Some []) c))
read_ended a c n buf true read end met =
    (none_left a n buf (met.0 refl).0 (end (met.0 refl).0 (met.0 refl).1), λ _ _. refl)
read_ended a c n buf false read end met = (read, λ zero some. absurd (false≢true (met.1 (zero, some))))

-- as many bytes as were asked for, or all that there were
pub read_all : (a c : Option (List ℕ)) (old new : List ℕ) (until : ℕ) → StartsWith new old
    → Consumes a c (drop (length old) new)
    → length new - length old ≤ until - length old → (until ≤ length new) ⊎ IsAtEnd c
    → IfSome a (λ xs. new ≡ old ++ take (until - length old) xs)
read_all None c old new until starts read most end = tt
read_all (Some x) None old new until starts read most end = absurd read
read_all (Some x) (Some y) old new until starts read most end =
    let bs = drop (length old) new in
    let long = length-drop (length old) new in
    let within = starts_with_length new old starts in
    let same : bs ≡ take (until - length old) x = elim end [
      | inl far ↦
          let count : until - length old ≡ length bs = omega (arith, long, within, most, far) in
          sym (take_at bs y (length bs) refl) ∙ ap (take (length bs)) (sym read) ∙ ap (λ k. take k x) (sym count)
      | inr none ↦
          let whole : x ≡ bs = read ∙ ap (λ l. bs ++ l) none ∙ append-nil bs in
          sym whole ∙ sym (take_all (until - length old) x (omega (arith, long, most, ap length whole)))
    ] in
    starts_with_rest new old starts ∙ ap (λ l. old ++ l) same

-- ---- a writer that holds bytes back

pub write_held : (a i : Option (List ℕ)) (h k b : List ℕ) → Keeps a (append_known i h) → k ≡ h ++ b
    → Appends a (append_known i k) (take (length b) b)
write_held a i h k b p e = subst (Appends a (append_known i k)) (sym (take_all (length b) b (le_refl (length b))))
    (append_known-grown a i h k b p e)

pub write_through : {E : Type 0} (a i j : Option (List ℕ)) (h b : List ℕ) (r : Result ℕ E) → Keeps a (append_known i h)
    → h ≡ []
    → IfOk r (λ n. Appends i j (take n b)) → OnErr r (Keeps i j) → WriteAppends a (append_known j h) r b
write_through a i j h b (Ok n) p none q e =
    subst (Appends a (append_known j h)) (append-nil (take n b))
    (append_known-passed a i j h h (take n b) [] p none q (sym (append-nil h)))
write_through a i j h b (Err x) p none q e =
    Keeps-trans a (append_known i h) (append_known j h) p (append_known-kept i j h e)
