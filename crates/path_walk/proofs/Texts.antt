-- Facts on the components of a text, and of the texts that are still to be read.
use Rattle.std.proofs.Common.{◌≡◌, ◌≢◌, ℕ, zero, suc, ◌+◌, ◌<◌, ◌≤◌, true, false, List, [], ◌∷◌, ◌++◌, length, get_or}
use Rattle.std.proofs.Common.{take, drop, refl, sym, ap, ◌∙◌, arith, append-nil, ◌==◌}
use Rattle.std.proofs.lemmas.Bool.{false_from_ne_true, eqb-true}
use Rattle.std.specs.Prelude.{if◌then◌else◌}
use Rattle.std.specs.Borrow.{Bor}
use Rattle.rom_tree.specs.Dots.{dot}
use Rattle.path_walk.specs.Components.{is_empty, begin_piece, pieces, names_of, components, ends_with_slash}
use Rattle.path_walk.specs.Trails.{unread_components, unread_bytes, NoneEmpty}

no_slash : (c : ℕ) → (c ≡ 47 → ⊥) → (c == 47) ≡ false
no_slash c h = false_from_ne_true (c == 47) (λ t. h (eqb-true c 47 t))

pub components-nil : components [] ≡ []
unfolding components pieces
components-nil = refl

components-slash : (d : ℕ) (cs : List ℕ) → components (47 ∷ d ∷ cs) ≡ components (d ∷ cs)
unfolding components pieces
components-slash d cs = refl

-- slashes before something else add nothing
pub components-slashes : (text : List ℕ) (n : ℕ) → n < length text → ((k : ℕ) → k < n → get_or text k 0 ≡ 47)
    → components (drop n text) ≡ components text
components-slashes [] n h b = absurd (omega arith)
components-slashes (c ∷ cs) zero h b = refl
components-slashes (c ∷ []) (suc n) h b = absurd (omega arith)
components-slashes (c ∷ d ∷ cs) (suc n) h b =
    let e : c ≡ 47 = b 0 (omega arith) in
    components-slashes (d ∷ cs) n (omega arith) (λ k l. b (suc k) (omega arith))
    ∙ (sym (components-slash d cs) ∙ ap (λ (v : ℕ). components (v ∷ d ∷ cs)) (sym e))

components-one_slash : components (47 ∷ []) ≡ dot ∷ []
unfolding components pieces
components-one_slash = refl

-- a text of slashes only has the component `.`
pub components-only_slashes : (text : List ℕ) → 0 < length text → ((k : ℕ) → k < length text → get_or text k 0 ≡ 47)
    → components text ≡ dot ∷ []
components-only_slashes [] h b = absurd (omega arith)
components-only_slashes (c ∷ []) h b =
    let e : c ≡ 47 = b 0 (omega arith) in ap (λ (v : ℕ). components (v ∷ [])) e ∙ components-one_slash
components-only_slashes (c ∷ d ∷ cs) h b =
    let e : c ≡ 47 = b 0 (omega arith) in
    ap (λ (v : ℕ). components (v ∷ d ∷ cs)) e
    ∙ (components-slash d cs ∙ components-only_slashes (d ∷ cs) (omega arith) (λ k l. b (suc k) (omega arith)))

-- the pieces behind the first one, if a slash ends it
after_slash : List ℕ → List (List ℕ)
after_slash [] = []
after_slash (c ∷ cs) = pieces cs

-- the first piece ends before the first slash, or at the end
pieces-first : (text : List ℕ) (n : ℕ) → n ≤ length text → ((k : ℕ) → k < n → get_or text k 0 ≢ 47)
    → (n < length text → get_or text n 0 ≡ 47) → pieces text ≡ take n text ∷ after_slash (drop n text)
unfolding pieces after_slash
pieces-first [] zero h b f = refl
pieces-first (c ∷ cs) zero h b f = let e : c ≡ 47 = f (omega arith) in rw e
pieces-first [] (suc n) h b f = absurd (omega arith)
pieces-first (c ∷ cs) (suc n) h b f =
    let e : (c == 47) ≡ false = no_slash c (b 0 (omega arith)) in
    let r : pieces cs ≡ take n cs ∷ after_slash (drop n cs) =
    pieces-first cs n (omega arith) (λ k l. b (suc k) (omega arith)) (λ l. f (omega arith)) in
    rw e (ap (begin_piece c) r)

-- a slash in front adds an empty piece, which is no name
after_slash-names : (text : List ℕ) → (0 < length text → get_or text 0 0 ≡ 47)
    → names_of (after_slash text) ≡ names_of (pieces text)
unfolding pieces after_slash
after_slash-names [] f = refl
after_slash-names (c ∷ cs) f = let e : c ≡ 47 = f (omega arith) in rw e

ends-upto : (text : List ℕ) (n : ℕ) → n ≤ length text → ((k : ℕ) → k < n → get_or text k 0 ≢ 47)
    → ends_with_slash text ≡ ends_with_slash (drop n text)
ends-upto text zero h b = refl
ends-upto [] (suc n) h b = absurd (omega arith)
ends-upto (c ∷ []) (suc zero) h b = no_slash c (b 0 (omega arith))
ends-upto (c ∷ []) (suc (suc n)) h b = absurd (omega arith)
ends-upto (c ∷ d ∷ cs) (suc n) h b = ends-upto (d ∷ cs) n (omega arith) (λ k l. b (suc k) (omega arith))

drop-slash : (text : List ℕ) (n : ℕ) → n ≤ length text → (n < length text → get_or text n 0 ≡ 47)
    → 0 < length (drop n text) → get_or (drop n text) 0 0 ≡ 47
drop-slash text zero h f s = f s
drop-slash [] (suc n) h f s = absurd (omega arith)
drop-slash (c ∷ cs) (suc n) h f s = drop-slash cs n (omega arith) (λ l. f (omega arith)) s

-- the first component of a text that begins with something else than a slash
pub components-first : (text : List ℕ) (n : ℕ) → 0 < length text → get_or text 0 0 ≢ 47 → n ≤ length text
    → ((k : ℕ) → k < n → get_or text k 0 ≢ 47) → (n < length text → get_or text n 0 ≡ 47)
    → components text ≡ take n text ∷ components (drop n text)
unfolding components
components-first text zero some other h b f = absurd (other (f some))
components-first [] (suc n) some other h b f = absurd (omega arith)
components-first (c ∷ cs) (suc n) some other h b f =
    let p : pieces (c ∷ cs) ≡ (c ∷ take n cs) ∷ after_slash (drop n cs) = pieces-first (c ∷ cs) (suc n) h b f in
    let e : ends_with_slash (c ∷ cs) ≡ ends_with_slash (drop n cs) = ends-upto (c ∷ cs) (suc n) h b in
    let s : 0 < length (drop n cs) → get_or (drop n cs) 0 0 ≡ 47 = drop-slash (c ∷ cs) (suc n) h f in
    let q : names_of (after_slash (drop n cs)) ≡ names_of (pieces (drop n cs)) = after_slash-names (drop n cs) s in
    rw (p, e, q)

-- the unread texts
pub bytes-push : (us : List (Bor (List ℕ))) (u : Bor (List ℕ))
    → unread_bytes (us ++ u ∷ []) ≡ unread_bytes us + length u.now
unfolding unread_bytes
bytes-push [] u = omega arith
bytes-push (v ∷ us) u = let h = bytes-push us u in omega arith

pub none-push : (us : List (Bor (List ℕ))) (u : Bor (List ℕ)) → NoneEmpty us → 0 < length u.now
    → NoneEmpty (us ++ u ∷ [])
unfolding NoneEmpty
none-push [] u h s = (s, tt)
none-push (v ∷ us) u h s = (h.0, none-push us u h.1 s)

pub none-front : (us : List (Bor (List ℕ))) (u : Bor (List ℕ)) → NoneEmpty (us ++ u ∷ []) → NoneEmpty us
unfolding NoneEmpty
none-front [] u h = tt
none-front (v ∷ us) u h = (h.0, none-front us u h.1)

pub none-last : (us : List (Bor (List ℕ))) (u : Bor (List ℕ)) → NoneEmpty (us ++ u ∷ []) → 0 < length u.now
unfolding NoneEmpty
none-last [] u h = h.0
none-last (v ∷ us) u h = none-last us u h.1

pub none-nil : NoneEmpty []
unfolding NoneEmpty
none-nil = tt

pub unread_components-nil : unread_components [] ≡ []
unfolding unread_components
unread_components-nil = refl

begin_piece-names : (c : ℕ) (ps : List (List ℕ)) → is_empty (names_of (begin_piece c ps)) ≡ false
begin_piece-names c [] = refl
begin_piece-names c (p ∷ ps) = refl

pieces-some : (c : ℕ) (cs : List ℕ) → ends_with_slash (c ∷ cs) ≡ false → is_empty (names_of (pieces (c ∷ cs))) ≡ false
unfolding pieces
pieces-some c [] e = rw e
pieces-some c (d ∷ cs) e =
    elim (c == 47) as (λ v. is_empty (names_of (if v then [] ∷ pieces (d ∷ cs) else begin_piece c (pieces (d ∷ cs))))
    ≡ false) [
      | true ↦ pieces-some d cs e
      | false ↦ begin_piece-names c (pieces (d ∷ cs))
    ]

snoc_full : (ps : List (List ℕ)) (p : List ℕ) → is_empty (ps ++ p ∷ []) ≡ false
snoc_full [] p = refl
snoc_full (q ∷ ps) p = refl

-- a text has a component if it is not empty
pub components-some : (text : List ℕ) → 0 < length text → is_empty (components text) ≡ false
unfolding components
components-some [] h = absurd (omega arith)
components-some (c ∷ cs) h =
    elim (ends_with_slash (c ∷ cs)) as
    (λ v. ends_with_slash (c ∷ cs) ≡ v
    → is_empty (names_of (pieces (c ∷ cs)) ++ (if v then dot ∷ [] else [])) ≡ false) [
      | true ↦ λ e. snoc_full (names_of (pieces (c ∷ cs))) dot
      | false ↦ λ e. ap is_empty (append-nil (names_of (pieces (c ∷ cs)))) ∙ pieces-some c cs e
    ] refl

append_full : (ps qs : List (List ℕ)) → is_empty qs ≡ false → is_empty (ps ++ qs) ≡ false
append_full [] qs h = h
append_full (p ∷ ps) qs h = refl

-- there are components to come exactly if there are texts
pub unread-empty : (us : List (Bor (List ℕ))) → NoneEmpty us → is_empty (unread_components us) ≡ (length us == 0)
unfolding NoneEmpty unread_components
unread-empty [] h = refl
unread-empty (u ∷ us) h = append_full (unread_components us) (components u.now) (components-some u.now h.0)
    ∙ sym (false_from_ne_true (length (u ∷ us) == 0) (λ t. absurd (omega (arith, eqb-true (length (u ∷ us)) 0 t))))

pub nil_by : (xs : List ℕ) → (length xs == 0) ≡ true → xs ≡ []
nil_by [] h = refl
nil_by (x ∷ xs) h = absurd (omega (arith, eqb-true (length (x ∷ xs)) 0 h))

pub some_by : (xs : List ℕ) → (length xs == 0) ≡ false → 0 < length xs
some_by [] h = absurd (cc)
some_by (x ∷ xs) h = omega arith
