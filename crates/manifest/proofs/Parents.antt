-- The directory that a path's last name is in: what is before the last slash.
use Rattle.std.proofs.Common.{◌≡◌, ◌+◌, ℕ, zero, suc, true, false, eqb, cond, List, [], ◌∷◌, ◌++◌, length, take, drop}
use Rattle.std.proofs.Common.{get_or, None, Some, refl, sym, ap, subst, ◌∙◌, arith}
use Rattle.std.proofs.lemmas.Bool.{eqb-true}
use Rattle.std.proofs.lemmas.List.{take-append-drop, drop_more, append-nil, get_or-drop, length-drop}
use Rattle.std.proofs.lemmas.List.Splits.{join_with_byte-slice_split}
use Rattle.std.specs.List.{list_any, onto_first, join_with_byte}
use Rattle.std.specs.Option.{is_some}
use Rattle.memchr.specs.Find.{Nowhere, NoneAfter, Passes, is_byte}
use Rattle.manifest.specs.Texts.{pieces, is_bad}
use Rattle.manifest.specs.Paths.{names_of, names_from, names_behind, is_bad_name, parent_of, path_of, but_last}
use Rattle.manifest.proofs.Pieces.{cut_none}

onto_some : (b : ℕ) (xs : List (List ℕ)) → (y : List ℕ) × (ys : List (List ℕ)) × (onto_first b xs ≡ y ∷ ys)
onto_some b [] = (b ∷ [], [], refl)
onto_some b (x ∷ xs) = (b ∷ x, xs, refl)

-- a text has a piece
pub pieces_some : (c : ℕ) (bs : List ℕ) → (y : List ℕ) × (ys : List (List ℕ)) × (pieces c bs ≡ y ∷ ys)
pieces_some c [] = ([], [], refl)
pieces_some c (b ∷ bs) =
    elim (eqb b c) as (λ t. (y : List ℕ) × (ys : List (List ℕ))
    × (cond t ([] ∷ pieces c bs) (onto_first b (pieces c bs)) ≡ y ∷ ys)) [
      | true ↦ ([], pieces c bs, refl)
      | false ↦ onto_some b (pieces c bs)
    ]

onto_front : (x : ℕ) (ps qs : List (List ℕ)) → (y : List ℕ) × (ys : List (List ℕ)) × (ps ≡ y ∷ ys)
    → onto_first x (ps ++ qs) ≡ onto_first x ps ++ qs
onto_front x ps qs h = rw h.2 refl

-- the pieces on both sides of a slash
pub pieces_apart : (a b : List ℕ) → pieces 47 (a ++ 47 ∷ b) ≡ pieces 47 a ++ pieces 47 b
pieces_apart [] b = refl
pieces_apart (x ∷ a) b =
    elim (eqb x 47) as (λ t. cond t ([] ∷ pieces 47 (a ++ 47 ∷ b)) (onto_first x (pieces 47 (a ++ 47 ∷ b)))
    ≡ cond t ([] ∷ pieces 47 a) (onto_first x (pieces 47 a)) ++ pieces 47 b) [
      | true ↦ ap (λ (ps : List (List ℕ)). [] ∷ ps) (pieces_apart a b)
      | false ↦ ap (onto_first x) (pieces_apart a b) ∙ onto_front x (pieces 47 a) (pieces 47 b) (pieces_some 47 a)
    ]

but_last-push : (ns : List (List ℕ)) (n : List ℕ) → but_last (ns ++ n ∷ []) ≡ ns
but_last-push [] n = refl
but_last-push (m ∷ []) n = refl
but_last-push (m ∷ k ∷ ns) n = ap (λ (x : List (List ℕ)). m ∷ x) (but_last-push (k ∷ ns) n)

pub path_of-joined : (n : List ℕ) (ns : List (List ℕ)) → path_of (n ∷ ns) ≡ 47 ∷ join_with_byte 47 (n ∷ ns)
path_of-joined n [] = ap (λ (x : List ℕ). 47 ∷ x) (append-nil n)
path_of-joined n (m ∷ ns) = ap (λ (x : List ℕ). 47 ∷ (n ++ x)) (path_of-joined m ns)

pub path_of-pieces : (bs : List ℕ) → path_of (pieces 47 bs) ≡ 47 ∷ bs
path_of-pieces bs = let h = pieces_some 47 bs in
    ap path_of h.2 ∙ path_of-joined h.0 h.1 ∙ ap (λ (x : List (List ℕ)). 47 ∷ join_with_byte 47 x) (sym h.2)
    ∙ ap (λ (x : List ℕ). 47 ∷ x) (join_with_byte-slice_split 47 bs)

-- what is before the last slash
before_last : (bs : List ℕ) (i : ℕ) → NoneAfter (Passes (is_byte 47) (47 ∷ bs)) 0 (length (47 ∷ bs)) i
    → Passes (is_byte 47) (47 ∷ bs) i
    → take i (47 ∷ bs) ≡ path_of (but_last (pieces 47 bs))
before_last bs zero h p = sym (ap (λ (ps : List (List ℕ)). path_of (but_last ps))
    (cut_none 47 bs (λ k d l e. h.after (suc k) (omega arith) (omega (arith, l)) e)))
before_last bs (suc j) h p =
    let b = drop (j + 1) bs in
    let whole : bs ≡ take j bs ++ 47 ∷ b =
    sym (take-append-drop j bs) ∙ ap (λ (y : List ℕ). take j bs ++ y)
    (drop_more bs j 0 (omega (arith, h.high)) ∙ ap (λ (x : ℕ). x ∷ b) (eqb-true (get_or bs j 0) 47 p)) in
    let last : pieces 47 b ≡ b ∷ [] =
    cut_none 47 b (λ k d l e. h.after (suc (j + 1 + k)) (omega arith) (omega (arith, l, length-drop (j + 1) bs, h.high))
    (ap (λ (x : ℕ). eqb x 47) (sym (get_or-drop (j + 1) bs k 0)) ∙ e)) in
    sym (ap (λ (ps : List (List ℕ)). path_of (but_last ps))
    (ap (pieces 47) whole ∙ pieces_apart (take j bs) b
    ∙ ap (λ (ps : List (List ℕ)). pieces 47 (take j bs) ++ ps) last)
    ∙ ap path_of (but_last-push (pieces 47 (take j bs)) b) ∙ path_of-pieces (take j bs))

behind : (bs : List ℕ) → is_some (names_behind bs) ≡ true
    → parent_of (names_behind bs) ≡ path_of (but_last (pieces 47 bs))
behind [] h = refl
behind (b ∷ bs) h = elim (list_any is_bad_name (pieces 47 (b ∷ bs))) as
    (λ t. is_some (cond t None (Some (pieces 47 (b ∷ bs)))) ≡ true
    → parent_of (cond t None (Some (pieces 47 (b ∷ bs)))) ≡ path_of (but_last (pieces 47 (b ∷ bs)))) [
      | true ↦ λ e. absurd (cc)
      | false ↦ λ e. refl
    ] h

-- a path begins with a slash
pub starts : (path : List ℕ) → is_some (names_from path) ≡ true
    → (bs : List ℕ) × (path ≡ 47 ∷ bs) × (names_from path ≡ names_behind bs)
starts [] h = absurd (cc)
starts (b ∷ bs) h = elim (eqb b 47) as
    (λ t. eqb b 47 ≡ t → is_some (cond t (names_behind bs) None) ≡ true
    → (cs : List ℕ) × (b ∷ bs ≡ 47 ∷ cs) × (cond t (names_behind bs) None ≡ names_behind cs)) [
      | true ↦ λ e f. (bs, ap (λ (x : ℕ). x ∷ bs) (eqb-true b 47 e), refl)
      | false ↦ λ e f. absurd (cc)
    ] refl h

pub is_path : (path : List ℕ) → is_some (names_of path) ≡ true → names_of path ≡ names_from path
unfolding names_of
is_path path h = elim (is_bad 4095 path) as
    (λ t. is_some (cond t None (names_from path)) ≡ true → cond t None (names_from path) ≡ names_from path) [
      | true ↦ λ e. absurd (cc)
      | false ↦ λ e. refl
    ] h

pub parent_is : (path : List ℕ) (i : ℕ) → is_some (names_of path) ≡ true
    → NoneAfter (Passes (is_byte 47) path) 0 (length path) i → Passes (is_byte 47) path i
    → take i path ≡ parent_of (names_of path)
parent_is path i h n p =
    let same = is_path path h in
    let s = starts path (ap is_some (sym same) ∙ h) in
    let at : take i (47 ∷ s.0) ≡ path_of (but_last (pieces 47 s.0)) =
    before_last s.0 i (subst (λ (x : List ℕ). NoneAfter (Passes (is_byte 47) x) 0 (length x) i) s.1 n)
    (subst (λ (x : List ℕ). Passes (is_byte 47) x i) s.1 p) in
    ap (take i) s.1 ∙ at ∙ sym (behind s.0 (ap is_some (sym s.2 ∙ sym same) ∙ h)) ∙ ap parent_of (sym s.2 ∙ sym same)

-- so there is a slash
pub slash_stands : (path : List ℕ) → is_some (names_of path) ≡ true → Nowhere (Passes (is_byte 47) path) 0 (length path)
    → ⊥
slash_stands path h n =
    let s = starts path (ap is_some (sym (is_path path h)) ∙ h) in
    subst (λ (x : List ℕ). Nowhere (Passes (is_byte 47) x) 0 (length x)) s.1 n 0 (omega arith) (omega arith) refl
