-- The length of a path's last name: that of the part behind the last slash.
use Rattle.std.proofs.Common.{◌≡◌, ◌+◌, ◌-◌, ℕ, zero, suc, true, false, eqb, cond, List, [], ◌∷◌, ◌++◌, length, take}
use Rattle.std.proofs.Common.{drop, get_or, None, Some, refl, sym, ap, subst, ◌∙◌, arith}
use Rattle.std.proofs.lemmas.Bool.{eqb-true}
use Rattle.std.proofs.lemmas.List.{take-append-drop, drop_more, get_or-drop, length-drop}
use Rattle.std.specs.List.{list_any}
use Rattle.std.specs.Option.{is_some}
use Rattle.memchr.specs.Find.{NoneAfter, Passes, is_byte}
use Rattle.manifest.specs.Texts.{pieces}
use Rattle.manifest.specs.Paths.{names_of, names_behind, is_bad_name}
use Rattle.manifest.proofs.Pieces.{cut_none}
use Rattle.manifest.proofs.Parents.{pieces_apart, starts, is_path}
use Rattle.manifest_layout.specs.Misfit.{last_len, name_len}

last_push : (ns : List (List ℕ)) (n : List ℕ) → last_len (ns ++ n ∷ []) ≡ length n
last_push [] n = refl
last_push (m ∷ []) n = refl
last_push (m ∷ k ∷ ns) n = last_push (k ∷ ns) n

less_nothing : (n : ℕ) → n ≡ n - 0
less_nothing n = omega arith

-- what is behind the last slash
behind_last : (bs : List ℕ) (i : ℕ) → NoneAfter (Passes (is_byte 47) (47 ∷ bs)) 0 (length (47 ∷ bs)) i
    → Passes (is_byte 47) (47 ∷ bs) i → last_len (pieces 47 bs) ≡ length bs - i
behind_last bs zero h p = ap last_len (cut_none 47 bs (λ k d l e. h.after (suc k) (omega arith) (omega (arith, l)) e))
    ∙ less_nothing (length bs)
behind_last bs (suc j) h p =
    let b = drop (j + 1) bs in
    let whole : bs ≡ take j bs ++ 47 ∷ b =
    sym (take-append-drop j bs) ∙ ap (λ (y : List ℕ). take j bs ++ y)
    (drop_more bs j 0 (omega (arith, h.high)) ∙ ap (λ (x : ℕ). x ∷ b) (eqb-true (get_or bs j 0) 47 p)) in
    let last : pieces 47 b ≡ b ∷ [] =
    cut_none 47 b (λ k d l e. h.after (suc (j + 1 + k)) (omega arith) (omega (arith, l, length-drop (j + 1) bs, h.high))
    (ap (λ (x : ℕ). eqb x 47) (sym (get_or-drop (j + 1) bs k 0)) ∙ e)) in
    ap last_len (ap (pieces 47) whole ∙ pieces_apart (take j bs) b
    ∙ ap (λ (ps : List (List ℕ)). pieces 47 (take j bs) ++ ps) last)
    ∙ last_push (pieces 47 (take j bs)) b ∙ length-drop (j + 1) bs ∙ omega arith

behind : (bs : List ℕ) → is_some (names_behind bs) ≡ true → name_len (names_behind bs) ≡ last_len (pieces 47 bs)
behind [] h = refl
behind (b ∷ bs) h = elim (list_any is_bad_name (pieces 47 (b ∷ bs))) as
    (λ t. is_some (cond t None (Some (pieces 47 (b ∷ bs)))) ≡ true
    → name_len (cond t None (Some (pieces 47 (b ∷ bs)))) ≡ last_len (pieces 47 (b ∷ bs))) [
      | true ↦ λ e. absurd (cc)
      | false ↦ λ e. refl
    ] h

pub len_is : (path : List ℕ) (i : ℕ) → is_some (names_of path) ≡ true
    → NoneAfter (Passes (is_byte 47) path) 0 (length path) i → Passes (is_byte 47) path i
    → length path - i - 1 ≡ name_len (names_of path)
len_is path i h n p =
    let same = is_path path h in
    let s = starts path (ap is_some (sym same) ∙ h) in
    let at : last_len (pieces 47 s.0) ≡ length s.0 - i =
    behind_last s.0 i (subst (λ (x : List ℕ). NoneAfter (Passes (is_byte 47) x) 0 (length x) i) s.1 n)
    (subst (λ (x : List ℕ). Passes (is_byte 47) x i) s.1 p) in
    let l : length path - i - 1 ≡ length s.0 - i = ap (λ (x : List ℕ). length x - i - 1) s.1 ∙ omega arith in
    l ∙ sym (ap name_len (same ∙ s.2) ∙ behind s.0 (ap is_some (sym s.2 ∙ sym same) ∙ h) ∙ at)
