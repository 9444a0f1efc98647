-- The path of names has these names, if it is valid and none of them has a slash.
use Rattle.std.proofs.Common.{◌≡◌, ℕ, Bool, true, false, eqb, cond, List, [], ◌∷◌, Option, None, Some, refl, sym, ap}
use Rattle.std.proofs.Common.{◌∙◌, arith}
use Rattle.std.proofs.lemmas.List.Elements.{All-cons}
use Rattle.std.proofs.lemmas.List.Splits.{slice_split_none, slice_split_at}
use Rattle.std.specs.List.{All, list_any, join_with_byte}
use Rattle.std.specs.Option.{is_some}
use Rattle.manifest.specs.Texts.{pieces}
use Rattle.manifest.specs.Paths.{names_of, names_behind, is_bad_name, path_of}
use Rattle.manifest.proofs.Named.{path_with_names}
use Rattle.manifest.proofs.Parents.{is_path, path_of-joined, pieces_some, starts}
use Rattle.image_manifest.specs.ByPaths.{has_slash}
use Rattle.image_manifest.proofs.Ways.{or_false}

no_slash : (n : List ℕ) → has_slash n ≡ false → All (λ b. eqb b 47 ≡ false) n
no_slash [] h = λ k d l. absurd (omega (arith, l))
no_slash (b ∷ bs) h =
    let s = or_false (eqb b 47) (has_slash bs) h in All-cons (λ c. eqb c 47 ≡ false) b bs s.0 (no_slash bs s.1)

pieces_joined : (n : List ℕ) (ns : List (List ℕ)) → list_any has_slash (n ∷ ns) ≡ false
    → pieces 47 (join_with_byte 47 (n ∷ ns)) ≡ n ∷ ns
pieces_joined n [] h = slice_split_none (λ b. eqb b 47) n (no_slash n (or_false (has_slash n) false h).0)
pieces_joined n (m ∷ ns) h =
    let s = or_false (has_slash n) (list_any has_slash (m ∷ ns)) h in
    slice_split_at (λ b. eqb b 47) n 47 (join_with_byte 47 (m ∷ ns)) (no_slash n s.0) refl
    ∙ ap (λ (ps : List (List ℕ)). n ∷ ps) (pieces_joined m ns s.1)

abbrev behind_first : List ℕ → List ℕ
behind_first [] = []
behind_first (b ∷ bs) = bs

-- names without slashes are known by their path
pub same_names : (n : List ℕ) (ns : List (List ℕ)) (k : List ℕ) (ks : List (List ℕ))
    → list_any has_slash (n ∷ ns) ≡ false → list_any has_slash (k ∷ ks) ≡ false
    → path_of (n ∷ ns) ≡ path_of (k ∷ ks) → n ∷ ns ≡ k ∷ ks
same_names n ns k ks p q h =
    let e : join_with_byte 47 (n ∷ ns) ≡ join_with_byte 47 (k ∷ ks) =
    ap behind_first (sym (path_of-joined n ns) ∙ h ∙ path_of-joined k ks) in
    sym (pieces_joined n ns p) ∙ ap (pieces 47) e ∙ pieces_joined k ks q

-- what has no names is the root's path
behind_root : (bs : List ℕ) → names_behind bs ≡ Some [] → bs ≡ []
behind_root [] h = refl
behind_root (b ∷ bs) h = by (list_any is_bad_name (pieces 47 (b ∷ bs))) h
  where
    injective : {x y : List (List ℕ)} → Some x ≡ Some y → x ≡ y
    injective e = cc

    no_pieces : (x : List ℕ) (xs ps : List (List ℕ)) → ps ≡ x ∷ xs → ps ≡ [] → ⊥
    no_pieces x xs ps e f = cc

    by : (t : Bool) → cond t None (Some (pieces 47 (b ∷ bs))) ≡ Some [] → b ∷ bs ≡ []
    by true g = absurd (cc)
    by false g = let s = pieces_some 47 (b ∷ bs) in absurd (no_pieces s.0 s.1 (pieces 47 (b ∷ bs)) s.2 (injective g))

root_path : (path : List ℕ) → names_of path ≡ Some [] → path ≡ 47 ∷ []
root_path path h =
    let e = is_path path (ap is_some h) in
    let s = starts path (ap is_some (sym e ∙ h)) in
    s.1 ∙ ap (λ (v : List ℕ). 47 ∷ v) (behind_root s.0 (sym s.2 ∙ (sym e ∙ h)))

-- so a valid path of names without slashes that is not the root's has exactly these names
pub has_names : (path : List ℕ) (k : List ℕ) (ks : List (List ℕ)) → path ≡ path_of (k ∷ ks)
    → list_any has_slash (k ∷ ks) ≡ false → is_some (names_of path) ≡ true → (path ≡ 47 ∷ [] → ⊥)
    → names_of path ≡ Some (k ∷ ks)
has_names path k ks e p s root = by (names_of path) refl s
  where
    by : (o : Option (List (List ℕ))) → names_of path ≡ o → is_some o ≡ true → o ≡ Some (k ∷ ks)
    by None h t = absurd (cc)
    by (Some []) h t = absurd (root (root_path path h))
    by (Some (n ∷ ns)) h t =
        let i = path_with_names path n ns h in
        ap (λ (v : List (List ℕ)). Some v) (same_names n ns k ks i.plain p (sym i.joined ∙ e))
