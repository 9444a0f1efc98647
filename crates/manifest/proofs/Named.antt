-- The names of a path and the path of names.
use Rattle.std.proofs.Common.{◌≡◌, ℕ, Bool, true, false, ◌||◌, nat_lt, eqb, cond, List, [], ◌∷◌, ◌++◌, length, None}
use Rattle.std.proofs.Common.{Some, refl, sym, ap, subst, ◌∙◌, arith, length-append}
use Rattle.std.proofs.lemmas.Bool.{ltb-false, le-ltb}
use Rattle.std.proofs.lemmas.List.{append_assoc}
use Rattle.std.proofs.lemmas.List.Elements.{All-cons}
use Rattle.std.proofs.lemmas.List.Splits.{slice_split_none, slice_split_at}
use Rattle.std.specs.List.{All, list_any, onto_first, join_with_byte}
use Rattle.std.specs.Option.{is_some}
use Rattle.manifest.specs.Texts.{pieces, is_bad}
use Rattle.manifest.specs.Paths.{names_of, names_from, names_behind, is_bad_name, path_of, but_last}
use Rattle.manifest.proofs.Parents.{path_of-pieces, path_of-joined, starts}

abbrev pub has_slash : List ℕ → Bool
has_slash n = list_any (λ b. eqb b 47) n

or_false : (a b : Bool) → (a || b) ≡ false → (a ≡ false) × (b ≡ false)
or_false true b h = absurd (cc)
or_false false b h = (refl, h)

join_false : (a b : Bool) → a ≡ false → b ≡ false → (a || b) ≡ false
join_false true b h g = absurd (cc)
join_false false b h g = g

-- no piece has a slash
onto_plain : (x : ℕ) (ps : List (List ℕ)) → eqb x 47 ≡ false → list_any has_slash ps ≡ false
    → list_any has_slash (onto_first x ps) ≡ false
onto_plain x [] e h = rw e refl
onto_plain x (p ∷ ps) e h = rw e h

pieces_plain : (bs : List ℕ) → list_any has_slash (pieces 47 bs) ≡ false
pieces_plain [] = refl
pieces_plain (b ∷ bs) = elim (eqb b 47) as
    (λ t. eqb b 47 ≡ t → list_any has_slash (cond t ([] ∷ pieces 47 bs) (onto_first b (pieces 47 bs))) ≡ false) [
      | true ↦ λ e. pieces_plain bs
      | false ↦ λ e. onto_plain b (pieces 47 bs) e (pieces_plain bs)
    ] refl

no_slash : (n : List ℕ) → has_slash n ≡ false → All (λ b. eqb b 47 ≡ false) n
no_slash [] h = λ k d l. absurd (omega (arith, l))
no_slash (b ∷ bs) h =
    let s = or_false (eqb b 47) (has_slash bs) h in All-cons (λ c. eqb c 47 ≡ false) b bs s.0 (no_slash bs s.1)

-- names without slashes are the pieces of what they make
pieces_joined : (n : List ℕ) (ns : List (List ℕ)) → list_any has_slash (n ∷ ns) ≡ false
    → pieces 47 (join_with_byte 47 (n ∷ ns)) ≡ n ∷ ns
pieces_joined n [] h = slice_split_none (λ b. eqb b 47) n (no_slash n (or_false (has_slash n) false h).0)
pieces_joined n (m ∷ ns) h =
    let s = or_false (has_slash n) (list_any has_slash (m ∷ ns)) h in
    slice_split_at (λ b. eqb b 47) n 47 (join_with_byte 47 (m ∷ ns)) (no_slash n s.0) refl
    ∙ ap (λ (ps : List (List ℕ)). n ∷ ps) (pieces_joined m ns s.1)

any_but_last : (f : List ℕ → Bool) (ns : List (List ℕ)) → list_any f ns ≡ false → list_any f (but_last ns) ≡ false
any_but_last f [] h = refl
any_but_last f (n ∷ []) h = refl
any_but_last f (n ∷ m ∷ ns) h = let s =
    or_false (f n) (list_any f (m ∷ ns)) h in join_false (f n) (list_any f (but_last (m ∷ ns))) s.0
    (any_but_last f (m ∷ ns) s.1)

-- what the last name adds
last_adds : (ns : List (List ℕ)) → (back : List ℕ) × (path_of ns ≡ path_of (but_last ns) ++ back)
last_adds [] = ([], refl)
last_adds (n ∷ []) = (47 ∷ (n ++ []), refl)
last_adds (n ∷ m ∷ ns) = let h = last_adds (m ∷ ns) in (
  h.0,
  ap (λ (x : List ℕ). 47 ∷ (n ++ x)) h.1
      ∙ ap (λ (x : List ℕ). 47 ∷ x) (sym (append_assoc n (path_of (but_last (m ∷ ns))) h.0)),
)

any_front : (f : ℕ → Bool) (xs ys : List ℕ) → list_any f (xs ++ ys) ≡ false → list_any f xs ≡ false
any_front f [] ys h = refl
any_front f (x ∷ xs) ys h =
    let s = or_false (f x) (list_any f (xs ++ ys)) h in join_false (f x) (list_any f xs) s.0 (any_front f xs ys s.1)

-- a front of what is short and has no zero byte is so too
front_is_good : (most : ℕ) (xs ys : List ℕ) → is_bad most (xs ++ ys) ≡ false → is_bad most xs ≡ false
front_is_good most xs ys h =
    let s = or_false (nat_lt most (length (xs ++ ys))) (list_any (λ b. eqb b 0) (xs ++ ys)) h in
    join_false (nat_lt most (length xs)) (list_any (λ b. eqb b 0) xs)
    (le-ltb most (length xs) (omega (arith, ltb-false most (length (xs ++ ys)) s.0, length-append xs ys)))
    (any_front (λ b. eqb b 0) xs ys s.1)

-- the path of a path's names is that path
is_joined : (bs : List ℕ) (n : List ℕ) (ns : List (List ℕ)) → names_behind bs ≡ Some (n ∷ ns)
    → (pieces 47 bs ≡ n ∷ ns) × (list_any is_bad_name (n ∷ ns) ≡ false)
is_joined [] n ns h = absurd (cc)
is_joined (b ∷ bs) n ns h = elim (list_any is_bad_name (pieces 47 (b ∷ bs))) as
    (λ t. list_any is_bad_name (pieces 47 (b ∷ bs)) ≡ t → cond t None (Some (pieces 47 (b ∷ bs))) ≡ Some (n ∷ ns)
    → (pieces 47 (b ∷ bs) ≡ n ∷ ns) × (list_any is_bad_name (n ∷ ns) ≡ false)) [
      | true ↦ λ e g. absurd (cc)
      | false ↦ λ e g. let same = injective g in (same, ap (list_any is_bad_name) (sym same) ∙ e)
    ] refl h
  where
    injective : {x y : List (List ℕ)} → Some x ≡ Some y → x ≡ y
    injective e = cc

-- what is known of a path and its names
pub record IsPath (path : List ℕ) (n : List ℕ) (ns : List (List ℕ)) : Type 0 where
  pub good : is_bad 4095 path ≡ false
  pub joined : path ≡ path_of (n ∷ ns)
  pub plain : list_any has_slash (n ∷ ns) ≡ false
  pub names : list_any is_bad_name (n ∷ ns) ≡ false

not_bad : (path : List ℕ) (n : List ℕ) (ns : List (List ℕ)) → names_of path ≡ Some (n ∷ ns)
    → (is_bad 4095 path ≡ false) × (names_from path ≡ Some (n ∷ ns))
unfolding names_of
not_bad path n ns h = elim (is_bad 4095 path) as
    (λ t. is_bad 4095 path ≡ t → cond t None (names_from path) ≡ Some (n ∷ ns)
    → (is_bad 4095 path ≡ false) × (names_from path ≡ Some (n ∷ ns))) [
      | true ↦ λ e g. absurd (cc)
      | false ↦ λ e g. (e, g)
    ] refl h

pub path_with_names : (path : List ℕ) (n : List ℕ) (ns : List (List ℕ)) → names_of path ≡ Some (n ∷ ns)
    → IsPath path n ns
path_with_names path n ns h =
    let b = not_bad path n ns h in
    let s = starts path (ap is_some b.1) in
    let j = is_joined s.0 n ns (sym s.2 ∙ b.1) in
    record {
      good = b.0;
      joined = s.1 ∙ sym (path_of-pieces s.0) ∙ ap path_of j.0;
      plain = subst (λ ps. list_any has_slash ps ≡ false) j.0 (pieces_plain s.0);
      names = j.1;
    }

behind_joined : (n : List ℕ) (ns : List (List ℕ)) (bs : List ℕ) → pieces 47 bs ≡ n ∷ ns
    → list_any is_bad_name (n ∷ ns) ≡ false → names_behind bs ≡ Some (n ∷ ns)
unfolding is_bad_name
behind_joined n ns [] h g =
    let bad : list_any is_bad_name ([] ∷ []) ≡ false = ap (list_any is_bad_name) h ∙ g in absurd (cc)
behind_joined n ns (b ∷ bs) h g = rw (h, g) refl

-- and the names of the path of such names are they
pub names_with_path : (n : List ℕ) (ns : List (List ℕ)) → is_bad 4095 (path_of (n ∷ ns)) ≡ false
    → list_any has_slash (n ∷ ns) ≡ false → list_any is_bad_name (n ∷ ns) ≡ false
    → names_of (path_of (n ∷ ns)) ≡ Some (n ∷ ns)
unfolding names_of
names_with_path n ns good plain names =
    rw good (ap names_from (path_of-joined n ns)
    ∙ behind_joined n ns (join_with_byte 47 (n ∷ ns)) (pieces_joined n ns plain) names)

-- so a path's parent has all its names except the last
pub parent_named : (path : List ℕ) (n : List ℕ) (ns : List (List ℕ)) (p : List ℕ) (ps : List (List ℕ))
    → names_of path ≡ Some (n ∷ ns) → but_last (n ∷ ns) ≡ p ∷ ps
    → names_of (path_of (p ∷ ps)) ≡ Some (p ∷ ps)
parent_named path n ns p ps h e =
    let k = path_with_names path n ns h in
    let l = last_adds (n ∷ ns) in
    names_with_path p ps
    (front_is_good 4095 (path_of (p ∷ ps)) l.0
    (ap (λ x. is_bad 4095 (path_of x ++ l.0)) (sym e) ∙ ap (is_bad 4095) (sym (k.joined ∙ l.1)) ∙ k.good))
    (ap (list_any has_slash) (sym e) ∙ any_but_last has_slash (n ∷ ns) k.plain)
    (ap (list_any is_bad_name) (sym e) ∙ any_but_last is_bad_name (n ∷ ns) k.names)
