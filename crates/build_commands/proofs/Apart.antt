-- No two entries of a scanned tree have one path, in whichever order they are.
use Rattle.std.proofs.Common.{◌≡◌, ◌⊎◌, inl, inr, ℕ, zero, suc, ◌≤◌, Bool, true, false, eqb, List, []}
use Rattle.std.proofs.Common.{◌∷◌, ◌++◌, refl, sym, ap, subst, ◌∙◌, append_assoc, append-nil, arith}
use Rattle.std.specs.Prelude.{⊤, sum_by, if◌then◌else◌}
use Rattle.std.specs.List.{All, Contains}
use Rattle.std.specs.List.Sorted.{IsPermutation}
use Rattle.std.specs.Str.{bytes_eq}
use Rattle.std.specs.Cmp.Lexicographic.{bytes_decides}
use Rattle.std.proofs.lemmas.List.{append_cancel_left}
use Rattle.std.proofs.lemmas.List.Elements.{All-nil, All-cons, All-append}
use Rattle.std.proofs.lemmas.List.Sorted.{sum_by-IsPermutation}
use Rattle.std.proofs.lemmas.List.Sums.{sum_by-append, sum_by-cons}
use Rattle.image_manifest.specs.ByPaths.{has_slash}
use Rattle.image_manifest.proofs.Ways.{or_false}
use Rattle.directory_walk.specs.Trees.{Tree, Nil, Leaf, Branch, Name, name, join, all_below}
use Rattle.build_commands.specs.Scans.{HasLawfulNames, IsNew}

-- Nothing, or a slash and more.
abbrev IsTail : List ℕ → Type 0
IsTail r = (r ≡ []) ⊎ ((s : List ℕ) × (r ≡ 47 ∷ s))

no_tail : (c : ℕ) (cs : List ℕ) → has_slash (c ∷ cs) ≡ false → (r s : List ℕ) → IsTail r → r ≡ c ∷ s → ⊥
no_tail c cs h r s (inl e) g = cc
no_tail c cs h r s (inr (t, e)) g =
    let same : 47 ≡ c = head (sym e ∙ g) in
    let no : eqb c 47 ≡ false = (or_false (eqb c 47) (has_slash cs) h).0 in
    absurd (yes (subst (λ (n : ℕ). eqb n 47 ≡ false) (sym same) no))
  where
    head : {x y : ℕ} {xs ys : List ℕ} → x ∷ xs ≡ y ∷ ys → x ≡ y
    head i = cc

    yes : eqb 47 47 ≡ false → ⊥
    yes i = cc

-- names without a slash in front of tails are the same if both are the same
same_name : (n m r s : List ℕ) → has_slash n ≡ false → has_slash m ≡ false → IsTail r → IsTail s
    → n ++ r ≡ m ++ s → n ≡ m
same_name [] [] r s h k i j e = refl
same_name [] (c ∷ cs) r s h k i j e = absurd (no_tail c cs k r (cs ++ s) i e)
same_name (b ∷ bs) [] r s h k i j e = absurd (no_tail b bs h s (bs ++ r) j (sym e))
same_name (b ∷ bs) (c ∷ cs) r s h k i j e =
    (λ t. first e t ∷ same_name bs cs r s (or_false (eqb b 47) (has_slash bs) h).1
    (or_false (eqb c 47) (has_slash cs) k).1 i j (rest e) t)
  where
    first : {x y : ℕ} {xs ys : List ℕ} → x ∷ xs ≡ y ∷ ys → x ≡ y
    first f = cc

    rest : {x y : ℕ} {xs ys : List ℕ} → x ∷ xs ≡ y ∷ ys → xs ≡ ys
    rest f = cc

-- The path is that of the entry n of the directory q, or below it; the tree has this entry.
record IsUnder (q : List ℕ) (t : Tree Bool) (e : Name Bool) : Type 0 where
  first : List ℕ
  tail : List ℕ
  path : e.path ≡ join q first ++ tail
  is_tail : IsTail tail
  plain : has_slash first ≡ false
  old : (n : List ℕ) → IsNew n t → n ≡ first → ⊥

under : (q : List ℕ) (t : Tree Bool) → HasLawfulNames t → All (IsUnder q t) (all_below q t)
under q Nil h = All-nil (IsUnder q Nil)
under q (Leaf n known more) h =
    let t : Tree Bool = Leaf n known more in
    let head : Name Bool = name (join q n) known false in
    All-cons (IsUnder q t) head (all_below q more)
    (record {
      first = n;
      tail = [];
      path = sym (append-nil (join q n));
      is_tail = inl refl;
      plain = h.0.no_slash;
      old = λ m new. new.0;
    })
    (λ k d l. let u = under q more h.2 k d l in record {
      first = u.first;
      tail = u.tail;
      path = u.path;
      is_tail = u.is_tail;
      plain = u.plain;
      old = λ m new. u.old m new.1;
    })
under q (Branch n known inner more) h =
    let t : Tree Bool = Branch n known inner more in
    let head : Name Bool = name (join q n) known true in
    All-cons (IsUnder q t) head (all_below (join q n) inner ++ all_below q more)
    (record {
      first = n;
      tail = [];
      path = sym (append-nil (join q n));
      is_tail = inl refl;
      plain = h.0.no_slash;
      old = λ m new. new.0;
    })
    (All-append (IsUnder q t) (all_below (join q n) inner) (all_below q more)
    (λ k d l. let u = under (join q n) inner h.3 k d l in record {
      first = n;
      tail = 47 ∷ (u.first ++ u.tail);
      path = u.path ∙ append_assoc (join q n) (47 ∷ u.first) u.tail;
      is_tail = inr (u.first ++ u.tail, refl);
      plain = h.0.no_slash;
      old = λ m new. new.0;
    })
    (λ k d l. let u = under q more h.4 k d l in record {
      first = u.first;
      tail = u.tail;
      path = u.path;
      is_tail = u.is_tail;
      plain = u.plain;
      old = λ m new. u.old m new.1;
    }))

-- two entries at or below entries of different names have different paths
apart : (q n m r s : List ℕ) → has_slash n ≡ false → has_slash m ≡ false → IsTail r → IsTail s
    → join q n ++ r ≡ join q m ++ s → n ≡ m
apart q n m r s h k i j e =
    same_name n m r s h k i j
    (rest (append_cancel_left q (47 ∷ (n ++ r)) (47 ∷ (m ++ s))
    (sym (append_assoc q (47 ∷ n) r) ∙ e ∙ append_assoc q (47 ∷ m) s)))
  where
    rest : {x y : ℕ} {xs ys : List ℕ} → x ∷ xs ≡ y ∷ ys → xs ≡ ys
    rest f = cc

abbrev Differs : Name Bool → Name Bool → Type 0
Differs x y = y.path ≡ x.path → ⊥

-- no two have one path
abbrev AllDiffer : List (Name Bool) → Type 0
AllDiffer [] = ⊤
AllDiffer (x ∷ xs) = All (Differs x) xs × AllDiffer xs

joined : (xs ys : List (Name Bool)) → AllDiffer xs → AllDiffer ys → All (λ x. All (Differs x) ys) xs
    → AllDiffer (xs ++ ys)
joined [] ys a b h = b
joined (x ∷ xs) ys a b h = (
  All-append (Differs x) xs ys a.0 (h zero x (omega arith)),
  joined xs ys a.1 b (λ k d l. h (suc k) d (omega arith)),
)

longer : (q r : List ℕ) → q ++ 47 ∷ r ≡ q → ⊥
longer [] r e = cc
longer (b ∷ q) r e = longer q r (rest e)
  where
    rest : {x y : ℕ} {xs ys : List ℕ} → x ∷ xs ≡ y ∷ ys → xs ≡ ys
    rest f = cc

all_differ : (q : List ℕ) (t : Tree Bool) → HasLawfulNames t → AllDiffer (all_below q t)
all_differ q Nil h = tt
all_differ q (Leaf n known more) h = (
  (λ k d l e. let u = under q more h.2 k d l in
      u.old n h.1 (apart q n u.first [] u.tail h.0.no_slash u.plain (inl refl) u.is_tail
      (append-nil (join q n) ∙ sym e ∙ u.path))),
  all_differ q more h.2,
)
all_differ q (Branch n known inner more) h =
    let deeper : List (Name Bool) = all_below (join q n) inner in
    let later : List (Name Bool) = all_below q more in (
      All-append (Differs (name (join q n) known true)) deeper later
          (λ k d l e. let u = under (join q n) inner h.3 k d l in
          longer (join q n) (u.first ++ u.tail)
          (sym (append_assoc (join q n) (47 ∷ u.first) u.tail) ∙ sym u.path ∙ e))
          (λ k d l e. let u = under q more h.4 k d l in
          u.old n h.1 (apart q n u.first [] u.tail h.0.no_slash u.plain (inl refl) u.is_tail
          (append-nil (join q n) ∙ sym e ∙ u.path))),
      joined deeper later (all_differ (join q n) inner h.3) (all_differ q more h.4)
          (λ k d l i c m e. let u = under (join q n) inner h.3 k d l in let v = under q more h.4 i c m in
          v.old n h.1 (apart q n v.first (47 ∷ (u.first ++ u.tail)) v.tail h.0.no_slash v.plain
          (inr (u.first ++ u.tail, refl)) v.is_tail
          (sym (append_assoc (join q n) (47 ∷ u.first) u.tail) ∙ sym u.path ∙ sym e ∙ v.path))),
    )

-- How many have a path.
abbrev point : Bool → ℕ
point b = if b then 1 else 0

hits : List ℕ → Name Bool → ℕ
hits p x = point (bytes_eq x.path p)

hit : (p : List ℕ) (x : Name Bool) → x.path ≡ p → hits p x ≡ 1
unfolding hits
hit p x e = ap point ((bytes_decides x.path p).1 e)

no_hit : (p : List ℕ) (x : Name Bool) → (x.path ≡ p → ⊥) → hits p x ≡ 0
unfolding hits
no_hit p x n = by (bytes_eq x.path p) refl
  where
    by : (b : Bool) → bytes_eq x.path p ≡ b → point b ≡ 0
    by true g = absurd (n ((bytes_decides x.path p).0 g))
    by false g = refl

abbrev count : List ℕ → List (Name Bool) → ℕ
count p xs = sum_by (hits p) xs

none_hit : (p : List ℕ) (xs : List (Name Bool)) → All (λ y. y.path ≡ p → ⊥) xs → count p xs ≡ 0
none_hit p [] h = refl
none_hit p (x ∷ xs) h =
    let a = no_hit p x (h zero x (omega arith)) in
    let b = none_hit p xs (λ k d l. h (suc k) d (omega arith)) in
    let c = sum_by-cons (hits p) x xs in omega (arith, a, b, c)

one_hit : (p : List ℕ) (xs : List (Name Bool)) → AllDiffer xs → count p xs ≤ 1
one_hit p [] h = omega arith
one_hit p (x ∷ xs) h = by (bytes_eq x.path p) refl (one_hit p xs h.1)
  where
    no : false ≡ true → ⊥
    no i = cc

    by : (b : Bool) → bytes_eq x.path p ≡ b → count p xs ≤ 1 → count p (x ∷ xs) ≤ 1
    by true g more =
        let e : x.path ≡ p = (bytes_decides x.path p).0 g in
        let a = hit p x e in
        let b = none_hit p xs (λ k d l f. h.0 k d l (f ∙ sym e)) in
        let c = sum_by-cons (hits p) x xs in omega (arith, a, b, c)
    by false g more =
        let n : x.path ≡ p → ⊥ = λ e. no (sym g ∙ (bytes_decides x.path p).1 e) in
        let a = no_hit p x n in
        let c = sum_by-cons (hits p) x xs in omega (arith, a, more, c)

some_hit : (p : List ℕ) (xs : List (Name Bool)) (d : Name Bool) → Contains xs d → d.path ≡ p → 1 ≤ count p xs
some_hit p [] d c e = let l = c.1 in absurd (omega (arith, l))
some_hit p (x ∷ xs) d (zero, l, g) e =
    let a = hit p x (ap (λ (n : Name Bool). n.path) g ∙ e) in
    let c = sum_by-cons (hits p) x xs in omega (arith, a, c)
some_hit p (x ∷ xs) d (suc k, l, g) e =
    let a = some_hit p xs d (k, omega (arith, l), g) e in
    let c = sum_by-cons (hits p) x xs in omega (arith, a, c)

-- in a list of the same entries in another order, an entry's path is that of none before it
pub new_path : (q : List ℕ) (t : Tree Bool) (b a : List (Name Bool)) (e d : Name Bool) → HasLawfulNames t
    → IsPermutation (all_below q t) (b ++ e ∷ a) → Contains b d → d.path ≡ e.path → ⊥
new_path q t b a e d h moved c same =
    let p : List ℕ = e.path in
    let most = one_hit p (all_below q t) (all_differ q t h) in
    let kept = sum_by-IsPermutation (hits p) (all_below q t) (b ++ e ∷ a) moved in
    let both = sum_by-append (hits p) b (e ∷ a) in
    let one = some_hit p b d c same in
    let other = hit p e refl in
    let more = sum_by-cons (hits p) e a in omega (arith, most, kept, both, one, other, more)
