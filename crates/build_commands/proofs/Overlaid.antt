-- The last file of each path, of files that are sorted by their paths.
use Rattle.std.proofs.Common.{◌≡◌, ℕ, ◌+◌, Bool, true, false, cond, Ordering, Less, Equal, Greater, List, [], ◌∷◌}
use Rattle.std.proofs.Common.{◌++◌, get_or, suc, refl, sym, ap, ap₂, subst, append_assoc, append-nil, Option, Some}
use Rattle.std.proofs.Common.{None, ◌∙◌, arith}
use Rattle.std.specs.Prelude.{⊤, not, ◌&&◌}
use mathlib.Core.Bool.{beq}
use Rattle.std.specs.Cmp.Lexicographic.{slice_cmp}
use Rattle.std.specs.List.Sorted.{IsStableBy, ties}
use Rattle.std.specs.Ordering.{nat_cmp, is_lt, is_eq, ordering_reverse}
use Rattle.std.specs.Str.{bytes_eq}
use Rattle.std.proofs.lemmas.Bool.{cases_Bool}
use Rattle.std.proofs.lemmas.Cmp.{nat_list_cmp_total, tied_itself}
use Rattle.std.proofs.lemmas.List.Elements.{All-head, All-same, filter-append, filter_agree, filter_passes}
use Rattle.std.proofs.lemmas.Map.Text.{is_eq-slice_cmp}
use Rattle.std.proofs.lemmas.Slice.Eq.{bytes_eq-Decides}
use mathlib.Core.Logic.{⊎_elim}
use Rattle.build_commands.specs.Inventory.{path_of}
use Rattle.build_commands.specs.Overlay.{AreApart, has_path, named, last_of, AreSorted, AreInOrder, IsBefore, AreLaid}
use Rattle.build_commands.specs.Overlay.{IsMixed, IsRefused, is_directory}
use Rattle.build_commands.specs.declared.overlay.OverlayError.{OverlayError}
use Rattle.build_commands.specs.declared.overlay.OverlayError.TheVariants as error
use Rattle.build_commands.specs.declared.inventory.NamedFile.{NamedFile}

abbrev R : List ℕ → List ℕ → Ordering
R = slice_cmp nat_cmp

-- ---- paths

back_less : (x y : List ℕ) (o : Ordering) → R x y ≡ o → is_lt o ≡ false → is_eq o ≡ false → R y x ≡ Less
back_less x y Less e l q = absurd cc
back_less x y Equal e l q = absurd cc
back_less x y Greater e l q = nat_list_cmp_total.antisymm y x ∙ ap ordering_reverse e

-- a path that is not after another one, and not equal to it, is before it
pub later : (x y : List ℕ) → is_lt (R y x) ≡ false → bytes_eq y x ≡ false → R x y ≡ Less
later x y up ne = back_less y x (R y x) refl up (is_eq-slice_cmp y x ∙ ne)

pub apart : (x y : List ℕ) → R x y ≡ Less → bytes_eq x y ≡ false
apart x y e = sym (is_eq-slice_cmp x y) ∙ ap is_eq e

apart_back : (x y : List ℕ) → R x y ≡ Less → bytes_eq y x ≡ false
apart_back x y e = sym (is_eq-slice_cmp y x) ∙ ap is_eq (nat_list_cmp_total.antisymm y x ∙ ap ordering_reverse e)

pub same_path : (x y : List ℕ) → bytes_eq x y ≡ true → x ≡ y
same_path x y e = (bytes_eq-Decides x y).0 e

pub itself : (x : List ℕ) → bytes_eq x x ≡ true
itself x = sym (is_eq-slice_cmp x x) ∙ ap is_eq (tied_itself nat_list_cmp_total x)

-- ---- sorted files, by recursion

abbrev IsNotAfter : NamedFile → List NamedFile → Type 0
IsNotAfter f [] = ⊤
IsNotAfter f (g ∷ fs) = is_lt (R (path_of g) (path_of f)) ≡ false

abbrev pub Rise : List NamedFile → Type 0
Rise [] = ⊤
Rise (f ∷ fs) = IsNotAfter f fs × Rise fs

first_two : (f : NamedFile) (fs : List NamedFile) → AreSorted (f ∷ fs) → IsNotAfter f fs
first_two f [] up = tt
first_two f (g ∷ fs) up = up 0 f (omega arith) (omega arith)

sorted_rest : (f : NamedFile) (fs : List NamedFile) → AreSorted (f ∷ fs) → AreSorted fs
sorted_rest f fs up k d low high =
    let e : suc k + 1 ≡ suc (k + 1) = omega arith in
    subst (λ (j : ℕ). is_lt (R (path_of (get_or (f ∷ fs) j d)) (path_of (get_or fs k d))) ≡ false) e
    (up (suc k) d (omega arith) (omega arith))

pub rise : (fs : List NamedFile) → AreSorted fs → Rise fs
rise [] up = tt
rise (f ∷ fs) up = (first_two f fs up, rise fs (sorted_rest f fs up))

-- ---- the last ones

abbrev pub lasts : List NamedFile → List NamedFile
lasts [] = []
lasts (f ∷ []) = f ∷ []
lasts (f ∷ g ∷ fs) = cond (bytes_eq (path_of f) (path_of g)) (lasts (g ∷ fs)) (f ∷ lasts (g ∷ fs))

-- equality of paths in the other direction
apart_from : (x y : List ℕ) → bytes_eq x y ≡ false → bytes_eq y x ≡ false
apart_from x y e =
    ⊎_elim
    (λ (t : bytes_eq y x ≡ true). absurd (let d : y ≡ x = same_path y x t in
    let s : bytes_eq x y ≡ true = subst (λ (v : List ℕ). bytes_eq v y ≡ true) d (itself y) in cc))
    (λ (t : bytes_eq y x ≡ false). t)
    (cases_Bool (bytes_eq y x))

before_next : (f : NamedFile) (fs : List NamedFile) (p : List ℕ) → IsNotAfter f fs → R p (path_of f) ≡ Less
    → IsBefore p fs
before_next f [] p up low = tt
before_next f (g ∷ fs) p up low =
    ⊎_elim
    (λ (t : bytes_eq (path_of g) (path_of f) ≡ true).
    subst (λ (q : List ℕ). R p q ≡ Less) (sym (same_path _ _ t)) low)
    (λ (t : bytes_eq (path_of g) (path_of f) ≡ false).
    nat_list_cmp_total.trans p (path_of f) (path_of g) low (later (path_of f) (path_of g) up t))
    (cases_Bool (bytes_eq (path_of g) (path_of f)))

one_named : (f : NamedFile) (p : List ℕ) → named p (f ∷ []) ≡ last_of (named p (f ∷ []))
one_named f p =
    let P : Bool → Type 0 = λ b. cond b (f ∷ []) [] ≡ last_of (cond b (f ∷ []) []) in
    ⊎_elim
    (λ (t : has_path p f ≡ true). subst P (sym t) refl)
    (λ (t : has_path p f ≡ false). subst P (sym t) refl)
    (cases_Bool (has_path p f))

dropped_first : (f g : NamedFile) (fs : List NamedFile) (p : List ℕ) → path_of f ≡ path_of g
    → last_of (named p (f ∷ g ∷ fs)) ≡ last_of (named p (g ∷ fs))
dropped_first f g fs p e =
    let rest : Bool → List NamedFile = λ b. cond b (g ∷ named p fs) (named p fs) in
    let P : Bool → Type 0 = λ b. last_of (cond b (f ∷ rest b) (rest b))
    ≡ last_of (cond b (g ∷ named p fs) (named p fs)) in
    let h : has_path p f ≡ has_path p g = ap (λ (q : List ℕ). bytes_eq q p) e in
    let more : List NamedFile = named p (g ∷ fs) in
    subst (λ (b : Bool). last_of (cond b (f ∷ more) more) ≡ last_of more) (sym h)
    (⊎_elim
    (λ (t : has_path p g ≡ true). subst P (sym t) refl)
    (λ (t : has_path p g ≡ false). subst P (sym t) refl)
    (cases_Bool (has_path p g)))

kept_first : (f : NamedFile) (rest : List NamedFile) (p : List ℕ) → named (path_of f) rest ≡ []
    → named p (lasts rest) ≡ last_of (named p rest)
    → named p (f ∷ lasts rest) ≡ last_of (named p (f ∷ rest))
kept_first f rest p none more =
    let P : Bool → Type 0 = λ b. cond b (f ∷ named p (lasts rest)) (named p (lasts rest))
    ≡ last_of (cond b (f ∷ named p rest) (named p rest)) in
    ⊎_elim
    (λ (t : has_path p f ≡ true).
    let e : path_of f ≡ p = same_path _ _ t in
    let empty : named p rest ≡ [] = subst (λ (q : List ℕ). named q rest ≡ []) e none in
    let left : named p (lasts rest) ≡ [] = more ∙ ap last_of empty in
    subst P (sym t)
    (ap (λ (v : List NamedFile). f ∷ v) left ∙ sym (ap (λ (v : List NamedFile). last_of (f ∷ v)) empty)))
    (λ (t : has_path p f ≡ false). subst P (sym t) more)
    (cases_Bool (has_path p f))

-- the first of the last ones has the path of the first file
first_last : (g : NamedFile) (fs : List NamedFile) → (p : List ℕ) → R p (path_of g) ≡ Less
    → IsBefore p (lasts (g ∷ fs))
first_last g [] p e = e
first_last g (h ∷ fs) p e =
    let P : Bool → Type 0 = λ b. IsBefore p (cond b (lasts (h ∷ fs)) (g ∷ lasts (h ∷ fs))) in
    ⊎_elim
    (λ (t : bytes_eq (path_of g) (path_of h) ≡ true).
    subst P (sym t) (first_last h fs p (subst (λ (q : List ℕ). R p q ≡ Less) (same_path _ _ t) e)))
    (λ (t : bytes_eq (path_of g) (path_of h) ≡ false). subst P (sym t) e)
    (cases_Bool (bytes_eq (path_of g) (path_of h)))

pub lasts_in_order : (fs : List NamedFile) → Rise fs → AreInOrder (lasts fs)
lasts_in_order [] up = tt
lasts_in_order (f ∷ []) up = (tt, tt)
lasts_in_order (f ∷ g ∷ fs) up =
    let P : Bool → Type 0 = λ b. AreInOrder (cond b (lasts (g ∷ fs)) (f ∷ lasts (g ∷ fs))) in
    let more = lasts_in_order (g ∷ fs) up.1 in
    ⊎_elim
    (λ (t : bytes_eq (path_of f) (path_of g) ≡ true). subst P (sym t) more)
    (λ (t : bytes_eq (path_of f) (path_of g) ≡ false).
    subst P (sym t) (
      first_last g fs (path_of f)
          (later (path_of f) (path_of g) up.0 (apart_from (path_of f) (path_of g) t)),
      more,
    ))
    (cases_Bool (bytes_eq (path_of f) (path_of g)))

-- no later file has a path that is before all of them
pub none_named : (fs : List NamedFile) (p : List ℕ) → Rise fs → IsBefore p fs → named p fs ≡ []
none_named [] p up low = refl
none_named (f ∷ fs) p up low =
    let P : Bool → Type 0 = λ b. cond b (f ∷ named p fs) (named p fs) ≡ [] in
    subst P (sym (apart_back p (path_of f) low)) (none_named fs p up.1 (before_next f fs p up.0 low))

-- exactly the last of each path is left
pub last_named : (fs : List NamedFile) → Rise fs → (p : List ℕ) → named p (lasts fs) ≡ last_of (named p fs)
last_named [] up p = refl
last_named (f ∷ []) up p = one_named f p
last_named (f ∷ g ∷ fs) up p =
    let rest : List NamedFile = g ∷ fs in
    let more = last_named (g ∷ fs) up.1 p in
    let P : Bool → Type 0 = λ b. named p (cond b (lasts rest) (f ∷ lasts rest)) ≡ last_of (named p (f ∷ rest)) in
    ⊎_elim
    (λ (t : bytes_eq (path_of f) (path_of g) ≡ true). subst P (sym t)
    (more ∙ sym (dropped_first f g fs p (same_path _ _ t))))
    (λ (t : bytes_eq (path_of f) (path_of g) ≡ false). subst P (sym t)
    (kept_first f rest p (none_named rest (path_of f) up.1
    (later (path_of f) (path_of g) up.0 (apart_from (path_of f) (path_of g) t))) more))
    (cases_Bool (bytes_eq (path_of f) (path_of g)))

-- ---- files of one path stay in their order

tie_of : (o : Ordering) → (not (is_lt (ordering_reverse o)) && not (is_lt o)) ≡ is_eq o
tie_of Less = refl
tie_of Equal = refl
tie_of Greater = refl

tie_is : (x y : List ℕ) → (not (is_lt (R x y)) && not (is_lt (R y x))) ≡ bytes_eq y x
tie_is x y =
    ap (λ (o : Ordering). not (is_lt o) && not (is_lt (R y x))) (nat_list_cmp_total.antisymm x y)
    ∙ tie_of (R y x) ∙ is_eq-slice_cmp y x

abbrev is_before : NamedFile → NamedFile → Bool
is_before f g = is_lt (R (path_of f) (path_of g))

-- of a file with this path
named_as : (xs ys : List NamedFile) → IsStableBy is_before xs ys → (p : List ℕ) (f : NamedFile) → has_path p f ≡ true
    → named p ys ≡ named p xs
named_as xs ys stable p f e =
    let agree = λ (g : NamedFile). tie_is (path_of f) (path_of g)
    ∙ ap (λ (q : List ℕ). bytes_eq (path_of g) q) (same_path _ _ e) in
    sym (filter_agree (ties is_before f) (has_path p) agree ys)
    ∙ (stable f ∙ filter_agree (ties is_before f) (has_path p) agree xs)

first_has : (p : List ℕ) (fs : List NamedFile) (f : NamedFile) (more : List NamedFile) → named p fs ≡ f ∷ more
    → has_path p f ≡ true
first_has p fs f more e =
    All-head (λ (g : NamedFile). has_path p g ≡ true) f more
    (All-same (λ (g : NamedFile). has_path p g ≡ true) (f ∷ more) (named p fs) (sym e) (filter_passes (has_path p) fs))

by_first : (xs ys : List NamedFile) → IsStableBy is_before xs ys → (p : List ℕ) (us vs : List NamedFile)
    → named p ys ≡ us → named p xs ≡ vs → named p ys ≡ named p xs
by_first xs ys stable p [] [] d e = d ∙ sym e
by_first xs ys stable p (f ∷ us) vs d e = named_as xs ys stable p f (first_has p ys f us d)
by_first xs ys stable p [] (f ∷ vs) d e = named_as xs ys stable p f (first_has p xs f vs e)

pub named_kept : (xs ys : List NamedFile) → IsStableBy is_before xs ys → (p : List ℕ) → named p ys ≡ named p xs
named_kept xs ys stable p = by_first xs ys stable p (named p ys) (named p xs) refl refl

-- ---- one file after the other

abbrev pub with_held : Option NamedFile → List NamedFile → List NamedFile
with_held None fs = fs
with_held (Some g) fs = g ∷ fs

-- neighbours of one path are all directories, or none
abbrev pub AreAlike : List NamedFile → Type 0
AreAlike [] = ⊤
AreAlike (f ∷ []) = ⊤
AreAlike (g ∷ f ∷ fs) =
    (bytes_eq (path_of g) (path_of f) ≡ true → is_directory g ≡ is_directory f) × AreAlike (f ∷ fs)

alike_rest : (f : NamedFile) (fs : List NamedFile) → AreAlike (f ∷ fs) → AreAlike fs
alike_rest f [] a = tt
alike_rest f (g ∷ fs) a = a.1

pub alike_more : (xs : List NamedFile) (g f : NamedFile) → AreAlike (xs ++ g ∷ [])
    → (bytes_eq (path_of g) (path_of f) ≡ true → is_directory g ≡ is_directory f) → AreAlike ((xs ++ g ∷ []) ++ f ∷ [])
alike_more [] g f a k = (k, tt)
alike_more (x ∷ []) g f a k = (a.0, (k, tt))
alike_more (x ∷ y ∷ xs) g f a k = (a.0, alike_more (y ∷ xs) g f a.1 k)

-- if the first file has a path, the next one of that path follows it
next_named : (p : List ℕ) (x : NamedFile) (xs after : List NamedFile) (f : NamedFile) → has_path p x ≡ true
    → Rise (x ∷ xs) → AreAlike (x ∷ xs) → named p xs ≡ f ∷ after → is_directory x ≡ is_directory f
next_named p x [] after f t up a e = absurd cc
next_named p x (y ∷ ys) after f t up a e =
    let px : path_of x ≡ p = same_path _ _ t in
    ⊎_elim
    (λ (s : has_path p y ≡ true).
    let first : y ∷ named p ys ≡ f ∷ after =
    subst (λ (b : Bool). cond b (y ∷ named p ys) (named p ys) ≡ f ∷ after) s e
    in
    let is : y ≡ f = cc in
    a.0 (subst (λ (q : List ℕ). bytes_eq q (path_of y) ≡ true) (sym px)
    (subst (λ (q : List ℕ). bytes_eq p q ≡ true) (sym (same_path _ _ s)) (itself p))) ∙ ap is_directory is)
    (λ (s : has_path p y ≡ false).
    let ne : bytes_eq (path_of y) (path_of x) ≡ false = ap (λ (q : List ℕ). bytes_eq (path_of y) q) px ∙ s in
    let low : R p (path_of y) ≡ Less =
    subst (λ (q : List ℕ). R q (path_of y) ≡ Less) px (later (path_of x) (path_of y) up.0 ne)
    in
    let none : named p (y ∷ ys) ≡ [] = none_named (y ∷ ys) p up.1 low in
    absurd cc)
    (cases_Bool (has_path p y))

first_or_later : (p : List ℕ) (x : NamedFile) (xs before after : List NamedFile) (g f : NamedFile) → has_path p x ≡ true
    → Rise (x ∷ xs) → AreAlike (x ∷ xs) → x ∷ named p xs ≡ before ++ g ∷ f ∷ after
    → ((bs : List NamedFile) → named p xs ≡ bs ++ g ∷ f ∷ after → is_directory g ≡ is_directory f)
    → is_directory g ≡ is_directory f
first_or_later p x xs [] after g f t up a e more =
    let is : x ≡ g = cc in
    let rest : named p xs ≡ f ∷ after = cc in
    sym (ap is_directory is) ∙ next_named p x xs after f t up a rest
first_or_later p x xs (b ∷ before) after g f t up a e more =
    let rest : named p xs ≡ before ++ g ∷ f ∷ after = cc in
    more before rest

-- neighbours among the files of one path are alike
named_alike : (p : List ℕ) (fs before after : List NamedFile) (g f : NamedFile) → Rise fs → AreAlike fs
    → named p fs ≡ before ++ g ∷ f ∷ after → is_directory g ≡ is_directory f
named_alike p [] [] after g f up a e = absurd cc
named_alike p [] (b ∷ before) after g f up a e = absurd cc
named_alike p (x ∷ xs) before after g f up a e =
    ⊎_elim
    (λ (t : has_path p x ≡ true).
    first_or_later p x xs before after g f t up a
    (subst (λ (b : Bool). cond b (x ∷ named p xs) (named p xs) ≡ before ++ g ∷ f ∷ after) t e)
    (λ bs. named_alike p xs bs after g f up.1 (alike_rest x xs a)))
    (λ (t : has_path p x ≡ false).
    named_alike p xs before after g f up.1 (alike_rest x xs a)
    (subst (λ (b : Bool). cond b (x ∷ named p xs) (named p xs) ≡ before ++ g ∷ f ∷ after) t e))
    (cases_Bool (has_path p x))

pub unmixed : (fs : List NamedFile) → AreSorted fs → AreAlike fs → (f : NamedFile) → IsMixed fs f → ⊥
unmixed fs up a f m = m.kinds (named_alike (path_of f) fs m.before m.after m.g f (rise fs up) a m.neighbours)

pub all_laid : (found : List NamedFile) → AreSorted found → AreAlike found → AreLaid found (lasts found)
all_laid found up alike = record {
  order = lasts_in_order found (rise found up);
  last = λ p. last_named found (rise found up) p;
  unmixed = unmixed found up alike;
}

-- What is left of the files so far, the file that was taken last, and those to come.
pub record Holding (kept : List NamedFile) (held : Option NamedFile) (rest whole : List NamedFile) : Type 0 where
  pub laid : kept ++ lasts (with_held held rest) ≡ lasts whole
  pub before : List NamedFile
  pub all : before ++ with_held held rest ≡ whole
  pub alike : AreAlike (before ++ with_held held [])
  pub first : held ≡ None → before ≡ []

pub holds_none : (laid rest all : List NamedFile) → laid ≡ [] → rest ≡ all → Holding laid None rest all
holds_none laid rest all empty same = record {
  laid = ap (λ (v : List NamedFile). v ++ lasts rest) empty ∙ ap lasts same;
  before = [];
  all = same;
  alike = tt;
  first = λ _. refl;
}

pub holds_first : (laid laid' : List NamedFile) (held : Option NamedFile) (rest more all : List NamedFile)
    (f : NamedFile)
    → Holding laid held rest all → held ≡ None → rest ≡ f ∷ more → laid' ≡ laid → Holding laid' (Some f) more all
holds_first laid laid' held rest more all f h none next same =
    let is : with_held held rest ≡ f ∷ more = ap₂ with_held none next in
    record {
      laid = ap (λ (v : List NamedFile). v ++ lasts (f ∷ more)) same
          ∙ sym (ap (λ (v : List NamedFile). laid ++ lasts v) is) ∙ h.laid;
      before = [];
      all = sym is ∙ sym (ap (λ (v : List NamedFile). v ++ with_held held rest) (h.first none)) ∙ h.all;
      alike = tt;
      first = λ e. absurd cc;
    }

alike_so_far : (before : List NamedFile) (held : Option NamedFile) (g : NamedFile) → held ≡ Some g
    → AreAlike (before ++ with_held held []) → AreAlike (before ++ g ∷ [])
alike_so_far before held g some a = subst (λ (o : Option NamedFile). AreAlike (before ++ with_held o [])) some a

one_on : (before more all : List NamedFile) (g f : NamedFile) → before ++ g ∷ f ∷ more ≡ all
    → (before ++ g ∷ []) ++ f ∷ more ≡ all
one_on before more all g f e = append_assoc before (g ∷ []) (f ∷ more) ∙ e

pub holds_same : (laid laid' : List NamedFile) (held : Option NamedFile) (rest more all : List NamedFile)
    (g f : NamedFile)
    → Holding laid held rest all → held ≡ Some g → rest ≡ f ∷ more → bytes_eq (path_of g) (path_of f) ≡ true
    → is_directory g ≡ is_directory f → laid' ≡ laid → Holding laid' (Some f) more all
holds_same laid laid' held rest more all g f h some next t kinds same =
    let is : with_held held rest ≡ g ∷ f ∷ more = ap₂ with_held some next in
    let was = sym (ap (λ (v : List NamedFile). laid ++ lasts v) is) ∙ h.laid in
    record {
      laid = ap (λ (v : List NamedFile). v ++ lasts (f ∷ more)) same
          ∙ subst (λ (b : Bool). laid ++ cond b (lasts (f ∷ more)) (g ∷ lasts (f ∷ more)) ≡ lasts all) t was;
      before = h.before ++ g ∷ [];
      all = one_on h.before more all g f (sym (ap (λ (v : List NamedFile). h.before ++ v) is) ∙ h.all);
      alike = alike_more h.before g f (alike_so_far h.before held g some h.alike) (λ _. kinds);
      first = λ e. absurd cc;
    }

pub holds_other : (laid laid' : List NamedFile) (held : Option NamedFile) (rest more all : List NamedFile)
    (g f : NamedFile)
    → Holding laid held rest all → held ≡ Some g → rest ≡ f ∷ more → bytes_eq (path_of g) (path_of f) ≡ false
    → laid' ≡ laid ++ g ∷ [] → Holding laid' (Some f) more all
holds_other laid laid' held rest more all g f h some next t push =
    let is : with_held held rest ≡ g ∷ f ∷ more = ap₂ with_held some next in
    let was = sym (ap (λ (v : List NamedFile). laid ++ lasts v) is) ∙ h.laid in
    record {
      laid = ap (λ (v : List NamedFile). v ++ lasts (f ∷ more)) push ∙ append_assoc laid (g ∷ []) (lasts (f ∷ more))
          ∙ subst (λ (b : Bool). laid ++ cond b (lasts (f ∷ more)) (g ∷ lasts (f ∷ more)) ≡ lasts all) t was;
      before = h.before ++ g ∷ [];
      all = one_on h.before more all g f (sym (ap (λ (v : List NamedFile). h.before ++ v) is) ∙ h.all);
      alike = alike_more h.before g f (alike_so_far h.before held g some h.alike) (λ e. absurd cc);
      first = λ e. absurd cc;
    }

pub laid_last : (laid laid' : List NamedFile) (held : Option NamedFile) (rest all : List NamedFile) (g : NamedFile)
    → AreSorted all → Holding laid held rest all → held ≡ Some g → rest ≡ [] → laid' ≡ laid ++ g ∷ []
    → AreLaid all laid'
laid_last laid laid' held rest all g up h some end push =
    let is : with_held held rest ≡ g ∷ [] = ap₂ with_held some end in
    subst (λ (v : List NamedFile). AreLaid all v)
    (sym (push ∙ sym (ap (λ (v : List NamedFile). laid ++ lasts v) is) ∙ h.laid))
    (all_laid all up (subst AreAlike (sym (ap (λ (v : List NamedFile). h.before ++ v) is) ∙ h.all)
    (alike_so_far h.before held g some h.alike)))

pub laid_none : (laid laid' : List NamedFile) (held : Option NamedFile) (rest all : List NamedFile)
    → AreSorted all → Holding laid held rest all → held ≡ None → rest ≡ [] → laid' ≡ laid → AreLaid all laid'
laid_none laid laid' held rest all up h none end same =
    let is : with_held held rest ≡ [] = ap₂ with_held none end in
    subst (λ (v : List NamedFile). AreLaid all v)
    (sym (same ∙ sym (append-nil laid) ∙ sym (ap (λ (v : List NamedFile). laid ++ lasts v) is) ∙ h.laid))
    (all_laid all up (subst AreAlike (sym (ap₂ (λ (u v : List NamedFile). u ++ v) (h.first none) is) ∙ h.all) tt))

mixed_after : (found sorted : List NamedFile) → ((p : List ℕ) → named p sorted ≡ named p found) → (f : NamedFile)
    → IsMixed found f → IsMixed sorted f
mixed_after found sorted same f m = record {
  before = m.before;
  g = m.g;
  after = m.after;
  neighbours = same (path_of f) ∙ m.neighbours;
  kinds = m.kinds;
}

pub laid_before : (found sorted laid : List NamedFile) → ((p : List ℕ) → named p sorted ≡ named p found)
    → AreLaid sorted laid → AreLaid found laid
laid_before found sorted laid same l = record {
  order = l.order;
  last = λ p. l.last p ∙ ap last_of (same p);
  unmixed = λ f m. l.unmixed f (mixed_after found sorted same f m);
}

apart_rest : (f : NamedFile) (fs : List NamedFile) → AreApart (f ∷ fs) → AreApart fs
apart_rest f fs ne k d l =
    let e : suc k + 1 ≡ suc (k + 1) = omega arith in
    subst (λ (j : ℕ). bytes_eq (path_of (get_or fs k d)) (path_of (get_or (f ∷ fs) j d)) ≡ false) e
    (ne (suc k) d (omega (arith, l)))

apart_alike : (fs : List NamedFile) → AreApart fs → AreAlike fs
apart_alike [] ne = tt
apart_alike (f ∷ []) ne = tt
apart_alike (f ∷ g ∷ fs) ne =
    let t : bytes_eq (path_of f) (path_of g) ≡ false = ne 0 f (omega arith) in
    (λ e. absurd cc, apart_alike (g ∷ fs) (apart_rest f (g ∷ fs) ne))

-- if all neighbours differ, all files are left
pub all_last : (fs : List NamedFile) → AreApart fs → lasts fs ≡ fs
all_last [] ne = refl
all_last (f ∷ []) ne = refl
all_last (f ∷ g ∷ fs) ne =
    let t : bytes_eq (path_of f) (path_of g) ≡ false = ne 0 f (omega arith) in
    ap (λ (b : Bool). cond b (lasts (g ∷ fs)) (f ∷ lasts (g ∷ fs))) t
    ∙ ap (λ (v : List NamedFile). f ∷ v) (all_last (g ∷ fs) (apart_rest f (g ∷ fs) ne))

pub laid_itself : (found sorted : List NamedFile) → ((p : List ℕ) → named p sorted ≡ named p found) → AreSorted sorted
    → AreApart sorted → AreLaid found sorted
laid_itself found sorted same up ne =
    laid_before found sorted sorted same
    (subst (λ (v : List NamedFile). AreLaid sorted v) (all_last sorted ne) (all_laid sorted up (apart_alike sorted ne)))

-- of two neighbours of one path, one is a directory, and the other one is not
are_mixed : (found before rest : List NamedFile) (g f : NamedFile) → before ++ g ∷ f ∷ rest ≡ found
    → bytes_eq (path_of g) (path_of f) ≡ true → (is_directory g ≡ is_directory f → ⊥) → IsMixed found f
are_mixed found before rest g f e t kinds =
    let p : List ℕ = path_of f in
    let first : named p (g ∷ f ∷ rest) ≡ g ∷ f ∷ named p rest =
    ap (λ (b : Bool). cond b (g ∷ named p (f ∷ rest)) (named p (f ∷ rest))) t
    ∙ ap (λ (b : Bool). g ∷ cond b (f ∷ named p rest) (named p rest)) (itself p)
    in
    record {
      before = named p before;
      g = g;
      after = named p rest;
      neighbours = ap (named p) (sym e) ∙ filter-append (has_path p) before (g ∷ f ∷ rest)
          ∙ ap (λ (v : List NamedFile). named p before ++ v) first;
      kinds = kinds;
    }

differ : (a b x y : Bool) → not (beq a b) ≡ true → a ≡ x → b ≡ y → x ≡ y → ⊥
differ true true x y h p q e = absurd cc
differ false false x y h p q e = absurd cc
differ true false x y h p q e = absurd cc
differ false true x y h p q e = absurd cc

pub agree : (a b x y : Bool) → not (beq a b) ≡ false → a ≡ x → b ≡ y → x ≡ y
agree true true x y h p q = sym p ∙ q
agree false false x y h p q = sym p ∙ q
agree true false x y h p q = absurd cc
agree false true x y h p q = absurd cc

pub mixed : (laid : List NamedFile) (held : Option NamedFile) (rest more all : List NamedFile) (g f : NamedFile)
    (a b : Bool) → Holding laid held rest all → held ≡ Some g → rest ≡ f ∷ more
    → bytes_eq (path_of g) (path_of f) ≡ true → not (beq a b) ≡ true → a ≡ is_directory g → b ≡ is_directory f
    → IsMixed all f
mixed laid held rest more all g f a b h some next t other one two =
    are_mixed all h.before more g f
    (sym (ap (λ (v : List NamedFile). h.before ++ v) (ap₂ with_held some next)) ∙ h.all) t
    (differ a b (is_directory g) (is_directory f) other one two)

-- the same of files in another order, if those of each path stay in theirs
pub mixed_before : (found sorted : List NamedFile) → ((p : List ℕ) → named p sorted ≡ named p found) → (f : NamedFile)
    → IsMixed sorted f → IsMixed found f
mixed_before found sorted same f m = record {
  before = m.before;
  g = m.g;
  after = m.after;
  neighbours = sym (same (path_of f)) ∙ m.neighbours;
  kinds = m.kinds;
}

pub refused_before : (found sorted : List NamedFile) → ((p : List ℕ) → named p sorted ≡ named p found)
    → (e : OverlayError) → IsRefused sorted e → IsRefused found e
refused_before found sorted same error.OutOfMemory r = tt
refused_before found sorted same (error.Kinds f) r = mixed_before found sorted same f r
