-- The members that patterns choose, index by index.
use Rattle.std.proofs.Common.{◌≡◌, ℕ, zero, suc, ◌+◌, ◌<◌, ◌≤◌, ◌&&◌, ◌||◌, ◌==◌, Bool, true, false, cond, List, []}
use Rattle.std.proofs.Common.{◌∷◌, ◌++◌, length, get_or, nat_lt, Option, Some, None, refl, ap, sym, ◌∙◌, arith, map}
use Rattle.std.proofs.Common.{inl, inr, ◌⊎◌, length-append}
use Rattle.std.proofs.Math.Seq.{get_or-append_seam}
use Rattle.std.proofs.lemmas.Bool.{eqb-true, eq-eqb, ltb-true, ltb-false, or_left, or_right}
use Rattle.std.proofs.lemmas.List.{get_or_append_left}
use Rattle.path_patterns.specs.declared.pattern.Piece.{Piece}
use Rattle.image_manifest.specs.declared.naming.Member.{Member}
use Rattle.image_manifest.specs.Chosen.{earlier, directory_at, is_chosen_by, is_at, is_named, IsWanted, named, within}
use Rattle.image_manifest.specs.Chosen.{AreWanted, IsOnWay, wanted, above, AreChosen}
use Rattle.tree_extract.specs.Choices.{is_chosen}

some_same : (a b : ℕ) → Some a ≡ Some b → a ≡ b
some_same a b h = cc

earlier_below : (i : ℕ) (o : Option ℕ) (k : ℕ) → earlier i o ≡ Some k → k < i
earlier_below i None k is = absurd (cc)
earlier_below i (Some p) k is = by (nat_lt p i) refl is
  where
    by : (b : Bool) → nat_lt p i ≡ b → cond b (Some p) None ≡ Some k → k < i
    by true b_is is =
        let at = some_same p k is in
        let l = ltb-true p i b_is in
        omega (arith, at, l)
    by false b_is is = absurd (cc)

-- a directory is an earlier member
pub directory_below : (ms : List Member) (i k : ℕ) → directory_at ms i ≡ Some k → k < i
directory_below ms i k is = earlier_below i (get_or (map (λ (m : Member). m.parent) ms) i None) k is

either : (a b : Bool) → (a || b) ≡ true → (a ≡ true) ⊎ (b ≡ true)
either true b h = inl refl
either false b h = inr h

-- ---- wanted members

-- of each index below n it is known whether it is wanted
abbrev pub AreKnown : List (List Piece) → List Member → ℕ → List Bool → Type 0
AreKnown ps ms n cs =
    (j : ℕ) → j < n → is_chosen cs j ≡ (is_named ps ms j || is_chosen_by cs (directory_at ms j))

module _ (ps : List (List Piece)) (ms : List Member) (n : ℕ) (cs : List Bool) (b : Bool) (many : length cs ≡ n)
  where
    chosen_before : (j : ℕ) → j < n → is_chosen (cs ++ b ∷ []) j ≡ is_chosen cs j
    chosen_before j h = get_or_append_left cs (b ∷ []) false j (omega (arith, h, many))

    by_before : (o : Option ℕ) → ((k : ℕ) → o ≡ Some k → k < n) → is_chosen_by (cs ++ b ∷ []) o ≡ is_chosen_by cs o
    by_before None below = refl
    by_before (Some k) below = chosen_before k (below k refl)

    le_or : (j : ℕ) → j < suc n → (j < n) ⊎ (j ≡ n)
    le_or j h = by (nat_lt j n) refl
      where
        by : (b : Bool) → nat_lt j n ≡ b → (j < n) ⊎ (j ≡ n)
        by true is = inl (ltb-true j n is)
        by false is = let l = ltb-false j n is in inr (omega (arith, h, l))

    pub known_next : AreKnown ps ms n cs → b ≡ (is_named ps ms n || is_chosen_by cs (directory_at ms n))
        → AreKnown ps ms (n + 1) (cs ++ b ∷ [])
    known_next known is = λ j h. by j (le_or j (omega (arith, h)))
      where
        by : (j : ℕ) → (j < n) ⊎ (j ≡ n)
            → is_chosen (cs ++ b ∷ []) j ≡ (is_named ps ms j || is_chosen_by (cs ++ b ∷ []) (directory_at ms j))
        by j (inl l) =
            chosen_before j l ∙ known j l
            ∙ ap (λ (v : Bool). is_named ps ms j || v)
            (sym (by_before (directory_at ms j) (λ k e. let r = directory_below ms j k e in omega (arith, r, l))))
        by j (inr at) =
            ap (is_chosen (cs ++ b ∷ [])) (at ∙ sym many) ∙ get_or-append_seam cs b [] false ∙ is
            ∙ ap (λ (v : Bool). is_named ps ms n || v)
            (sym (by_before (directory_at ms n) (λ k e. directory_below ms n k e)))
            ∙ ap (λ (i : ℕ). is_named ps ms i || is_chosen_by (cs ++ b ∷ []) (directory_at ms i)) (sym at)

pub length_next : {A : Type 0} (xs : List A) (x : A) (n : ℕ) → length xs ≡ n → length (xs ++ x ∷ []) ≡ n + 1
length_next xs x n is = let more = length-append xs (x ∷ []) in omega (arith, is, more)

module _ (ps : List (List Piece)) (ms : List Member) (cs : List Bool) (many : length cs ≡ length ms)
    (known : AreKnown ps ms (length ms) cs) where
  -- by the number of members up to it
  only_below : (bound i : ℕ) → i < bound → i < length ms → is_chosen cs i ≡ true → IsWanted ps ms i
  only_below zero i low h is = absurd (omega (arith, low))
  only_below (suc bound) i low h is =
      by (λ k l g. only_below bound k l g) (either (is_named ps ms i) (is_chosen_by cs (directory_at ms i))
      (sym (known i h) ∙ is))
    where
      up : (o : Option ℕ) → is_chosen_by cs o ≡ true → (k : ℕ) × (o ≡ Some k) × (is_chosen cs k ≡ true)
      up None is = absurd (cc)
      up (Some k) is = (k, refl, is)

      by : ((k : ℕ) → k < bound → k < length ms → is_chosen cs k ≡ true → IsWanted ps ms k)
          → (is_named ps ms i ≡ true) ⊎ (is_chosen_by cs (directory_at ms i) ≡ true) → IsWanted ps ms i
      by before (inl is_it) = named i is_it
      by before (inr is_in) =
          let r = up (directory_at ms i) is_in in
          let l = directory_below ms i r.0 r.1 in
          within i r.0 r.1 (before r.0 (omega (arith, l, low)) (omega (arith, l, h)) r.2)

  each_wanted : (i : ℕ) → i < length ms → IsWanted ps ms i → is_chosen cs i ≡ true
  each_wanted i h (named _ is) = known i h ∙ or_left (is_named ps ms i) (is_chosen_by cs (directory_at ms i)) is
  each_wanted i h (within _ k is above_it) =
      let l = directory_below ms i k is in
      let r = each_wanted k (omega (arith, l, h)) above_it in
      known i h ∙ or_right (is_named ps ms i) (is_chosen_by cs (directory_at ms i)) (ap (is_chosen_by cs) is ∙ r)

  pub are_wanted : AreWanted ps ms cs
  are_wanted = record {
    many = many;
    only = λ i h is. only_below (suc i) i (omega arith) h is;
    each = each_wanted;
  }

-- ---- the directories above them

-- what is chosen after the members from an index on were looked at
pub record IsLeft (ms : List Member) (old : List Bool) (left : ℕ) (cs : List Bool) : Type 0 where
  pub many : length cs ≡ length ms
  pub only : (ps : List (List Piece)) → AreWanted ps ms old → (j : ℕ) → j < length ms → is_chosen cs j ≡ true
      → IsOnWay ps ms j
  pub kept : (j : ℕ) → is_chosen old j ≡ true → is_chosen cs j ≡ true
  pub done : (j k : ℕ) → left ≤ j → j < length ms → is_chosen cs j ≡ true → directory_at ms j ≡ Some k
      → is_chosen cs k ≡ true

pub left_first : (ms : List Member) (old : List Bool) → length old ≡ length ms → IsLeft ms old (length ms) old
left_first ms old many = record {
  many = many;
  only = λ ps are j h is. wanted j (are.only j h is);
  kept = λ j is. is;
  done = λ j k low h is e. absurd (omega (arith, low, h));
}

module _ (ms : List Member) (old : List Bool) (i : ℕ) (cs new : List Bool) (left : IsLeft ms old (suc i) cs)
    (inside : i < length ms) (many : length new ≡ length cs)
    (added : (j : ℕ) → is_chosen new j ≡ (is_chosen cs j || (is_chosen cs i && is_at j (directory_at ms i)))) where
  and_both : (a b : Bool) → (a && b) ≡ true → (a ≡ true) × (b ≡ true)
  and_both true b h = (refl, h)
  and_both false b h = absurd (cc)

  still : (j : ℕ) → is_chosen cs j ≡ true → is_chosen new j ≡ true
  still j is = added j ∙ or_left (is_chosen cs j) (is_chosen cs i && is_at j (directory_at ms i)) is

  at_is : (j : ℕ) (o : Option ℕ) → is_at j o ≡ true → o ≡ Some j
  at_is j None is = absurd (cc)
  at_is j (Some k) is = ap Some (eqb-true k j is)

  is_at_it : (k : ℕ) (o : Option ℕ) → o ≡ Some k → is_at k o ≡ true
  is_at_it k None is = absurd (cc)
  is_at_it k (Some l) is = eq-eqb l k (some_same l k is)

  -- what is chosen at an index from i on was chosen before
  was : (j : ℕ) → i ≤ j → is_chosen new j ≡ true → is_chosen cs j ≡ true
  was j low is = by (either (is_chosen cs j) (is_chosen cs i && is_at j (directory_at ms i)) (sym (added j) ∙ is))
    where
      by : (is_chosen cs j ≡ true) ⊎ ((is_chosen cs i && is_at j (directory_at ms i)) ≡ true) → is_chosen cs j ≡ true
      by (inl it) = it
      by (inr both) =
          let r = and_both (is_chosen cs i) (is_at j (directory_at ms i)) both in
          let l = directory_below ms i j (at_is j (directory_at ms i) r.1) in
          absurd (omega (arith, l, low))

  only_next : (ps : List (List Piece)) → AreWanted ps ms old → (j : ℕ) → j < length ms → is_chosen new j ≡ true
      → IsOnWay ps ms j
  only_next ps are j h is =
      by (either (is_chosen cs j) (is_chosen cs i && is_at j (directory_at ms i)) (sym (added j) ∙ is))
    where
      by : (is_chosen cs j ≡ true) ⊎ ((is_chosen cs i && is_at j (directory_at ms i)) ≡ true) → IsOnWay ps ms j
      by (inl it) = left.only ps are j h it
      by (inr both) =
          let r = and_both (is_chosen cs i) (is_at j (directory_at ms i)) both in
          above j i inside (at_is j (directory_at ms i) r.1) (left.only ps are i inside r.0)

  done_next : (j k : ℕ) → i ≤ j → j < length ms → is_chosen new j ≡ true → directory_at ms j ≡ Some k
      → is_chosen new k ≡ true
  done_next j k low h is e = by (nat_lt i j) refl
    where
      by : (b : Bool) → nat_lt i j ≡ b → is_chosen new k ≡ true
      by true b_is =
          let l = ltb-true i j b_is in
          still k (left.done j k (omega (arith, l)) h (was j low is) e)
      by false b_is =
          let not_low = ltb-false i j b_is in
          let at : i ≡ j = omega (arith, low, not_low) in
          let chosen_i : is_chosen cs i ≡ true = ap (is_chosen cs) at ∙ was j low is in
          let dir : directory_at ms i ≡ Some k = ap (directory_at ms) at ∙ e in
          added k ∙ or_right (is_chosen cs k) (is_chosen cs i && is_at k (directory_at ms i))
          (ap (λ (v : Bool). v && is_at k (directory_at ms i)) chosen_i ∙ is_at_it k (directory_at ms i) dir)

  pub left_next : IsLeft ms old i new
  left_next = record {
    many = many ∙ left.many;
    only = only_next;
    kept = λ j is. still j (left.kept j is);
    done = done_next;
  }

module _ (ms : List Member) (old cs : List Bool) (left : IsLeft ms old 0 cs) (ps : List (List Piece))
    (are : AreWanted ps ms old) where
  each_chosen : (i : ℕ) → i < length ms → IsOnWay ps ms i → is_chosen cs i ≡ true
  each_chosen i h (wanted _ it) = left.kept i (are.each i h it)
  each_chosen i h (above _ j g e way) = left.done j i (omega arith) g (each_chosen j g way) e

  pub are_chosen : AreChosen ps ms cs
  are_chosen = record { many = left.many; only = left.only ps are; each = each_chosen }
