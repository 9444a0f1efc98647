-- The grammar accepts the line of each entry of a scanned tree behind those of the entries before it.
use Rattle.std.proofs.Common.{◌≡◌, ◌⊎◌, inl, inr, ℕ, zero, suc, ◌+◌, ◌-◌, ◌<◌, ◌≤◌, Bool, true, false, ◌||◌, ◌&&◌, not}
use Rattle.std.proofs.Common.{cond, List, [], ◌∷◌, ◌++◌, length, drop, get_or, Option, None, Some, refl, sym, ap}
use Rattle.std.proofs.Common.{subst, ◌∙◌, append_assoc, append-nil, arith, rules, ⊎_elim}
use Rattle.std.specs.Prelude.{if◌then◌else◌}
use Rattle.std.specs.Cmp.Lexicographic.{bytes_decides, nat_list_cmp_total, slice_cmp}
use Rattle.std.specs.List.{All, Contains}
use Rattle.std.specs.Cmp.{IsStrictWeakOrder}
use Rattle.std.specs.List.Sorted.{IsPermutation, IsSortedBy}
use Rattle.std.specs.Option.{is_some}
use Rattle.std.specs.Ordering.{nat_cmp, is_lt, ordering_then}
use Rattle.std.specs.Str.{bytes_eq}
use Rattle.std.specs.declared.cmp.Ordering.{Ordering}
use Rattle.std.specs.declared.cmp.Ordering.TheVariants.{Less, Equal}
use Rattle.std.proofs.lemmas.Bool.{le-ltb}
use Rattle.std.proofs.lemmas.List.{get_or_append_left, get_or-append-add}
use Rattle.std.proofs.lemmas.List.Elements.{All-append, Contains-append_left, Contains-append_right, Contains-push}
use Rattle.std.proofs.lemmas.List.Elements.{Contains-push_cases, All-contains}
use Rattle.std.proofs.lemmas.List.Sorted.{All-permutation, Contains-permutation, ranks_by}
use Rattle.manifest.specs.declared.line.Line.{Line}
use Rattle.manifest.specs.Grammar.{fault_of, has_parent, has_target, is_align, is_bad_text, is_dir_line}
use Rattle.manifest.specs.Lines.{is_dir, is_file, line_at}
use Rattle.manifest.specs.Paths.{but_last, is_bad_path, names_of, parent_of, path_of}
use Rattle.manifest.specs.Texts.{is_empty}
use Rattle.image_manifest.specs.Describable.{IsLawfulName}
use Rattle.image_manifest.proofs.Lawful.{AreLawful, lawful_names, lawful_push, path_bytes}
use Rattle.build_commands.specs.Scanned.{directory, file, AreTaken, IsName, IsNamed, directory_of, file_of, line_as}
use Rattle.directory_walk.specs.Trees.{Tree, Name, AreInOrder, all_below}
use Rattle.build_commands.specs.Scans.{IsScannable, all_shown, path_in, shown}
use Rattle.build_commands.proofs.Apart.{new_path}
use Rattle.build_commands.proofs.Ways.{HasWay, IsParent, path_push, ways}

-- ---- a path and its names

but_last_push : (ns : List (List ℕ)) (n : List ℕ) → but_last (ns ++ n ∷ []) ≡ ns
but_last_push [] n = refl
but_last_push (m ∷ []) n = refl
but_last_push (m ∷ k ∷ ns) n = ap (λ (x : List (List ℕ)). m ∷ x) (but_last_push (k ∷ ns) n)

all_names : (way : List (List ℕ)) (n : List ℕ) → AreLawful way → IsLawfulName n
    → length (path_of (way ++ n ∷ [])) ≤ 4095 → names_of (path_of (way ++ n ∷ [])) ≡ Some (way ++ n ∷ [])
all_names [] n w h l = lawful_names n [] (h, tt) (le-ltb 4095 (length (path_of (n ∷ []))) l)
all_names (k ∷ ks) n w h l =
    lawful_names k (ks ++ n ∷ []) (w.0, lawful_push ks n w.1 h) (le-ltb 4095 (length (path_of (k ∷ ks ++ n ∷ []))) l)

good_way : (r : Bool) (way : List (List ℕ)) (n : List ℕ) → is_bad_path r (Some (way ++ n ∷ [])) ≡ false
good_way r [] n = refl
good_way r (k ∷ ks) n = refl

some_path : (way : List (List ℕ)) (n : List ℕ) → path_of (way ++ n ∷ []) ≡ [] → ⊥
some_path [] n e = cc
some_path (k ∷ ks) n e = cc

dropped : (p r : List ℕ) → drop (length p) (p ++ r) ≡ r
dropped [] r = refl
dropped (b ∷ p) r = dropped p r

-- ---- what the lines before an entry are good for

-- the lines of these entries: another path has none, and a directory has a `dir` line
record AreLines (front : ℕ) (latest : List Line) (b : List (Name Bool)) : Type 0 where
  none : (q : List ℕ) → ((d : Name Bool) → Contains b d → path_in front d ≡ q → ⊥) → line_at latest q ≡ None
  directories : (d : Name Bool) → Contains b d → d.known ≡ true
      → is_dir_line (line_at latest (path_in front d)) ≡ true

other_bytes : (x y : List ℕ) → (x ≡ y → ⊥) → bytes_eq x y ≡ false
other_bytes x y n = by (bytes_eq x y) refl
  where
    by : (b : Bool) → bytes_eq x y ≡ b → b ≡ false
    by true g = absurd (n ((bytes_decides x y).0 g))
    by false g = refl

line_path : (front n : ℕ) (e : Name Bool) → (line_as n (shown front e)).path ≡ path_in front e
line_path front n e = by e.known
  where
    by : (k : Bool)
        → (line_as n (if k then directory (path_in front e) else file (path_in front e) e.path)).path ≡ path_in front e
    by true = refl
    by false = refl

line_word : (front n : ℕ) (e : Name Bool) → is_dir (line_as n (shown front e)).word ≡ e.known
line_word front n e = by e.known
  where
    by : (k : Bool)
        → is_dir (line_as n (if k then directory (path_in front e) else file (path_in front e) e.path)).word ≡ k
    by true = refl
    by false = refl

more_lines : (front n : ℕ) (latest : List Line) (b : List (Name Bool)) (e : Name Bool) → AreLines front latest b
    → ((d : Name Bool) → Contains b d → path_in front d ≡ path_in front e → ⊥)
    → AreLines front (line_as n (shown front e) ∷ latest) (b ++ e ∷ [])
more_lines front n latest b e h new = record {
  none = λ q other.
      let g : bytes_eq l.path q ≡ false =
      other_bytes l.path q (λ i. other e (Contains-push b e) (sym (line_path front n e) ∙ i)) in
      ap (λ (t : Bool). cond t (Some l) (line_at latest q)) g
      ∙ h.none q (λ d c. other d (Contains-append_left b (e ∷ []) d c));
  directories = λ d c k. by d k (Contains-push_cases b e d c);
}
  where
    l : Line
    l = line_as n (shown front e)

    by : (d : Name Bool) → d.known ≡ true → Contains b d ⊎ (e ≡ d)
        → is_dir_line (line_at (l ∷ latest) (path_in front d)) ≡ true
    by d k (inl c) =
        let g : bytes_eq l.path (path_in front d) ≡ false =
        other_bytes l.path (path_in front d) (λ i. new d c (sym i ∙ line_path front n e)) in
        ap (λ (t : Bool). is_dir_line (cond t (Some l) (line_at latest (path_in front d)))) g ∙ h.directories d c k
    by d k (inr same) =
        let g : bytes_eq l.path (path_in front d) ≡ true =
        (bytes_decides l.path (path_in front d)).1 (line_path front n e ∙ ap (path_in front) same) in
        ap (λ (t : Bool). is_dir_line (cond t (Some l) (line_at latest (path_in front d)))) g
        ∙ line_word front n e ∙ ap (λ (x : Name Bool). x.known) same ∙ k

-- ---- an entry behind others

-- an entry that the grammar accepts behind these
record IsFit (front : ℕ) (b : List (Name Bool)) (e : Name Bool) : Type 0 where
  way : List (List ℕ)
  last : List ℕ
  lawful : AreLawful way
  valid : IsLawfulName last
  path : path_in front e ≡ path_of (way ++ last ∷ [])
  short : length (path_in front e) ≤ 4095
  source : IsName e.path
  new : (d : Name Bool) → Contains b d → path_in front d ≡ path_in front e → ⊥
  parent : (way ≡ []) ⊎ ((d : Name Bool) × Contains b d × (path_in front d ≡ path_of way) × (d.known ≡ true))

no_fault : (latest : List Line) (l : Line) → is_bad_path (is_dir l.word) (names_of l.path) ≡ false
    → is_bad_text l.word l.text ≡ false → has_parent latest (parent_of (names_of l.path)) ≡ true
    → is_some (line_at latest l.path) ≡ false → (is_file l.word && not (is_align l.align)) ≡ false
    → has_target latest l.word l.text ≡ true → fault_of latest l ≡ None
unfolding fault_of
no_fault latest l a b c d e f = rw (a, b, c, d, e, f) refl

module _ (front : ℕ) (latest : List Line) (b : List (Name Bool)) (e : Name Bool) (lines : AreLines front latest b)
    (fit : IsFit front b e) where
  names : names_of (path_in front e) ≡ Some (fit.way ++ fit.last ∷ [])
  names =
      ap names_of fit.path
      ∙ all_names fit.way fit.last fit.lawful fit.valid
      (subst (λ (v : List ℕ). length v ≤ 4095) fit.path fit.short)

  good : (r : Bool) → is_bad_path r (names_of (path_in front e)) ≡ false
  good r = ap (is_bad_path r) names ∙ good_way r fit.way fit.last

  under_parent : has_parent latest (path_of fit.way) ≡ true
  under_parent = by fit.parent
    where
      or_true : (x : Bool) → (x || true) ≡ true
      or_true true = refl
      or_true false = refl

      by : (fit.way ≡ []) ⊎ ((d : Name Bool) × Contains b d × (path_in front d ≡ path_of fit.way) × (d.known ≡ true))
          → has_parent latest (path_of fit.way) ≡ true
      by (inl none) = ap (λ (w : List (List ℕ)). has_parent latest (path_of w)) none
      by (inr (d, c, same, k)) =
          ap (λ (v : List ℕ). has_parent latest v) (sym same)
          ∙ ap (λ (t : Bool). is_empty (path_in front d) || t) (lines.directories d c k)
          ∙ or_true (is_empty (path_in front d))

  has_place : has_parent latest (parent_of (names_of (path_in front e))) ≡ true
  has_place =
      ap (λ (o : Option (List (List ℕ))). has_parent latest (parent_of o)) names
      ∙ ap (λ (w : List (List ℕ)). has_parent latest (path_of w)) (but_last_push fit.way fit.last) ∙ under_parent

  is_new : is_some (line_at latest (path_in front e)) ≡ false
  is_new = ap is_some (lines.none (path_in front e) fit.new)

  named : IsName (path_in front e)
  named = record {
    some = λ i. some_path fit.way fit.last (sym fit.path ∙ i);
    small = subst (λ (v : List ℕ). All (λ b. b < 256) v) (sym fit.path)
        (path_bytes (fit.way ++ fit.last ∷ []) (lawful_push fit.way fit.last fit.lawful fit.valid));
  }

  accepted : (n : ℕ) → IsNamed (shown front e) × (fault_of latest (line_as n (shown front e)) ≡ None)
  accepted n = by e.known
    where
      by : (k : Bool) → IsNamed (if k then directory (path_in front e) else file (path_in front e) e.path)
          × (fault_of latest (line_as n (if k then directory (path_in front e) else file (path_in front e) e.path))
          ≡ None)
      by true = (named, no_fault latest (directory_of n (path_in front e)) (good true) refl has_place is_new refl refl)
      by false = (
        (named, fit.source),
        no_fault latest (file_of n (path_in front e) e.path) (good false) refl has_place is_new refl refl,
      )

-- ---- all entries

taken_from : (front n : ℕ) (latest : List Line) (b a : List (Name Bool)) → AreLines front latest b
    → ((c : List (Name Bool)) (e : Name Bool) (d : List (Name Bool)) → b ++ a ≡ c ++ e ∷ d → IsFit front c e)
    → AreTaken latest n (all_shown front a)
taken_from front n latest b [] lines fits = tt
taken_from front n latest b (e ∷ a) lines fits =
    let fit : IsFit front b e = fits b e a refl in
    let r = accepted front latest b e lines fit n in (
      r.0,
      r.1,
      taken_from front (n + 1) (line_as n (shown front e) ∷ latest) (b ++ e ∷ []) a
          (more_lines front n latest b e lines fit.new)
          (λ c k d i. fits c k d (sym (append_assoc b (e ∷ []) a) ∙ i)),
    )

-- ---- a walk's entries

never_less : {X : Type 0} (lt : X → X → Bool) → IsStrictWeakOrder lt → (x : X) → lt x x ≡ false
never_less lt o x = by (lt x x) refl
  where
    by : (b : Bool) → lt x x ≡ b → lt x x ≡ false
    by true e = o.one_way x x e
    by false e = e

-- in a sorted list no element is less than one before it
no_less : {X : Type 0} (lt : X → X → Bool) → IsStrictWeakOrder lt → (xs : List X) (i m : ℕ) (d : X)
    → IsSortedBy lt xs → i + m < length xs → lt (get_or xs (i + m) d) (get_or xs i d) ≡ false
no_less lt o xs i zero d h l =
    let e : i + zero ≡ i = omega arith in
    ap (λ (n : ℕ). lt (get_or xs n d) (get_or xs i d)) e ∙ never_less lt o (get_or xs i d)
no_less lt o xs i (suc m) d h l =
    let e : i + suc m ≡ i + m + 1 = omega arith in
    ap (λ (n : ℕ). lt (get_or xs n d) (get_or xs i d)) e
    ∙ o.chain (get_or xs (i + m + 1) d) (get_or xs (i + m) d) (get_or xs i d)
    (h (i + m) d (omega arith) (omega (arith, l))) (no_less lt o xs i m d h (omega (arith, l)))

same_number : (x : ℕ) → nat_cmp x x ≡ Equal
same_number x = search rules

directory_first : (path n : List ℕ) → slice_cmp nat_cmp path (path ++ 47 ∷ n) ≡ Less
directory_first [] n = refl
directory_first (x ∷ path) n =
    ap (λ (o : Ordering). ordering_then o (slice_cmp nat_cmp path (path ++ 47 ∷ n))) (same_number x)
    ∙ directory_first path n

pub side : (k n : ℕ) → (k < n) ⊎ (n ≤ k)
side zero zero = inr (omega arith)
side zero (suc n) = inl (omega arith)
side (suc k) zero = inr (omega arith)
side (suc k) (suc n) = ⊎_elim (λ l. inl (omega (arith, l))) (λ g. inr (omega (arith, g))) (side k n)

abbrev before : Name Bool → Name Bool → Bool
before x y = is_lt (slice_cmp nat_cmp x.path y.path)

-- in order, an entry's directory is before it
in_front : (b a : List (Name Bool)) (e d : Name Bool) (n : List ℕ) → AreInOrder (b ++ e ∷ a)
    → Contains (b ++ e ∷ a) d → e.path ≡ d.path ++ 47 ∷ n → Contains b d
in_front b a e d n sorted (k, l, is) below = by (side k (length b))
  where
    xs : List (Name Bool)
    xs = b ++ e ∷ a

    less : before d e ≡ true
    less = ap (λ (v : List ℕ). is_lt (slice_cmp nat_cmp d.path v)) below ∙ ap is_lt (directory_first d.path n)

    no : true ≡ false → ⊥
    no i = cc

    by : (k < length b) ⊎ (length b ≤ k) → Contains b d
    by (inl g) = (k, g, sym (get_or_append_left b (e ∷ a) d k g) ∙ is)
    by (inr g) =
        let m : ℕ = k - length b in
        let at : length b + m ≡ k = omega (arith, g) in
        let here : get_or xs (length b) d ≡ e = here_is in
        let h = no_less before (ranks_by nat_list_cmp_total (λ (x : Name Bool). x.path)) xs (length b) m d sorted
        (omega (arith, at, l)) in
        absurd (no (sym less
        ∙ ap (λ (x : Name Bool). before x e) (sym (ap (λ (i : ℕ). get_or xs i d) at ∙ is))
        ∙ ap (λ (x : Name Bool). before (get_or xs (length b + m) d) x) (sym here) ∙ h))
      where
        here_is : get_or xs (length b) d ≡ e
        here_is =
            let z : length b + zero ≡ length b = omega arith in
            ap (λ (i : ℕ). get_or xs i d) (sym z) ∙ get_or-append-add b (e ∷ a) zero d

module _ (p : List ℕ) (t : Tree Bool) (ns : List (Name Bool)) (ok : IsScannable p t)
    (moved : IsPermutation (all_below p t) ns) (sorted : AreInOrder ns) where
  all_ways : All (HasWay p (all_below p t)) ns
  all_ways =
      All-permutation (HasWay p (all_below p t)) (all_below p t) ns moved
      (ways p p (all_below p t) [] t (sym (append-nil p)) tt ok.names (inl refl) (λ d c. c))

  all_short : All (λ n. length (path_in (length p) n) ≤ 4095) ns
  all_short = All-permutation (λ n. length (path_in (length p) n) ≤ 4095) (all_below p t) ns moved ok.short

  way_of : (e : Name Bool) → Contains ns e → HasWay p (all_below p t) e
  way_of e c = All-contains (HasWay p (all_below p t)) ns e all_ways c

  inner : (e : Name Bool) (w : HasWay p (all_below p t) e) → path_in (length p) e ≡ path_of (w.way ++ w.last ∷ [])
  inner e w = ap (drop (length p)) w.path ∙ dropped p (path_of (w.way ++ w.last ∷ []))

  whole : (e : Name Bool) (w : HasWay p (all_below p t) e) → e.path ≡ p ++ path_in (length p) e
  whole e w = w.path ∙ ap (λ (v : List ℕ). p ++ v) (sym (inner e w))

  fits : (b : List (Name Bool)) (e : Name Bool) (a : List (Name Bool)) → ns ≡ b ++ e ∷ a → IsFit (length p) b e
  fits b e a split = record {
    way = w.way;
    last = w.last;
    lawful = w.lawful;
    valid = w.valid;
    path = inner e w;
    short = All-contains (λ n. length (path_in (length p) n) ≤ 4095) ns e all_short inside;
    source = record {
      some = λ i. some_path w.way w.last (back p (path_of (w.way ++ w.last ∷ [])) (sym w.path ∙ i));
      small = subst (λ (v : List ℕ). All (λ c. c < 256) v) (sym w.path)
          (All-append (λ c. c < 256) p (path_of (w.way ++ w.last ∷ [])) ok.bytes
          (path_bytes (w.way ++ w.last ∷ []) (lawful_push w.way w.last w.lawful w.valid)));
    };
    new = λ d c i.
        let v = way_of d (subst (λ (l : List (Name Bool)). Contains l d) (sym split)
        (Contains-append_left b (e ∷ a) d c)) in
        new_path p t b a e d ok.names (subst (λ (l : List (Name Bool)). IsPermutation (all_below p t) l) split moved) c
        (whole d v ∙ ap (λ (x : List ℕ). p ++ x) i ∙ sym (whole e w));
    parent = by w.parent;
  }
    where
      inside : Contains ns e
      inside = subst (λ (l : List (Name Bool)). Contains l e) (sym split)
          (Contains-append_right b (e ∷ a) e (zero, omega arith, refl))

      w : HasWay p (all_below p t) e
      w = way_of e inside

      back : (xs ys : List ℕ) → xs ++ ys ≡ [] → ys ≡ []
      back [] ys i = i
      back (x ∷ xs) ys i = absurd (cc)

      by : IsParent p (all_below p t) w.way
          → (w.way ≡ []) ⊎ ((d : Name Bool) × Contains b d × (path_in (length p) d ≡ path_of w.way) × (d.known ≡ true))
      by (inl none) = inl none
      by (inr (d, c, same, k)) = inr (
        d,
        in_front b a e d w.last (subst AreInOrder split sorted)
            (subst (λ (l : List (Name Bool)). Contains l d) split
            (Contains-permutation (all_below p t) ns d moved c))
            (w.path ∙ ap (λ (v : List ℕ). p ++ v) (path_push w.way w.last)
            ∙ sym (append_assoc p (path_of w.way) (47 ∷ w.last)) ∙ ap (λ (v : List ℕ). v ++ 47 ∷ w.last) (sym same)),
        ap (drop (length p)) same ∙ dropped p (path_of w.way),
        k,
      )

  pub are_taken : AreTaken [] 1 (all_shown (length p) ns)
  are_taken = taken_from (length p) 1 [] [] ns
      (record { none = λ q other. refl; directories = λ d c k. let l = c.1 in absurd (omega (arith, l)) }) fits
