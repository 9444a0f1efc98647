-- Members of which some are chosen can be extracted.
use Rattle.std.proofs.Common.{◌≡◌, ◌≢◌, ℕ, zero, suc, ◌<◌, ◌&&◌, ◌==◌, Bool, true, false, List, [], ◌∷◌, ◌++◌}
use Rattle.std.proofs.Common.{length, get_or, map, Option, Some, None, if◌then◌else◌, refl, ap, sym, subst, ◌∙◌, arith}
use Rattle.std.proofs.Common.{inl, inr, ◌⊎◌, length-append}
use Rattle.std.proofs.Math.Seq.{get_or-append_seam}
use Rattle.std.proofs.lemmas.Bool.{eqb-true}
use Rattle.std.proofs.lemmas.List.{get_or_append_left}
use Rattle.tree_extract.specs.Choices.{kind_in, is_chosen, file_by, is_file_at, names, or_at, first_chosen, name_by}
use Rattle.tree_extract.specs.Choices.{kind_by, kind_chosen, kinds_below, kinds_chosen, kinds_of, with_kind, with_kinds}
use Rattle.tree_extract.specs.Choices.{IsChoice, all, some, IsFit}
use Rattle.tree_extract.specs.Extracted.{is_file}
use Rattle.tree_extract.specs.Members.{Member, AreMembers, member_at, kind_at, path_at, bytes_at, rights_at}
use Rattle.tree_extract.specs.Paths.{IsPlain, LeadsThrough}
use Rattle.tree_extract.specs.declared.tree.Kind.{Kind}
use Rattle.tree_extract.specs.declared.tree.Kind.TheVariants.{Directory, File, Further, Symlink, Nothing}
use Rattle.tree_extract.specs.declared.tree.Rights.{Rights}

-- ---- members with other kinds

pub length_with : (ms : List Member) (ks : List Kind) → length (with_kinds ms ks) ≡ length ms
length_with [] ks = refl
length_with (m ∷ ms) [] = ap suc (length_with ms [])
length_with (m ∷ ms) (k ∷ ks) = ap suc (length_with ms ks)

pub path_with : (ms : List Member) (ks : List Kind) (i : ℕ) → path_at (with_kinds ms ks) i ≡ path_at ms i
path_with [] ks i = refl
path_with (m ∷ ms) [] zero = refl
path_with (m ∷ ms) [] (suc i) = path_with ms [] i
path_with (m ∷ ms) (k ∷ ks) zero = refl
path_with (m ∷ ms) (k ∷ ks) (suc i) = path_with ms ks i

pub bytes_with : (ms : List Member) (ks : List Kind) (i : ℕ) → bytes_at (with_kinds ms ks) i ≡ bytes_at ms i
bytes_with [] ks i = refl
bytes_with (m ∷ ms) [] zero = refl
bytes_with (m ∷ ms) [] (suc i) = bytes_with ms [] i
bytes_with (m ∷ ms) (k ∷ ks) zero = refl
bytes_with (m ∷ ms) (k ∷ ks) (suc i) = bytes_with ms ks i

pub rights_with : (ms : List Member) (ks : List Kind) (i : ℕ) → rights_at (with_kinds ms ks) i ≡ rights_at ms i
rights_with [] ks i = refl
rights_with (m ∷ ms) [] zero = refl
rights_with (m ∷ ms) [] (suc i) = rights_with ms [] i
rights_with (m ∷ ms) (k ∷ ks) zero = refl
rights_with (m ∷ ms) (k ∷ ks) (suc i) = rights_with ms ks i

pub kind_with : (ms : List Member) (ks : List Kind) (i : ℕ) → length ks ≡ length ms → i < length ms
    → kind_at (with_kinds ms ks) i ≡ kind_in ks i
kind_with [] ks i e h = absurd (omega (arith, h))
kind_with (m ∷ ms) [] i e h = absurd (omega (arith, e))
kind_with (m ∷ ms) (k ∷ ks) zero e h = refl
kind_with (m ∷ ms) (k ∷ ks) (suc i) e h = kind_with ms ks i (omega (arith, e)) (omega (arith, h))

pub length_kinds : (ms : List Member) → length (kinds_of ms) ≡ length ms
length_kinds [] = refl
length_kinds (m ∷ ms) = ap suc (length_kinds ms)

pub kind_of_each : (ms : List Member) (i : ℕ) → i < length ms → kind_in (kinds_of ms) i ≡ kind_at ms i
kind_of_each [] i h = absurd (omega (arith, h))
kind_of_each (m ∷ ms) zero h = refl
kind_of_each (m ∷ ms) (suc i) h = kind_of_each ms i (omega (arith, h))

-- members with their own kinds are the same
pub with_own : (ms : List Member) → with_kinds ms (kinds_of ms) ≡ ms
with_own [] = refl
with_own (m ∷ ms) = ap (λ (v : List Member). m ∷ v) (with_own ms)

-- ---- the kinds of chosen members

module _ (ks : List Kind) (cs : List Bool) where
  length_below : (n : ℕ) → length (kinds_below ks cs n) ≡ n
  length_below zero = refl
  length_below (suc n) =
      let before = length_below n in
      let more = length-append (kinds_below ks cs n) (kind_chosen ks cs n ∷ []) in
      omega (arith, before, more)

  kind_below : (n i : ℕ) → i < n → kind_in (kinds_below ks cs n) i ≡ kind_chosen ks cs i
  kind_below zero i h = absurd (omega (arith, h))
  kind_below (suc n) i h = by (kind_below n i) (le i n)
    where
      le : (a b : ℕ) → (a < b) ⊎ (b < suc a)
      le zero zero = inr (omega arith)
      le zero (suc b) = inl (omega arith)
      le (suc a) zero = inr (omega arith)
      le (suc a) (suc b) = more (le a b)
        where
          more : (a < b) ⊎ (b < suc a) → (suc a < suc b) ⊎ (suc b < suc (suc a))
          more (inl l) = inl (omega (arith, l))
          more (inr l) = inr (omega (arith, l))

      by : (i < n → kind_in (kinds_below ks cs n) i ≡ kind_chosen ks cs i)
          → (i < n) ⊎ (n < suc i) → kind_in (kinds_below ks cs (suc n)) i ≡ kind_chosen ks cs i
      by before (inl l) =
          let many = length_below n in
          get_or_append_left (kinds_below ks cs n) (kind_chosen ks cs n ∷ []) Directory i (omega (arith, l, many))
          ∙ before l
      by before (inr l) =
          let at : i ≡ n = omega (arith, h, l) in
          ap (kind_in (kinds_below ks cs (suc n))) (at ∙ sym (length_below n))
          ∙ get_or-append_seam (kinds_below ks cs n) (kind_chosen ks cs n) [] Directory
          ∙ ap (kind_chosen ks cs) (sym at)

  pub length_chosen : length (kinds_chosen ks cs) ≡ length ks
  length_chosen = length_below (length ks)

  pub kind_is_chosen : (i : ℕ) → i < length ks → kind_in (kinds_chosen ks cs) i ≡ kind_chosen ks cs i
  kind_is_chosen i h = kind_below (length ks) i h

  -- what the first chosen name of a file is
  record IsFirst (file n first : ℕ) : Type 0 where
    below : first < n
    named : names ks cs file first ≡ true
    none : first_chosen ks cs file first ≡ None

  same_some : (a b : ℕ) → Some a ≡ Some b → a ≡ b
  same_some a b h = cc

  is_first : (file n first : ℕ) → first_chosen ks cs file n ≡ Some first → IsFirst file n first
  is_first file zero first e = absurd (cc)
  is_first file (suc n) first e =
      by (is_first file n first) (first_chosen ks cs file n) (names ks cs file n) refl refl e
    where
      by : (first_chosen ks cs file n ≡ Some first → IsFirst file n first) → (o : Option ℕ) (b : Bool)
          → first_chosen ks cs file n ≡ o → names ks cs file n ≡ b → or_at o b n ≡ Some first
          → IsFirst file (suc n) first
      by before None true o_is b_is is =
          let at : n ≡ first = same_some n first is in record {
            below = omega (arith, at);
            named = ap (names ks cs file) (sym at) ∙ b_is;
            none = ap (first_chosen ks cs file) (sym at) ∙ o_is;
          }
      by before None false o_is b_is is = absurd (cc)
      by before (Some f) b o_is b_is is =
          let r = before (o_is ∙ is) in
          let l = r.below in
          record { below = omega (arith, l); named = r.named; none = r.none }

  and_both : (a b : Bool) → (a && b) ≡ true → (a ≡ true) × (b ≡ true)
  and_both true b h = (refl, h)
  and_both false b h = absurd (cc)

  -- a chosen name of a file before which none is chosen is the file
  file_first : (i file : ℕ) (k : Kind) → is_file_at file (file_by k i) ≡ true → first_chosen ks cs file i ≡ None
      → kind_by ks cs i k ≡ File
  file_first i file Directory h none = absurd (cc)
  file_first i file File h none =
      ap name_by (ap (λ (f : ℕ). first_chosen ks cs f i) (eqb-true i file h) ∙ none)
  file_first i file (Further first) h none =
      ap name_by (ap (λ (f : ℕ). first_chosen ks cs f i) (eqb-true first file h) ∙ none)
  file_first i file Symlink h none = absurd (cc)
  file_first i file Nothing h none = absurd (cc)

  no_further : (k : Kind) → k ≡ Nothing → (f : ℕ) → k ≡ Further f → ⊥
  no_further k n f is = cc

  name_first : (o : Option ℕ) (f : ℕ) → name_by o ≡ Further f → o ≡ Some f
  name_first None f is = absurd (cc)
  name_first (Some g) f is = ap Some (same g f is)
    where
      same : (a b : ℕ) → Further a ≡ Further b → a ≡ b
      same a b h = cc

  -- a further name is one of the first chosen name, which is the file
  first_by : (i f : ℕ) (k : Kind) → kind_by ks cs i k ≡ Further f
      → (file : ℕ) × (first_chosen ks cs file i ≡ Some f)
  first_by i f Directory is = absurd (cc)
  first_by i f File is = (i, name_first (first_chosen ks cs i i) f is)
  first_by i f (Further first) is = (first, name_first (first_chosen ks cs first i) f is)
  first_by i f Symlink is = absurd (cc)
  first_by i f Nothing is = absurd (cc)

  pub further_chosen : (i f : ℕ) → kind_chosen ks cs i ≡ Further f → (f < i) × (kind_chosen ks cs f ≡ File)
  further_chosen i f = by (is_chosen cs i)
    where
      by : (b : Bool) → (if b then kind_by ks cs i (kind_in ks i) else Nothing) ≡ Further f
          → (f < i) × (kind_chosen ks cs f ≡ File)
      by true is =
          let at = first_by i f (kind_in ks i) is in
          let r = is_first at.0 i f at.1 in
          let both = and_both (is_chosen cs f) (is_file_at at.0 (file_by (kind_in ks f) f)) r.named in (
            r.below,
            ap (λ (b : Bool). if b then kind_by ks cs f (kind_in ks f) else Nothing) both.0
                ∙ file_first f at.0 (kind_in ks f) both.1 r.none,
          )
      by false is = absurd (no_further Nothing refl f is)

  -- nothing is made of what is made into nothing, and a link is a link
  pub nothing_chosen : (i : ℕ) → kind_in ks i ≡ Nothing → kind_chosen ks cs i ≡ Nothing
  nothing_chosen i is = ap (λ (k : Kind). if is_chosen cs i then kind_by ks cs i k else Nothing) is
      ∙ either (is_chosen cs i)
    where
      either : (b : Bool) → (if b then Nothing else Nothing) ≡ Nothing
      either true = refl
      either false = refl

  link_by : (i : ℕ) (k : Kind) → kind_by ks cs i k ≡ Symlink → k ≡ Symlink
  link_by i Directory is = is
  link_by i File is = absurd (no_name (first_chosen ks cs i i) is)
    where
      no_name : (o : Option ℕ) → name_by o ≡ Symlink → ⊥
      no_name None h = cc
      no_name (Some f) h = cc
  link_by i (Further first) is = absurd (no_name (first_chosen ks cs first i) is)
    where
      no_name : (o : Option ℕ) → name_by o ≡ Symlink → ⊥
      no_name None h = cc
      no_name (Some f) h = cc
  link_by i Symlink is = is
  link_by i Nothing is = is

  pub link_chosen : (i : ℕ) → kind_chosen ks cs i ≡ Symlink → kind_in ks i ≡ Symlink
  link_chosen i = by (is_chosen cs i)
    where
      by : (b : Bool) → (if b then kind_by ks cs i (kind_in ks i) else Nothing) ≡ Symlink → kind_in ks i ≡ Symlink
      by true is = link_by i (kind_in ks i) is
      by false is = absurd (cc)

  file_by_kept : (i : ℕ) (k : Kind) → is_file (kind_by ks cs i k) ≡ true → is_file k ≡ true
  file_by_kept i Directory is = is
  file_by_kept i File is = refl
  file_by_kept i (Further first) is = refl
  file_by_kept i Symlink is = is
  file_by_kept i Nothing is = is

  pub file_chosen : (i : ℕ) → is_file (kind_chosen ks cs i) ≡ true → is_file (kind_in ks i) ≡ true
  file_chosen i = by (is_chosen cs i)
    where
      by : (b : Bool) → is_file (if b then kind_by ks cs i (kind_in ks i) else Nothing) ≡ true
          → is_file (kind_in ks i) ≡ true
      by true is = file_by_kept i (kind_in ks i) is
      by false is = absurd (cc)

-- ---- the law

module _ (ms : List Member) (ks : List Kind) (can : AreMembers ms) (fit : IsFit ms ks) where
  inside : (i : ℕ) → i < length (with_kinds ms ks) → i < length ms
  inside i h = let e = length_with ms ks in omega (arith, e, h)

  outside : (i : ℕ) → i < length ms → i < length (with_kinds ms ks)
  outside i h = let e = length_with ms ks in omega (arith, e, h)

  pub can_with : AreMembers (with_kinds ms ks)
  can_with = record {
    plain = λ i h is. subst IsPlain (sym (path_with ms ks i))
        (can.plain i (inside i h)
        (λ none. is (kind_with ms ks i fit.many (inside i h) ∙ fit.nothing i (inside i h) none)));
    distinct = λ i j a b is. can.distinct i j (inside i a) (inside j b)
        (sym (path_with ms ks i) ∙ is ∙ path_with ms ks j);
    leaves = λ i j a b is through. can.leaves i j (inside i a) (inside j b)
        (fit.link i (inside i a) (sym (kind_with ms ks i fit.many (inside i a)) ∙ is)) (
          through.0,
          sym (path_with ms ks j) ∙ through.1
              ∙ ap (λ (v : List ℕ). v ++ 47 ∷ through.0) (path_with ms ks i),
        );
    further = λ i f h is.
        let r = fit.further i f (inside i h) (sym (kind_with ms ks i fit.many (inside i h)) ∙ is) in
        (outside f r.0, kind_with ms ks f fit.many r.0 ∙ r.1);
  }

module _ (ms : List Member) (ks : List Kind) where
  own : ks ≡ kinds_of ms → (i : ℕ) → i < length ms → kind_in ks i ≡ kind_at ms i
  own is i h = ap (λ (v : List Kind). kind_in v i) is ∙ kind_of_each ms i h

  chosen : (cs : List Bool) → ks ≡ kinds_chosen (kinds_of ms) cs → (i : ℕ) → i < length ms
      → kind_in ks i ≡ kind_chosen (kinds_of ms) cs i
  chosen cs is i h =
      let e = length_kinds ms in
      ap (λ (v : List Kind). kind_in v i) is ∙ kind_is_chosen (kinds_of ms) cs i (omega (arith, e, h))

  pub choice_fits : AreMembers ms → IsChoice ms ks → IsFit ms ks
  choice_fits can (all is) = record {
    many = ap length is ∙ length_kinds ms;
    nothing = λ i h none. own is i h ∙ none;
    link = λ i h link. sym (own is i h) ∙ link;
    file = λ i h file. ap is_file (sym (own is i h)) ∙ file;
    further = λ i f h it. let r = can.further i f h (sym (own is i h) ∙ it) in (r.0, own is f r.0 ∙ r.1);
  }
  choice_fits can (some cs is) = record {
    many = ap length is ∙ length_chosen (kinds_of ms) cs ∙ length_kinds ms;
    nothing = λ i h none.
        chosen cs is i h ∙ nothing_chosen (kinds_of ms) cs i (kind_of_each ms i h ∙ none);
    link = λ i h link.
        sym (kind_of_each ms i h) ∙ link_chosen (kinds_of ms) cs i (sym (chosen cs is i h) ∙ link);
    file = λ i h file. ap is_file (sym (kind_of_each ms i h))
        ∙ file_chosen (kinds_of ms) cs i (ap is_file (sym (chosen cs is i h)) ∙ file);
    further = λ i f h it.
        let r = further_chosen (kinds_of ms) cs i f (sym (chosen cs is i h) ∙ it) in
        let l = r.0 in
        let below : f < length ms = omega (arith, l, h) in
        (below, chosen cs is f below ∙ r.1);
  }
