-- What paths lead to after one more line, and the number of sources before a line.
use Rattle.std.proofs.Common.{◌≡◌, ◌<◌, ◌≤◌, ◌+◌, ℕ, Bool, true, false, ◌&&◌, ◌||◌, nat_lt, cond, if◌then◌else◌, List}
use Rattle.std.proofs.Common.{[], ◌∷◌, ◌++◌, length, map, filter, reverse, take, drop, get_or, suc, Option, Some, None}
use Rattle.std.proofs.Common.{Vec, refl, sym, ap, subst, ◌∙◌, arith}
use Rattle.std.proofs.lemmas.Bool.{lt-ltb, le-ltb}
use Rattle.std.proofs.lemmas.List.{reverse-append, take_more, length-append}
use Rattle.std.proofs.lemmas.Option.{slice_get-get_or}
use Rattle.std.proofs.Math.Seq.{split_at}
use Rattle.std.specs.HashMap.{HashMap}
use Rattle.std.specs.List.{AllByRecursion as Every, slice_get}
use Rattle.std.specs.Option.{option_map}
use Rattle.std.specs.Str.{bytes_eq}
use Rattle.record_forest.specs.Members.{Pairs}
use Rattle.record_forest.proofs.Lists.{every_weaker, every_join, pairs_push, pairs_cross, pairs_right}
use Rattle.manifest.specs.declared.line.Line.{Line}
use Rattle.manifest.specs.Grammar.{IsManifest}
use Rattle.manifest.specs.Lines.{ManifestLines, is_file, is_hard, is_same, led, filed, sources_of}
use Rattle.manifest.proofs.Adding.{sources-append}
use Rattle.manifest_layout.proofs.Written.{written}
use Rattle.manifest_tree.specs.Tree.{sources_before}
use Rattle.plan_rows.specs.declared.files.Target.{Target}
use Rattle.plan_rows.specs.Files.{contents_of, contents_in, own_contents, own_target, or_nowhere, noted, HasMore}
use Rattle.plan_rows.specs.Files.{IsIndexOf, IsTarget, Knows}

-- lines are in the order of their numbers
abbrev pub Rise : List Line → Type 0
Rise ls = Pairs (λ l k. l.number < k.number) ls

turned : (ls : List Line) → Pairs (λ l k. k.number < l.number) ls → Rise (reverse ls)
turned [] p = tt
turned (l ∷ ls) p =
    subst Rise (sym (reverse-append (l ∷ []) ls))
    (pairs_push (λ (x : Line) (y : Line). x.number < y.number) (reverse ls) l (turned ls p.1) (back ls p.0))
  where
    back : (ks : List Line) → Every (λ k. k.number < l.number) ks → Every (λ k. k.number < l.number) (reverse ks)
    back [] h = tt
    back (k ∷ ks) h = subst (Every (λ (x : Line). x.number < l.number)) (sym (reverse-append (k ∷ []) ks))
        (every_join (λ (x : Line). x.number < l.number) (reverse ks) (k ∷ []) (back ks h.1) (h.0, tt))

pub rise : (m : ManifestLines) → IsManifest m → Rise m.lines
rise m h = let w = written m h.0 h.1 in subst Rise (sym w.1.reversed) (turned w.0 w.1.rises)

none_before : (n : ℕ) (ls : List Line) → Every (λ l. n ≤ l.number) ls → sources_before n ls ≡ 0
none_before n [] h = refl
none_before n (l ∷ ls) h = elim (is_file l.word) as
    (λ b. (if b && nat_lt l.number n then sources_before n ls + 1 else sources_before n ls) ≡ 0) [
      | true ↦ rw (le-ltb l.number n h.0) (none_before n ls h.1)
      | false ↦ none_before n ls h.1
    ]

all_before : (n : ℕ) (ls rest : List Line) → Every (λ l. l.number < n) ls → sources_before n rest ≡ 0
    → sources_before n (ls ++ rest) ≡ length (sources_of ls)
all_before n [] rest h e = e
all_before n (l ∷ ls) rest h e = elim (is_file l.word) as
    (λ b. (if b && nat_lt l.number n then sources_before n (ls ++ rest) + 1 else sources_before n (ls ++ rest))
    ≡ length (map (λ (k : Line). k.text)
    (cond b (l ∷ filter (λ (k : Line). is_file k.word) ls) (filter (λ (k : Line). is_file k.word) ls)))) [
      | true ↦ rw (lt-ltb l.number n h.0) (let i = all_before n ls rest h.1 e in omega (arith, i))
      | false ↦ all_before n ls rest h.1 e
    ]

-- the sources before a line are those of the lines before it
pub source_is : (ls : List Line) (l : Line) (rest : List Line) → Rise (ls ++ l ∷ rest)
    → sources_before l.number (ls ++ l ∷ rest) ≡ length (sources_of ls)
source_is ls l rest p =
    let R : Line → Line → Type 0 = λ x y. x.number < y.number in
    let before = every_weaker (λ (x : Line). Every (R x) (l ∷ rest)) (λ (x : Line). x.number < l.number) (λ x h. h.0) ls
    (pairs_cross R ls (l ∷ rest) p) in
    let after = every_weaker (λ (x : Line). l.number < x.number) (λ (x : Line). l.number ≤ x.number)
    (λ x h. omega (arith, h)) rest (pairs_right R ls (l ∷ rest) p).0 in
    all_before l.number ls (l ∷ rest) before (none_before l.number (l ∷ rest) (omega arith, after))

one_more : (b : Bool) (l : Line) (ks : List Line) → b ≡ true
    → 0 < length (map (λ (k : Line). k.text) (cond b (l ∷ ks) ks))
one_more true l ks e = omega arith
one_more false l ks e = absurd (cc)

-- there is one for each `file` line
pub source_below : (ls : List Line) (l : Line) (rest : List Line) → is_file l.word ≡ true
    → length (sources_of ls) < length (sources_of (ls ++ l ∷ rest))
source_below ls l rest f =
    let n = one_more (is_file l.word) l (filter (λ (k : Line). is_file k.word) rest) f in
    let e = ap length (sources-append ls (l ∷ rest)) ∙ length-append (sources_of ls) (sources_of (l ∷ rest)) in
    omega (arith, n, e)

-- the `file` line that a line behind these has its contents from
abbrev own_file : List Line → Line → Option Line
own_file latest l =
    if is_hard l.word || is_same l.word then filed latest l.text else (if is_file l.word then Some l else None)

-- what a path that the map does not have leads to
pub nothing_known : (all : List Line) (sizes : List ℕ) (path : List ℕ) → IsTarget all sizes [] path (or_nowhere None)
nothing_known all sizes path = record { line = refl; contents = refl }

-- one more line, of this index
module _ {A S : Type 0} (all : List Line) (sizes : List ℕ) (latest : List Line) (l : Line) (source index : ℕ)
    (old : HashMap (Vec ℕ A) Target S) (e : source ≡ sources_before l.number all) (at : slice_get all index ≡ Some l)
    (h : Knows all sizes latest old) where
  -- what a `file` line has
  own_source : (if is_file l.word then Some (record { align = l.align; size = get_or sizes source 0; source = source })
      else None)
      ≡ option_map (contents_of all sizes) (if is_file l.word then Some l else None)
  own_source = elim (is_file l.word) as
      (λ t. cond t (Some (record { align = l.align; size = get_or sizes source 0; source = source })) None
      ≡ option_map (contents_of all sizes) (cond t (Some l) None)) [
        | true ↦ ap (λ (k : ℕ). Some (record { align = l.align; size = get_or sizes k 0; source = k })) e
        | false ↦ refl
      ]

  own_bytes : own_contents old sizes source l
      ≡ option_map (contents_of all sizes)
      (if is_same l.word then filed latest l.text else (if is_file l.word then Some l else None))
  own_bytes = elim (is_same l.word) as
      (λ t. cond t (or_nowhere (noted old l.text)).contents
      (cond (is_file l.word) (Some (record { align = l.align; size = get_or sizes source 0; source = source })) None)
      ≡ option_map (contents_of all sizes) (cond t (filed latest l.text) (cond (is_file l.word) (Some l) None))) [
        | true ↦ (h l.text).contents
        | false ↦ own_source
      ]

  own_line : IsIndexOf all (own_target old sizes source index l).line
      (if is_hard l.word then led latest l.text else Some l)
  own_line = elim (is_hard l.word) as
      (λ t. IsIndexOf all (cond t (or_nowhere (noted old l.text))
      (record { line = Some index; contents = own_contents old sizes source l })).line
      (cond t (led latest l.text) (Some l))) [
        | true ↦ (h l.text).line
        | false ↦ ap (λ (o : Option Line). Some o) at
      ]

  own_all : (own_target old sizes source index l).contents ≡ option_map (contents_of all sizes) (own_file latest l)
  own_all = elim (is_hard l.word) as (λ t.
      (cond t (or_nowhere (noted old l.text))
      (record { line = Some index; contents = own_contents old sizes source l })).contents
      ≡ option_map (contents_of all sizes)
      (cond (t || is_same l.word) (filed latest l.text) (cond (is_file l.word) (Some l) None))) [
        | true ↦ (h l.text).contents
        | false ↦ own_bytes
      ]

  pub knows_more : (new : HashMap (Vec ℕ A) Target S) → HasMore l.path (own_target old sizes source index l) old new
      → Knows all sizes (l ∷ latest) new
  knows_more new more q = subst (λ (o : Option Target). IsTarget all sizes (l ∷ latest) q (or_nowhere o)) (sym (more q))
      (record { line = line; contents = contents })
    where
      line : IsIndexOf all (or_nowhere (cond (bytes_eq l.path q) (Some (own_target old sizes source index l))
          (noted old q))).line (led (l ∷ latest) q)
      line = elim (bytes_eq l.path q) as
          (λ t. IsIndexOf all (or_nowhere (cond t (Some (own_target old sizes source index l)) (noted old q))).line
          (cond t (cond (is_hard l.word) (led latest l.text) (Some l)) (led latest q))) [
            | true ↦ own_line
            | false ↦ (h q).line
          ]

      contents : (or_nowhere (cond (bytes_eq l.path q) (Some (own_target old sizes source index l))
          (noted old q))).contents ≡ contents_in all sizes (l ∷ latest) q
      contents = elim (bytes_eq l.path q) as
          (λ t. (or_nowhere (cond t (Some (own_target old sizes source index l)) (noted old q))).contents
          ≡ option_map (contents_of all sizes) (cond t (own_file latest l) (filed latest q))) [
            | true ↦ own_all
            | false ↦ (h q).contents
          ]

-- at an index
split : (ls : List Line) (i : ℕ) (d l : Line) → i < length ls → l ≡ get_or ls i d
    → ls ≡ take i ls ++ l ∷ drop (suc i) ls
split ls i d l h e = split_at ls i d h ∙ ap (λ (k : Line). take i ls ++ k ∷ drop (suc i) ls) (sym e)

pub source_at : (m : ManifestLines) (i : ℕ) (d l : Line) → IsManifest m → i < length m.lines → l ≡ get_or m.lines i d
    → length (sources_of (take i m.lines)) ≡ sources_before l.number m.lines
source_at m i d l w h e =
    let s = split m.lines i d l h e in
    sym (ap (λ (ls : List Line). sources_before l.number ls) s
    ∙ source_is (take i m.lines) l (drop (suc i) m.lines) (subst Rise s (rise m w)))

pub below_at : (ls : List Line) (i : ℕ) (d l : Line) → i < length ls → l ≡ get_or ls i d → is_file l.word ≡ true
    → length (sources_of (take i ls)) < length (sources_of ls)
below_at ls i d l h e f =
    subst (λ (ks : List Line). length (sources_of (take i ls)) < length (sources_of ks)) (sym (split ls i d l h e))
    (source_below (take i ls) l (drop (suc i) ls) f)

pub got : (ls : List Line) (i : ℕ) (d l : Line) → i < length ls → l ≡ get_or ls i d → slice_get ls i ≡ Some l
got ls i d l h e = slice_get-get_or ls i d h ∙ ap (λ (x : Line). Some x) (sym e)

taken : (ls : List Line) (i : ℕ) (d l : Line) → i < length ls → l ≡ get_or ls i d
    → take (i + 1) ls ≡ take i ls ++ l ∷ []
taken ls i d l h e = take_more ls i d h ∙ ap (λ (k : Line). take i ls ++ k ∷ []) (sym e)

pub latest_at : (ls : List Line) (i : ℕ) (d l : Line) → i < length ls → l ≡ get_or ls i d
    → reverse (take (i + 1) ls) ≡ l ∷ reverse (take i ls)
latest_at ls i d l h e = ap reverse (taken ls i d l h e) ∙ reverse-append (take i ls) (l ∷ [])

pub sources_at : (ls : List Line) (i : ℕ) (d l : Line) → i < length ls → l ≡ get_or ls i d
    → length (sources_of (take (i + 1) ls))
    ≡ (if is_file l.word then length (sources_of (take i ls)) + 1 else length (sources_of (take i ls)))
sources_at ls i d l h e =
    ap (λ (ks : List Line). length (sources_of ks)) (taken ls i d l h e)
    ∙ ap length (sources-append (take i ls) (l ∷ []))
    ∙ length-append (sources_of (take i ls)) (sources_of (l ∷ [])) ∙ by (is_file l.word)
  where
    by : (b : Bool) → length (sources_of (take i ls)) + length (map (λ (k : Line). k.text) (cond b (l ∷ []) []))
        ≡ (if b then length (sources_of (take i ls)) + 1 else length (sources_of (take i ls)))
    by true = refl
    by false = omega arith
