-- The lines of names, by their paths.
use Rattle.std.proofs.Common.{◌≡◌, ℕ, ◌+◌, Bool, true, false, ◌||◌, ◌&&◌, cond, List, [], ◌∷◌, ◌++◌, Option, None, Some}
use Rattle.std.proofs.Common.{refl, sym, ap, ◌∙◌}
use Rattle.std.specs.Cmp.Lexicographic.{bytes_decides}
use Rattle.std.specs.Option.{is_some, option_and_then}
use Rattle.std.specs.Str.{bytes_eq}
use Rattle.manifest.specs.declared.error.TheConstants.{BAD_PATH}
use Rattle.manifest.specs.declared.line.Line.{Line}
use Rattle.manifest.specs.Grammar.{fault_of, is_bad_text}
use Rattle.manifest.specs.Lines.{is_dir, line_at}
use Rattle.manifest.specs.Paths.{names_of, path_of, is_bad_path}
use Rattle.manifest.proofs.Named.{path_with_names}
use Rattle.manifest.specs.Printed.{AreTaken, numbered, numbered_from}
use Rattle.manifest_tree.specs.Tree.{names_eq, is_named}
use Rattle.manifest_tree.proofs.Law.{line_named}
use Rattle.rom_tree.specs.Image.{Image}
use Rattle.rom_tree.specs.Names.{Name}
use Rattle.image_manifest.specs.Lines.{line_behind, line_by, lines_behind}
use Rattle.image_manifest.proofs.Followed.{other, other_path}
use Rattle.image_manifest.proofs.Plain.{PathsDiffer, has_path}
use Rattle.image_manifest.proofs.Ways.{true_is_not_false, Among, first, later, neither}
use Rattle.image_manifest.specs.declared.rules.FileRules.{FileRules}

-- A line has names exactly if it has their path.

names_same : (ns : List (List ℕ)) → names_eq ns ns ≡ true
names_same [] = refl
names_same (n ∷ ns) = rw ((bytes_decides n n).1 refl) (names_same ns)

and_true : (a b : Bool) → (a && b) ≡ true → (a ≡ true) × (b ≡ true)
and_true true b h = (refl, h)
and_true false b h = absurd (cc)

pub names_eq-true : (ms ns : List (List ℕ)) → names_eq ms ns ≡ true → ms ≡ ns
names_eq-true [] [] h = refl
names_eq-true [] (n ∷ ns) h = absurd (cc)
names_eq-true (m ∷ ms) [] h = absurd (cc)
names_eq-true (m ∷ ms) (n ∷ ns) h =
    let s = and_true (bytes_eq m n) (names_eq ms ns) h in
    ap (λ (x : List ℕ). x ∷ ms) ((bytes_decides m n).0 s.0)
    ∙ ap (λ (xs : List (List ℕ)). n ∷ xs) (names_eq-true ms ns s.1)

same_test : (l : Line) (k : List ℕ) (ks : List (List ℕ)) → names_of (path_of (k ∷ ks)) ≡ Some (k ∷ ks)
    → is_named (k ∷ ks) (names_of l.path) ≡ bytes_eq l.path (path_of (k ∷ ks))
same_test l k ks h = by (bytes_eq l.path (path_of (k ∷ ks))) refl
  where
    other : (o : Option (List (List ℕ))) → names_of l.path ≡ o → bytes_eq l.path (path_of (k ∷ ks)) ≡ false
        → is_named (k ∷ ks) o ≡ false
    other None e f = refl
    other (Some ns) e f = test (names_eq ns (k ∷ ks)) refl
      where
        test : (b : Bool) → names_eq ns (k ∷ ks) ≡ b → b ≡ false
        test true g =
            let same =
            path_with_names l.path k ks (e ∙ ap (λ (x : List (List ℕ)). Some x) (names_eq-true ns (k ∷ ks) g)) in
            absurd (true_is_not_false (bytes_eq l.path (path_of (k ∷ ks)))
            ((bytes_decides l.path (path_of (k ∷ ks))).1 same.joined) f)
        test false g = refl

    by : (b : Bool) → bytes_eq l.path (path_of (k ∷ ks)) ≡ b → is_named (k ∷ ks) (names_of l.path) ≡ b
    by true e =
        ap (is_named (k ∷ ks)) (ap names_of ((bytes_decides l.path (path_of (k ∷ ks))).0 e) ∙ h) ∙ names_same (k ∷ ks)
    by false e = other (names_of l.path) refl e

line_named_is : (ls : List Line) (k : List ℕ) (ks : List (List ℕ)) → names_of (path_of (k ∷ ks)) ≡ Some (k ∷ ks)
    → line_named ls (k ∷ ks) ≡ line_at ls (path_of (k ∷ ks))
line_named_is [] k ks h = refl
line_named_is (l ∷ ls) k ks h =
    ap (λ (b : Bool). cond b (Some l) (line_named ls (k ∷ ks))) (same_test l k ks h)
    ∙ ap (λ (o : Option Line). cond (bytes_eq l.path (path_of (k ∷ ks))) (Some l) o) (line_named_is ls k ks h)

line_has_path : (ls : List Line) (q : List ℕ) (d : Line) → line_at ls q ≡ Some d → d.path ≡ q
line_has_path [] q d h = absurd (cc)
line_has_path (l ∷ ls) q d h =
    elim (bytes_eq l.path q) as (λ t. bytes_eq l.path q ≡ t → cond t (Some l) (line_at ls q) ≡ Some d → d.path ≡ q) [
      | true ↦ λ e g. ap (λ (x : Line). x.path) (sym (injective g)) ∙ (bytes_decides l.path q).0 e
      | false ↦ λ e g. line_has_path ls q d g
    ] refl h
  where
    injective : {x y : Line} → Some x ≡ Some y → x ≡ y
    injective e = cc

-- what depends only on the path of the line with some names
pub named_at : {X : Type 0} (f : List ℕ → Option X) (ls : List Line) (path k : List ℕ) (ks : List (List ℕ))
    → path ≡ path_of (k ∷ ks) → names_of path ≡ Some (k ∷ ks)
    → is_some (line_at ls path) ≡ true → option_and_then (λ l. f l.path) (line_named ls (k ∷ ks)) ≡ f path
named_at {X} f ls path k ks e h s =
    ap (option_and_then (λ l. f l.path)) (line_named_is ls k ks (ap names_of (sym e) ∙ h) ∙ ap (line_at ls) (sym e))
    ∙ by (line_at ls path) refl s
  where
    by : (o : Option Line) → line_at ls path ≡ o → is_some o ≡ true → option_and_then (λ l. f l.path) o ≡ f path
    by None g t = absurd (cc)
    by (Some d) g t = ap f (line_has_path ls path d g)

-- The lines of an image's names.

pub line_path : (m : Image) (rules : FileRules) (before : List Name) (n : Name)
    → (line_behind m rules before n).path ≡ n.path
line_path m rules before n = by (other before n)
  where
    by : (o : Option Name) → (line_by m rules n o).path ≡ n.path
    by None = refl
    by (Some old) = refl

some_if : (b : Bool) (l : Line) (o : Option Line) → is_some o ≡ true → is_some (cond b (Some l) o) ≡ true
some_if true l o h = refl
some_if false l o h = h

-- each name has a line
pub has_line : (m : Image) (rules : FileRules) (j : ℕ) (before ns : List Name) (n : Name) → Among n ns
    → is_some (line_at (numbered_from j (lines_behind m rules before ns)) n.path) ≡ true
has_line m rules j before [] n h = elim h [ ]
has_line m rules j before (k ∷ ns) n first =
    let rest : Option Line = line_at (numbered_from (j + 1) (lines_behind m rules (before ++ n ∷ []) ns)) n.path in
    ap (λ (b : Bool). is_some (cond b (Some (numbered j (line_behind m rules before n))) rest))
    ((bytes_decides (line_behind m rules before n).path n.path).1 (line_path m rules before n))
has_line m rules j before (k ∷ ns) n (later h) =
    some_if (bytes_eq (line_behind m rules before k).path n.path) (numbered j (line_behind m rules before k))
    (line_at (numbered_from (j + 1) (lines_behind m rules (before ++ k ∷ []) ns)) n.path)
    (has_line m rules (j + 1) (before ++ k ∷ []) ns n h)

-- A name of a line with these names.
pub record HasNames (ns : List Name) (q : List (List ℕ)) : Type 0 where
  pub name : Name
  pub among : Among name ns
  pub names : is_named q (names_of name.path) ≡ true

pub named_name : (m : Image) (rules : FileRules) (j : ℕ) (before ns : List Name) (q : List (List ℕ)) (l : Line)
    → line_named (numbered_from j (lines_behind m rules before ns)) q ≡ Some l → HasNames ns q
named_name m rules j before [] q l h = absurd (cc)
named_name m rules j before (n ∷ ns) q l h =
    let own : Line = numbered j (line_behind m rules before n) in
    elim (is_named q (names_of own.path)) as
    (λ t. is_named q (names_of own.path) ≡ t
    → cond t (Some own) (line_named (numbered_from (j + 1) (lines_behind m rules (before ++ n ∷ []) ns)) q)
    ≡ Some l → HasNames (n ∷ ns) q) [
      | true ↦ λ e g. record {
        name = n;
        among = first;
        names = ap (λ (v : List ℕ). is_named q (names_of v)) (sym (line_path m rules before n)) ∙ e;
      }
      | false ↦ λ e g. let r = named_name m rules (j + 1) (before ++ n ∷ []) ns q l g in record
          { name = r.name; among = later r.among; names = r.names }
    ] refl h

-- Each name of lines that are accepted has a valid path.

sound_path : (ls : List Line) (l : Line) → fault_of ls l ≡ None → is_bad_path (is_dir l.word) (names_of l.path) ≡ false
unfolding fault_of
sound_path ls l h = by (is_bad_path (is_dir l.word) (names_of l.path)) (is_bad_text l.word l.text) _ h
  where
    by : (a b : Bool) (o : Option ℕ) → cond (a || b) (Some BAD_PATH) o ≡ None → a ≡ false
    by true b o h = absurd (cc)
    by false b o h = refl

good_path : (root : Bool) (o : Option (List (List ℕ))) → is_bad_path root o ≡ false → is_some o ≡ true
good_path root None h = absurd (cc)
good_path root (Some q) h = refl

pub lawful : (m : Image) (rules : FileRules) (latest : List Line) (j : ℕ) (before ns : List Name) (n : Name)
    → AreTaken latest j (lines_behind m rules before ns) → Among n ns → is_some (names_of n.path) ≡ true
lawful m rules latest j before [] n t h = elim h [ ]
lawful m rules latest j before (k ∷ ns) n t first =
    let l : Line = line_behind m rules before n in
    ap (λ (v : List ℕ). is_some (names_of v)) (sym (line_path m rules before n))
    ∙ good_path (is_dir l.word) (names_of l.path) (sound_path latest (numbered j l) t.1)
lawful m rules latest j before (k ∷ ns) n t (later h) =
    lawful m rules (numbered j (line_behind m rules before k) ∷ latest) (j + 1) (before ++ k ∷ []) ns n t.2 h

-- No two of them have one path.

none_later : (m : Image) (rules : FileRules) (latest : List Line) (j : ℕ) (before ns : List Name) (p : List ℕ)
    → AreTaken latest j (lines_behind m rules before ns) → is_some (line_at latest p) ≡ true
    → has_path p ns ≡ false
none_later m rules latest j before [] p t h = refl
none_later m rules latest j before (n ∷ ns) p t h =
    let l : Line = line_behind m rules before n in
    neither (bytes_eq n.path p) (has_path p ns)
    (ap (λ (v : List ℕ). bytes_eq v p) (sym (line_path m rules before n)) ∙ other_path latest j l p t.1 h)
    (none_later m rules (numbered j l ∷ latest) (j + 1) (before ++ n ∷ []) ns p t.2
    (some_if (bytes_eq l.path p) (numbered j l) (line_at latest p) h))

pub paths_differ : (m : Image) (rules : FileRules) (latest : List Line) (j : ℕ) (before ns : List Name)
    → AreTaken latest j (lines_behind m rules before ns) → PathsDiffer ns
paths_differ m rules latest j before [] t = tt
paths_differ m rules latest j before (n ∷ ns) t =
    let l : Line = line_behind m rules before n in (
      none_later m rules (numbered j l ∷ latest) (j + 1) (before ++ n ∷ []) ns n.path t.2
          (ap (λ (b : Bool). is_some (cond b (Some (numbered j l)) (line_at latest n.path)))
          ((bytes_decides l.path n.path).1 (line_path m rules before n))),
      paths_differ m rules (numbered j l ∷ latest) (j + 1) (before ++ n ∷ []) ns t.2,
    )

-- a name among others has its path there
pub path_among : (n : Name) (ns : List Name) → Among n ns → has_path n.path ns ≡ true
path_among n [] h = elim h [ ]
path_among n (k ∷ ns) first = ap (λ (b : Bool). b || has_path n.path ns) ((bytes_decides n.path n.path).1 refl)
path_among n (k ∷ ns) (later h) = or_true (bytes_eq k.path n.path) (has_path n.path ns) (path_among n ns h)
  where
    or_true : (a b : Bool) → b ≡ true → (a || b) ≡ true
    or_true true b e = refl
    or_true false b e = e
