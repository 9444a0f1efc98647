-- What the names of a manifest lead to is the file of the line with these names.
use Rattle.std.proofs.Common.{◌≡◌, ℕ, Bool, true, false, ◌&&◌, cond, List, [], ◌∷◌, ◌++◌, reverse, find, Option, None}
use Rattle.std.proofs.Common.{Some, refl, sym, ap, subst, ◌∙◌}
use Rattle.std.proofs.lemmas.List.{reverse-append, reverse-reverse}
use Rattle.std.specs.Cmp.Lexicographic.{bytes_decides}
use Rattle.std.specs.Option.{is_some, option_map, option_and_then}
use Rattle.std.specs.Str.{bytes_eq}
use Rattle.manifest.specs.declared.line.Line.{Line}
use Rattle.manifest.specs.declared.line.Word.{Word}
use Rattle.manifest.specs.declared.line.Word.TheVariants.{Dir, File, Slink, Block, Character, Fifo, Socket, Hard, Same}
use Rattle.manifest.specs.Paths.{names_of, path_of, parent_of, but_last}
use Rattle.manifest.specs.Lines.{ManifestLines, is_dir, line_at, led}
use Rattle.manifest.specs.Grammar.{IsManifest, fault_of, has_parent, is_dir_line}
use Rattle.manifest.proofs.Checked.{AreChecked, checked_lines, sound_place, leads}
use Rattle.manifest.proofs.Named.{path_with_names, parent_named}
use Rattle.rom_tree.specs.Tree.{Node}
use Rattle.manifest_tree.specs.Meant.{IsMeant}
use Rattle.manifest_tree.specs.Names.{Inode, Names, nothing}
use Rattle.manifest_tree.specs.Shape.{HasShape, file_value, file_under}
use Rattle.manifest_tree.specs.Tree.{what_by, put_line, grown, tree_of, root_of, file_at, file_named, inode_of}
use Rattle.manifest_tree.specs.Tree.{names_eq, is_named}
use Rattle.manifest_tree.proofs.Found.{Found, found, found_as, file_of, is_a_directory, is_parent, put_at_found}

names_same : (ns : List (List ℕ)) → names_eq ns ns ≡ true
names_same [] = refl
names_same (n ∷ ns) = rw (bytes_same n) (names_same ns)
  where
    bytes_same : (n : List ℕ) → bytes_eq n n ≡ true
    bytes_same n = (bytes_decides n n).1 refl

and_true : (a b : Bool) → (a && b) ≡ true → (a ≡ true) × (b ≡ true)
and_true true b h = (refl, h)
and_true false b h = absurd (cc)

names_eq-true : (ms ns : List (List ℕ)) → names_eq ms ns ≡ true → ms ≡ ns
names_eq-true [] [] h = refl
names_eq-true [] (n ∷ ns) h = absurd (cc)
names_eq-true (m ∷ ms) [] h = absurd (cc)
names_eq-true (m ∷ ms) (n ∷ ns) h =
    let s = and_true (bytes_eq m n) (names_eq ms ns) h in
    ap (λ (x : List ℕ). x ∷ ms) ((bytes_decides m n).0 s.0)
    ∙ ap (λ (xs : List (List ℕ)). n ∷ xs) (names_eq-true ms ns s.1)

true_is_not_false : (b : Bool) → b ≡ true → b ≡ false → ⊥
true_is_not_false b h g = cc

-- a line has names exactly if it has their path
same_test : (l : Line) (k : List ℕ) (ks : List (List ℕ)) → names_of (path_of (k ∷ ks)) ≡ Some (k ∷ ks)
    → is_named (k ∷ ks) (names_of l.path) ≡ bytes_eq l.path (path_of (k ∷ ks))
same_test l k ks h = by (bytes_eq l.path (path_of (k ∷ ks))) refl
  where
    other : (o : Option (List (List ℕ))) → names_of l.path ≡ o → bytes_eq l.path (path_of (k ∷ ks)) ≡ false
        → is_named (k ∷ ks) o ≡ false
    other None e f = refl
    other (Some ns) e f = test (names_eq ns (k ∷ ks)) refl
      where
        test : (b : Bool) → names_eq ns (k ∷ ks) ≡ b → b ≡ false
        test true g =
            let same =
            path_with_names l.path k ks (e ∙ ap (λ (x : List (List ℕ)). Some x) (names_eq-true ns (k ∷ ks) g)) in
            absurd (true_is_not_false (bytes_eq l.path (path_of (k ∷ ks)))
            ((bytes_decides l.path (path_of (k ∷ ks))).1 same.joined) f)
        test false g = refl

    by : (b : Bool) → bytes_eq l.path (path_of (k ∷ ks)) ≡ b → is_named (k ∷ ks) (names_of l.path) ≡ b
    by true e =
        ap (is_named (k ∷ ks)) (ap names_of ((bytes_decides l.path (path_of (k ∷ ks))).0 e) ∙ h) ∙ names_same (k ∷ ks)
    by false e = other (names_of l.path) refl e

abbrev pub line_named : List Line → List (List ℕ) → Option Line
line_named ls q = find (λ l. is_named q (names_of l.path)) ls

line_named_is : (ls : List Line) (k : List ℕ) (ks : List (List ℕ)) → names_of (path_of (k ∷ ks)) ≡ Some (k ∷ ks)
    → line_named ls (k ∷ ks) ≡ line_at ls (path_of (k ∷ ks))
line_named_is [] k ks h = refl
line_named_is (l ∷ ls) k ks h =
    ap (λ (b : Bool). cond b (Some l) (line_named ls (k ∷ ks))) (same_test l k ks h)
    ∙ ap (λ (o : Option Line). cond (bytes_eq l.path (path_of (k ∷ ks))) (Some l) o) (line_named_is ls k ks h)

abbrev pub as_found : List Line → List ℕ → Line → Option Found
as_found all sizes l = option_map (λ i. record { is_directory = is_dir l.word; inode = i }) (file_at all sizes l.path)

-- what a list of names leads to by the lines, from the last to the first
abbrev pub found_by : List Line → List ℕ → List Line → List (List ℕ) → Option Found
found_by all sizes ls q = option_and_then (as_found all sizes) (line_named ls q)

no_line : (o : Option Line) → is_some o ≡ false → o ≡ None
no_line None h = refl
no_line (Some l) h = absurd (cc)

-- the line of a path that stood before has its names
pub none_named : (ls : List Line) (path m : List ℕ) (ms : List (List ℕ)) → names_of path ≡ Some (m ∷ ms)
    → is_some (line_at ls path) ≡ false → line_named ls (m ∷ ms) ≡ None
none_named ls path m ms h e =
    let same = (path_with_names path m ms h).joined in
    line_named_is ls m ms (ap names_of (sym same) ∙ h) ∙ ap (line_at ls) (sym same) ∙ no_line (line_at ls path) e

line_has_path : (ls : List Line) (q : List ℕ) (d : Line) → line_at ls q ≡ Some d → d.path ≡ q
line_has_path [] q d h = absurd (cc)
line_has_path (l ∷ ls) q d h =
    elim (bytes_eq l.path q) as (λ t. bytes_eq l.path q ≡ t → cond t (Some l) (line_at ls q) ≡ Some d → d.path ≡ q) [
      | true ↦ λ e g. ap (λ (x : Line). x.path) (sym (injective g)) ∙ (bytes_decides l.path q).0 e
      | false ↦ λ e g. line_has_path ls q d g
    ] refl h
  where
    injective : {x y : Line} → Some x ≡ Some y → x ≡ y
    injective e = cc

-- each path of these lines has a file
abbrev pub HaveFiles : List Line → List ℕ → List Line → Type 0
HaveFiles all sizes ls = (q : List ℕ) → is_some (line_at ls q) ≡ true → is_some (file_at all sizes q) ≡ true

-- a `dir` line is found as a directory
dir_found : (all : List Line) (sizes : List ℕ) (ls : List Line) (q : List ℕ) → HaveFiles all sizes ls
    → is_dir_line (line_at ls q) ≡ true
    → is_a_directory (option_and_then (as_found all sizes) (line_at ls q)) ≡ true
dir_found all sizes ls q f h = by (line_at ls q) refl h
  where
    of_file : (d : Line) (o : Option Inode) → is_some o ≡ true → is_dir d.word ≡ true
        → is_a_directory (option_map (λ i. record { is_directory = is_dir d.word; inode = i }) o) ≡ true
    of_file d None s e = absurd (cc)
    of_file d (Some i) s e = e

    by : (o : Option Line) → line_at ls q ≡ o → is_dir_line o ≡ true
        → is_a_directory (option_and_then (as_found all sizes) o) ≡ true
    by None e g = absurd (cc)
    by (Some d) e g = of_file d (file_at all sizes d.path)
        (subst (λ p. is_some (file_at all sizes p) ≡ true) (sym (line_has_path ls q d e)) (f q (ap is_some e))) g

grown-push : (all : List Line) (sizes : List ℕ) (xs : List Line) (l : Line) (n : Names)
    → grown all sizes (xs ++ l ∷ []) n ≡ put_line l (file_at all sizes l.path) (names_of l.path) (grown all sizes xs n)
grown-push all sizes [] l n = refl
grown-push all sizes (x ∷ xs) l n =
    grown-push all sizes xs l (put_line x (file_at all sizes x.path) (names_of x.path) n)

abbrev pub grown_by : List Line → List ℕ → List Line → Names
grown_by all sizes ls = grown all sizes (reverse ls) nothing

pub one_more : (all : List Line) (sizes : List ℕ) (l : Line) (ls : List Line)
    → grown_by all sizes (l ∷ ls) ≡ put_line l (file_at all sizes l.path) (names_of l.path) (grown_by all sizes ls)
one_more all sizes l ls =
    ap (λ xs. grown all sizes xs nothing) (reverse-append (l ∷ []) ls) ∙ grown-push all sizes (reverse ls) l nothing

-- how the word says what is put
put_as : (w : Word) (i : Inode) → found_as (what_by w i) ≡ Some (record { is_directory = is_dir w; inode = i })
put_as Dir i = refl
put_as File i = refl
put_as Slink i = refl
put_as Block i = refl
put_as Character i = refl
put_as Fifo i = refl
put_as Socket i = refl
put_as Hard i = refl
put_as Same i = refl

-- the directory of a line without a fault is there
pub parent_there : (all : List Line) (sizes : List ℕ) (l : Line) (ls : List Line) (m : List ℕ) (ms : List (List ℕ))
    (n : Names) → fault_of ls l ≡ None → HaveFiles all sizes ls
    → names_of l.path ≡ Some (m ∷ ms) →
    ((k : List ℕ) (ks : List (List ℕ)) → found (k ∷ ks) n ≡ found_by all sizes ls (k ∷ ks))
    → is_parent (but_last (m ∷ ms)) n ≡ true
parent_there all sizes l ls m ms n s f h same = by (but_last (m ∷ ms)) refl
  where
    by : (ps : List (List ℕ)) → but_last (m ∷ ms) ≡ ps → is_parent ps n ≡ true
    by [] e = refl
    by (p ∷ ps) e =
        let there : has_parent ls (path_of (p ∷ ps)) ≡ true =
        ap (λ x. has_parent ls (path_of x)) (sym e) ∙ ap (λ o. has_parent ls (parent_of o)) (sym h)
        ∙ (sound_place ls l s).0 in
        ap is_a_directory (same p ps ∙ ap (option_and_then (as_found all sizes))
        (line_named_is ls p ps (parent_named l.path m ms p ps h e)))
        ∙ dir_found all sizes ls (path_of (p ∷ ps)) f there

-- one line more
step : (all : List Line) (sizes : List ℕ) (l : Line) (ls : List Line) (n : Names) → fault_of ls l ≡ None
    → HaveFiles all sizes ls → is_some (file_at all sizes l.path) ≡ true
    → ((k : List ℕ) (ks : List (List ℕ)) → found (k ∷ ks) n ≡ found_by all sizes ls (k ∷ ks))
    → (k : List ℕ) (ks : List (List ℕ))
    → found (k ∷ ks) (put_line l (file_at all sizes l.path) (names_of l.path) n)
    ≡ found_by all sizes (l ∷ ls) (k ∷ ks)
step all sizes l ls n s f g same k ks = by (file_at all sizes l.path) (names_of l.path) refl refl g
  where
    chosen : (b : Bool) (i : Inode) (x : Option Found) → file_at all sizes l.path ≡ Some i
        → x ≡ found_by all sizes ls (k ∷ ks)
        → cond b (found_as (what_by l.word i)) x
        ≡ option_and_then (as_found all sizes) (cond b (Some l) (line_named ls (k ∷ ks)))
    chosen true i x e h =
        put_as l.word i ∙ ap (option_map (λ i. record { is_directory = is_dir l.word; inode = i })) (sym e)
    chosen false i x e h = h

    by : (o : Option Inode) (names : Option (List (List ℕ))) → file_at all sizes l.path ≡ o → names_of l.path ≡ names
        → is_some o ≡ true
        → found (k ∷ ks) (put_line l o names n)
        ≡ option_and_then (as_found all sizes) (cond (is_named (k ∷ ks) names) (Some l) (line_named ls (k ∷ ks)))
    by None names e h t = absurd (cc)
    by (Some i) None e h t = same k ks
    by (Some i) (Some []) e h t = same k ks
    by (Some i) (Some (m ∷ ms)) e h t =
        put_at_found (what_by l.word i) m ms n k ks (parent_there all sizes l ls m ms n s f h same)
        (same m ms ∙ ap (option_and_then (as_found all sizes)) (none_named ls l.path m ms h (sound_place ls l s).1))
        ∙ chosen (bytes_eq m k && names_eq ms ks) i (found (k ∷ ks) n) e (same k ks)

-- of fewer lines each path has a file too
pub fewer : (all : List Line) (sizes : List ℕ) (l : Line) (ls : List Line) → HaveFiles all sizes (l ∷ ls)
    → HaveFiles all sizes ls
fewer all sizes l ls f q h = f q (by (bytes_eq l.path q))
  where
    by : (b : Bool) → is_some (cond b (Some l) (line_at ls q)) ≡ true
    by true = refl
    by false = h

own_file : (all : List Line) (sizes : List ℕ) (l : Line) (ls : List Line) → HaveFiles all sizes (l ∷ ls)
    → is_some (file_at all sizes l.path) ≡ true
own_file all sizes l ls f =
    f l.path (ap (λ (b : Bool). is_some (cond b (Some l) (line_at ls l.path))) ((bytes_decides l.path l.path).1 refl))

-- what names lead to is what the lines say
pub tree_found : (all : List Line) (sizes : List ℕ) (ls : List Line) → AreChecked ls → HaveFiles all sizes ls
    → (k : List ℕ) (ks : List (List ℕ)) → found (k ∷ ks) (grown_by all sizes ls) ≡ found_by all sizes ls (k ∷ ks)
tree_found all sizes [] c f k ks = refl
tree_found all sizes (l ∷ ls) c f k ks =
    ap (found (k ∷ ks)) (one_more all sizes l ls)
    ∙ step all sizes l ls (grown_by all sizes ls) c.0 (fewer all sizes l ls f) (own_file all sizes l ls f)
    (tree_found all sizes ls c.1 (fewer all sizes l ls f)) k ks

abbrev either : {X : Type 0} → Option X → Option X → Option X
either None o = o
either (Some x) o = Some x

find-push : {X : Type 0} (p : X → Bool) (xs : List X) (x : X)
    → find p (xs ++ x ∷ []) ≡ either (find p xs) (cond (p x) (Some x) None)
find-push p [] x = refl
find-push p (y ∷ ys) x = elim (p y) as
    (λ t. cond t (Some y) (find p (ys ++ x ∷ [])) ≡ either (cond t (Some y) (find p ys)) (cond (p x) (Some x) None)) [
      | true ↦ refl
      | false ↦ find-push p ys x
    ]

either_none : {X : Type 0} (o : Option X) → either o None ≡ o
either_none None = refl
either_none (Some x) = refl

-- names are those of only one line, so the first line with them is the last
line_alone : (ls : List Line) → AreChecked ls → (k : List ℕ) (ks : List (List ℕ))
    → line_named (reverse ls) (k ∷ ks) ≡ line_named ls (k ∷ ks)
line_alone [] c k ks = refl
line_alone (l ∷ ls) c k ks =
    ap (λ xs. line_named xs (k ∷ ks)) (reverse-append (l ∷ []) ls)
    ∙ find-push (λ x. is_named (k ∷ ks) (names_of x.path)) (reverse ls) l
    ∙ ap (λ o. either o (cond (is_named (k ∷ ks) (names_of l.path)) (Some l) None)) (line_alone ls c.1 k ks)
    ∙ by (names_of l.path) refl
  where
    tested : (ns : List (List ℕ)) (b : Bool) → names_of l.path ≡ Some ns → names_eq ns (k ∷ ks) ≡ b
        → either (line_named ls (k ∷ ks)) (cond b (Some l) None) ≡ cond b (Some l) (line_named ls (k ∷ ks))
    tested ns true h e =
        let none = none_named ls l.path k ks (h ∙ ap (λ (x : List (List ℕ)). Some x) (names_eq-true ns (k ∷ ks) e))
        (sound_place ls l c.0).1 in
        rw none refl
    tested ns false h e = either_none (line_named ls (k ∷ ks))

    by : (o : Option (List (List ℕ))) → names_of l.path ≡ o
        → either (line_named ls (k ∷ ks)) (cond (is_named (k ∷ ks) o) (Some l) None)
        ≡ cond (is_named (k ∷ ks) o) (Some l) (line_named ls (k ∷ ks))
    by None h = either_none (line_named ls (k ∷ ks))
    by (Some ns) h = tested ns (names_eq ns (k ∷ ks)) h refl

files_of : (all : List Line) (sizes : List ℕ) (o : Option Line)
    → option_map (λ f. f.inode) (option_and_then (as_found all sizes) o)
    ≡ option_and_then (λ l. file_at all sizes l.path) o
files_of all sizes None = refl
files_of all sizes (Some l) = by (file_at all sizes l.path)
  where
    by : (o : Option Inode) → option_map (λ (f : Found). f.inode)
        (option_map (λ i. record { is_directory = is_dir l.word; inode = i }) o) ≡ o
    by None = refl
    by (Some i) = refl

pub have_files : (m : ManifestLines) (sizes : List ℕ) (latest : List Line) → m.lines ≡ reverse latest
    → AreChecked latest → HaveFiles m.lines sizes latest
unfolding file_at
have_files m sizes latest e c q h =
    let same : reverse m.lines ≡ latest = ap reverse e ∙ reverse-reverse latest in
    by (led (reverse m.lines) q) (ap (λ ls. is_some (led ls q)) same ∙ leads latest q c h)
  where
    by : (o : Option Line) → is_some o ≡ true → is_some (option_map (inode_of m.lines sizes) o) ≡ true
    by None g = absurd (cc)
    by (Some l) g = refl

pub law_of_names : (m : ManifestLines) (sizes : List ℕ) (q : List (List ℕ)) → IsManifest m
    → file_under q (record { inode = root_of m.lines sizes; own = tree_of m.lines sizes }) ≡ file_named m.lines sizes q
unfolding tree_of
law_of_names m sizes [] h = refl
law_of_names m sizes (k ∷ ks) h =
    let c = checked_lines m h.0 h.1 in
    file_of (root_of m.lines sizes) k ks (grown m.lines sizes m.lines nothing)
    ∙ ap (option_map (λ f. f.inode)) (ap (λ ls. found (k ∷ ks) (grown m.lines sizes ls nothing)) c.reversed
    ∙ tree_found m.lines sizes c.latest c.checked (have_files m sizes c.latest c.reversed c.checked) k ks)
    ∙ files_of m.lines sizes (line_named c.latest (k ∷ ks))
    ∙ ap (option_and_then (λ l. file_at m.lines sizes l.path))
    (sym (line_alone c.latest c.checked k ks) ∙ ap (λ ls. line_named ls (k ∷ ks)) (sym c.reversed))

pub meant : (image : List ℕ) (t : Node) (contents : List (List ℕ)) (m : ManifestLines) (sizes : List ℕ) → IsManifest m
    → HasShape image t contents (root_of m.lines sizes) (tree_of m.lines sizes) → IsMeant image t contents m sizes
meant image t contents m sizes h s = record {
  values = λ q. s.values q ∙ ap (option_map (file_value contents)) (law_of_names m sizes q h);
  shared =
      λ p q x y i j a b c d. s.shared p q x y i j a b (law_of_names m sizes p h ∙ c) (law_of_names m sizes q h ∙ d);
}
