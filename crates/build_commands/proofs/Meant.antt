-- The lines of a manifest in reverse order, and the first name of a file that was found.
use Rattle.std.proofs.Common.{◌≡◌, ℕ, zero, suc, ◌+◌, Bool, true, false, ◌&&◌, cond, List, [], ◌∷◌, ◌++◌}
use Rattle.std.proofs.Common.{reverse, Option, None, Some, refl, sym, ap, ◌∙◌, append_assoc, append-nil, arith}
use Rattle.std.proofs.lemmas.List.{reverse-append}
use Rattle.std.proofs.lemmas.Bool.{eqb-true, eq-eqb}
use Rattle.std.specs.Prelude.{◌==◌, find}
use Rattle.std.specs.Cmp.Lexicographic.{bytes_decides}
use Rattle.std.specs.List.{Contains}
use Rattle.std.specs.Option.{is_some}
use Rattle.std.specs.Str.{bytes_eq}
use Rattle.manifest.specs.declared.line.Line.{Line}
use Rattle.manifest.specs.Grammar.{fault_of}
use Rattle.manifest.specs.Lines.{line_at}
use Rattle.manifest.specs.Printed.{numbered, numbered_from}
use Rattle.manifest.proofs.Checked.{sound_place}
use Rattle.build_commands.specs.Inventory.{first_link, first_of, is_linked}
use Rattle.build_commands.specs.Reported.{AreOfOne}
use Rattle.build_commands.specs.declared.inventory.NamedFile.{NamedFile}

-- ---- the lines in reverse order

-- the lines in reverse order, after these were accepted as well
abbrev pub taken_after : List Line → ℕ → List Line → List Line
taken_after latest n [] = latest
taken_after latest n (l ∷ ls) = taken_after (numbered n l ∷ latest) (n + 1) ls

after_reversed : (latest : List Line) (n : ℕ) (ls : List Line)
    → taken_after latest n ls ≡ reverse (numbered_from n ls) ++ latest
after_reversed latest n [] = refl
after_reversed latest n (l ∷ ls) =
    after_reversed (numbered n l ∷ latest) (n + 1) ls
    ∙ sym (append_assoc (reverse (numbered_from (n + 1) ls)) (numbered n l ∷ []) latest)
    ∙ ap (λ (x : List Line). x ++ latest) (sym (reverse-append (numbered n l ∷ []) (numbered_from (n + 1) ls)))

pub all_reversed : (n : ℕ) (ls : List Line) → taken_after [] n ls ≡ reverse (numbered_from n ls)
all_reversed n ls = after_reversed [] n ls ∙ append-nil (reverse (numbered_from n ls))

pub same_path : (p : List ℕ) → bytes_eq p p ≡ true
same_path p = (bytes_decides p p).1 refl

true_false : (b : Bool) → b ≡ true → b ≡ false → ⊥
true_false b h g = cc

-- a line that is accepted has another path than those before it
pub other_path : (latest : List Line) (n : ℕ) (l : Line) (p : List ℕ) → fault_of latest (numbered n l) ≡ None
    → is_some (line_at latest p) ≡ true → bytes_eq l.path p ≡ false
other_path latest n l p f h = by (bytes_eq l.path p) refl
  where
    by : (b : Bool) → bytes_eq l.path p ≡ b → b ≡ false
    by true e =
        absurd (true_false (is_some (line_at latest p)) h
        (ap (λ (v : List ℕ). is_some (line_at latest v)) (sym ((bytes_decides l.path p).0 e))
        ∙ (sound_place latest (numbered n l) f).1))
    by false e = refl

-- ---- the first name of a file

pub find_front : (test : NamedFile → Bool) (xs ys : List NamedFile) (f : NamedFile) → find test xs ≡ Some f
    → find test (xs ++ ys) ≡ Some f
find_front test [] ys f h = absurd (cc)
find_front test (x ∷ xs) ys f h = elim (test x) as
    (λ v. cond v (Some x) (find test xs) ≡ Some f → cond v (Some x) (find test (xs ++ ys)) ≡ Some f)
    [ true ↦ λ g. g | false ↦ λ g. find_front test xs ys f g ] h

pub find_next : (test : NamedFile → Bool) (xs ys : List NamedFile) (f : NamedFile) → find test xs ≡ None → test f ≡ true
    → find test (xs ++ f ∷ ys) ≡ Some f
find_next test [] ys f h t = ap (λ (v : Bool). cond v (Some f) (find test ys)) t
find_next test (x ∷ xs) ys f h t = elim (test x) as
    (λ v. cond v (Some x) (find test xs) ≡ None → cond v (Some x) (find test (xs ++ f ∷ ys)) ≡ Some f)
    [ true ↦ λ g. absurd (cc) | false ↦ λ g. find_next test xs ys f g t ] h

pub record IsAt (xs : List NamedFile) (f : NamedFile) : Type 0 where
  pub before : List NamedFile
  pub after : List NamedFile
  pub is : xs ≡ before ++ f ∷ after

pub split_at : (xs : List NamedFile) (f : NamedFile) → Contains xs f → IsAt xs f
split_at [] f c = let l = c.1 in absurd (omega (arith, l))
split_at (x ∷ xs) f (zero, l, e) =
    record { before = []; after = xs; is = ap (λ (v : NamedFile). v ∷ xs) e }
split_at (x ∷ xs) f (suc k, l, e) =
    let s = split_at xs f (k, omega (arith, l), e) in
    record { before = x ∷ s.before; after = s.after; is = ap (λ (v : List NamedFile). x ∷ v) s.is }

pub contains_at : (before : List NamedFile) (f : NamedFile) (after : List NamedFile) → Contains (before ++ f ∷ after) f
contains_at [] f after = (0, omega arith, refl)
contains_at (x ∷ xs) f after =
    let c = contains_at xs f after in (suc c.0, (let l = c.1 in omega (arith, l)), c.2)

and_both : (a b : Bool) → (a && b) ≡ true → (a ≡ true) × (b ≡ true)
and_both true b h = (refl, h)
and_both false b h = absurd (cc)

-- the names of the file of f
abbrev pub of_file : NamedFile → NamedFile → Bool
of_file f = is_linked f.inode.device f.inode.number

pub are_of_one : (f g : NamedFile) → f.has_links ≡ true → of_file f g ≡ true → AreOfOne f g
are_of_one f g h t =
    let a = and_both (g.has_links && (g.inode.device == f.inode.device)) (g.inode.number == f.inode.number) t in
    let b = and_both g.has_links (g.inode.device == f.inode.device) a.0 in
    record {
      links = h;
      other_links = b.0;
      device = sym (eqb-true g.inode.device f.inode.device b.1);
      number = sym (eqb-true g.inode.number f.inode.number a.1);
    }

pub own_test : (f : NamedFile) → f.has_links ≡ true → of_file f f ≡ true
own_test f h = rw (h, eq-eqb f.inode.device f.inode.device refl, eq-eqb f.inode.number f.inode.number refl) refl

pub links_is : (f : NamedFile) (xs : List NamedFile) → f.has_links ≡ true → first_link f xs ≡ find (of_file f) xs
links_is f xs h = ap (λ (v : Bool). cond v (first_of f.inode.device f.inode.number xs) None) h

pub no_links : (f : NamedFile) (xs : List NamedFile) → f.has_links ≡ false → first_link f xs ≡ None
no_links f xs h = ap (λ (v : Bool). cond v (first_of f.inode.device f.inode.number xs) None) h

pub first_there : (f : NamedFile) (b a : List NamedFile) → f.has_links ≡ true
    → (g : NamedFile) × (find (of_file f) (b ++ f ∷ a) ≡ Some g)
first_there f b a h = by (find (of_file f) b) refl
  where
    by : (o : Option NamedFile) → find (of_file f) b ≡ o → (g : NamedFile) × (find (of_file f) (b ++ f ∷ a) ≡ Some g)
    by None i = (f, find_next (of_file f) b a f i (own_test f h))
    by (Some k) i = (k, find_front (of_file f) b (f ∷ a) k i)
