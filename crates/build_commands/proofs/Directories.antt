-- The directories of a list, as a set of their paths.
use Rattle.std.proofs.Common.{◌≡◌, ℕ, ◌+◌, ◌<◌, ◌&&◌, ◌||◌, Bool, true, false, cond, List, get_or, length, take, refl}
use Rattle.std.proofs.Common.{sym}
use Rattle.std.proofs.Common.{ap, ◌∙◌, Ordering}
use Rattle.std.specs.BTreeSet.{BTreeSet, UpdatesBy}
use Rattle.std.specs.Borrow.{Bor}
use Rattle.std.specs.Cmp.Lexicographic.{slice_cmp}
use Rattle.std.specs.Ordering.{nat_cmp}
use Rattle.std.specs.Str.{IsUtf8, bytes_eq, is_utf8}
use Rattle.std.proofs.lemmas.List.Folds.{list_any_more}
use Rattle.std.proofs.lemmas.Map.Text.{is_eq-slice_cmp}
use Rattle.std.proofs.lemmas.Str.{IsUtf8-from_is_utf8}
use Rattle.build_commands.specs.Fitting.{has_directory, holds}
use Rattle.build_commands.specs.Inventory.{path_of}
use Rattle.build_commands.specs.Overlay.{has_path, is_directory}
use Rattle.build_commands.specs.declared.inventory.NamedFile.{NamedFile}

pub no_text : (bs : List ℕ) → (IsUtf8 bs → ⊥) → is_utf8 bs ≡ false
no_text bs h = elim (is_utf8 bs) as (λ t. is_utf8 bs ≡ t → t ≡ false) [
  | true ↦ λ e. absurd (h (IsUtf8-from_is_utf8 bs e))
  | false ↦ λ e. refl
] refl

R : Bor (List ℕ) → Bor (List ℕ) → Ordering
R x y = slice_cmp nat_cmp x.now y.now

or_last : (a b : Bool) → cond b true a ≡ a || b
or_last true true = refl
or_last true false = refl
or_last false true = refl
or_last false false = refl

or_false : (a : Bool) → a || false ≡ a
or_false true = refl
or_false false = refl

-- one more file, which is a directory
pub one_more : (set new : BTreeSet (Bor (List ℕ))) (k : Bor (List ℕ)) (fs : List NamedFile) (i : ℕ) (f : NamedFile)
    → i < length fs → f ≡ get_or fs i f → is_directory f ≡ true → k.now ≡ path_of f
    → UpdatesBy (λ x y. slice_cmp nat_cmp x.now y.now) (λ y. slice_cmp nat_cmp k.now y.now) set new true
    → ((p : List ℕ) → holds set p ≡ has_directory (take i fs) p)
    → (p : List ℕ) → holds new p ≡ has_directory (take (i + 1) fs) p
one_more set new k fs i f l is d path u h p =
    let test : NamedFile → Bool = λ g. is_directory g && has_path p g in
    let here : test f ≡ bytes_eq (path_of f) p = ap (λ (b : Bool). b && has_path p f) d in
    let at_k : bytes_eq k.now p ≡ bytes_eq (path_of f) p = ap (λ (q : List ℕ). bytes_eq q p) path in
    u.0 (record k { now = p })
    ∙ ap (λ (b : Bool). cond b true (holds set p)) (is_eq-slice_cmp k.now p ∙ at_k ∙ sym here)
    ∙ or_last (holds set p) (test f)
    ∙ ap (λ (b : Bool). b || test f) (h p)
    ∙ ap (λ (g : NamedFile). has_directory (take i fs) p || test g) is
    ∙ sym (list_any_more test fs i f l)

-- one more file, which is no directory
pub none_more : (set : BTreeSet (Bor (List ℕ))) (fs : List NamedFile) (i : ℕ) (f : NamedFile)
    → i < length fs → f ≡ get_or fs i f → is_directory f ≡ false
    → ((p : List ℕ) → holds set p ≡ has_directory (take i fs) p)
    → (p : List ℕ) → holds set p ≡ has_directory (take (i + 1) fs) p
none_more set fs i f l is d h p =
    let test : NamedFile → Bool = λ g. is_directory g && has_path p g in
    let here : test f ≡ false = ap (λ (b : Bool). b && has_path p f) d in
    h p
    ∙ sym (or_false (has_directory (take i fs) p))
    ∙ ap (λ (b : Bool). has_directory (take i fs) p || b) (sym here)
    ∙ ap (λ (g : NamedFile). has_directory (take i fs) p || test g) is
    ∙ sym (list_any_more test fs i f l)
