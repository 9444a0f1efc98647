-- The first lines of two lists of names.
use Rattle.std.proofs.Common.{◌≡◌, ℕ, ◌<◌, Bool, true, false, List, [], ◌∷◌, ◌++◌, refl, sym, ap}
use Rattle.std.proofs.Common.{◌∙◌, subst, ◌+◌, ◌≤◌, None}
use Rattle.std.specs.Prelude.{IfNone, IfSome, IsNone}
use Rattle.std.proofs.lemmas.Bool.{true≢false}
use Rattle.std.proofs.Common.{arith, Option, Some}
use Rattle.std.specs.Cmp.Lexicographic.{slice_cmp}
use Rattle.std.specs.Ordering.{nat_cmp, is_lt}
use Rattle.rom_fields.specs.Written.{Puts, Sink}
use Rattle.rom_tree.specs.Image.{Image}
use Rattle.rom_tree.specs.Names.{Name}
use Rattle.image_compare.specs.declared.steps.Named.{Named}
use Rattle.image_compare.specs.declared.steps.Step.{Step}
use Rattle.image_compare.specs.Diff.{removed_line, added_line, node_lines, names_lines, is_printed}
use Rattle.image_compare.specs.Rows.{IsNext, StepPuts}
use Rattle.image_compare.proofs.Printed.{removed_printed, added_printed}

module _ (places : Bool) (a b : List ℕ) (p q : Name) (ps qs : List Name) where
  pub removed_is : true ≡ is_lt (slice_cmp nat_cmp p.path q.path) → names_lines places a b (p ∷ ps) (q ∷ qs)
      ≡ removed_line p.path ++ names_lines places a b ps (q ∷ qs)
  unfolding names_lines
  removed_is e = rw (sym e) refl

  pub added_is : false ≡ is_lt (slice_cmp nat_cmp p.path q.path) → true ≡ is_lt (slice_cmp nat_cmp q.path p.path)
      → names_lines places a b (p ∷ ps) (q ∷ qs) ≡ added_line q.path ++ names_lines places a b (p ∷ ps) qs
  unfolding names_lines
  added_is e f = rw (sym e, sym f) refl

  pub both_is : false ≡ is_lt (slice_cmp nat_cmp p.path q.path) → false ≡ is_lt (slice_cmp nat_cmp q.path p.path)
      → names_lines places a b (p ∷ ps) (q ∷ qs)
      ≡ node_lines places a b p.path p.node q.node ++ names_lines places a b ps qs
  unfolding names_lines
  both_is e f = rw (sym e, sym f) refl

  pub old_is : names_lines places a b (p ∷ ps) [] ≡ removed_line p.path ++ names_lines places a b ps []
  unfolding names_lines
  old_is = refl

  pub new_is : names_lines places a b [] (q ∷ qs) ≡ added_line q.path ++ names_lines places a b [] qs
  unfolding names_lines
  new_is = refl

pub none_is : (places : Bool) (a b : List ℕ) → names_lines places a b [] [] ≡ []
unfolding names_lines
none_is places a b = refl

abbrev removed : Step
removed = record { old = 1; new = 0; printed = true }

abbrev added : Step
added = record { old = 0; new = 1; printed = true }

module _ (s t : Sink) (places : Bool) (a b : List ℕ) (p q : Name) (ps qs : List Name) where
  as_removed : (z : List ℕ) → z ≡ p.path → Puts s t (removed_line z) → Puts s t (removed_line p.path)
  as_removed z e h = let P : List ℕ → Type 0 = λ v. Puts s t (removed_line v) in subst P e h

  as_added : (z : List ℕ) → z ≡ q.path → Puts s t (added_line z) → Puts s t (added_line q.path)
  as_added z e h = let P : List ℕ → Type 0 = λ v. Puts s t (added_line v) in subst P e h

  compared : (x y u v : List ℕ) (r : Bool) → x ≡ u → y ≡ v → r ≡ is_lt (slice_cmp nat_cmp x y)
      → r ≡ is_lt (slice_cmp nat_cmp u v)
  compared x y u v r d e h = h ∙ (ap (λ (w : List ℕ). is_lt (slice_cmp nat_cmp w y)) d
      ∙ ap (λ (w : List ℕ). is_lt (slice_cmp nat_cmp u w)) e)

  -- the old path is the lesser one
  pub step_removed : (x y z : List ℕ) → x ≡ p.path → y ≡ q.path → z ≡ p.path → true ≡ is_lt (slice_cmp nat_cmp x y)
      → Puts s t (removed_line z) → StepPuts s t places a b (p ∷ ps) (q ∷ qs) removed
  step_removed x y z d e f h k = record {
    text = removed_line p.path;
    puts = as_removed z f k;
    rest = sym (removed_is places a b p q ps qs (compared x y p.path q.path true d e h));
    printed = removed_printed p.path;
  }

  -- the new one is
  pub step_added : (x y v w z : List ℕ) → x ≡ p.path → y ≡ q.path → v ≡ q.path → w ≡ p.path → z ≡ q.path
      → false ≡ is_lt (slice_cmp nat_cmp x y) → true ≡ is_lt (slice_cmp nat_cmp v w)
      → Puts s t (added_line z) → StepPuts s t places a b (p ∷ ps) (q ∷ qs) added
  step_added x y v w z d e i j f h l k = record {
    text = added_line q.path;
    puts = as_added z f k;
    rest = sym (added_is places a b p q ps qs (compared x y p.path q.path false d e h)
        (compared v w q.path p.path true i j l));
    printed = added_printed q.path;
  }

  -- they are the same
  pub step_both : (x y v w z : List ℕ) (r : Bool) → x ≡ p.path → y ≡ q.path → v ≡ q.path → w ≡ p.path → z ≡ p.path
      → false ≡ is_lt (slice_cmp nat_cmp x y) → false ≡ is_lt (slice_cmp nat_cmp v w)
      → Puts s t (node_lines places a b z p.node q.node) → r ≡ is_printed (node_lines places a b z p.node q.node)
      → StepPuts s t places a b (p ∷ ps) (q ∷ qs) (record { old = 1; new = 1; printed = r })
  step_both x y v w z r d e i j f h l k m =
      let P : List ℕ → Type 0 = λ u. Puts s t (node_lines places a b u p.node q.node) in record {
        text = node_lines places a b p.path p.node q.node;
        puts = subst P f k;
        rest = sym (both_is places a b p q ps qs (compared x y p.path q.path false d e h)
            (compared v w q.path p.path false i j l));
        printed = m ∙ ap (λ (u : List ℕ). is_printed (node_lines places a b u p.node q.node)) f;
      }

  -- only one list is left
  pub step_old : (z : List ℕ) → z ≡ p.path → Puts s t (removed_line z) → StepPuts s t places a b (p ∷ ps) [] removed
  step_old z f k = record {
    text = removed_line p.path;
    puts = as_removed z f k;
    rest = sym (old_is places a b p q ps qs);
    printed = removed_printed p.path;
  }

  pub step_new : (z : List ℕ) → z ≡ q.path → Puts s t (added_line z) → StepPuts s t places a b [] (q ∷ qs) added
  step_new z f k = record {
    text = added_line q.path;
    puts = as_added z f k;
    rest = sym (new_is places a b p q ps qs);
    printed = added_printed q.path;
  }

-- ---- the next name of a list

pub nothing_next : (m : Image) (o : Option Named) (ns : List Name) → IsNone o → IsNext m o ns → ns ≡ []
nothing_next m None ns h k = k
nothing_next m (Some n) ns h k = absurd (true≢false h)

-- a step stays within a list
pub step_within : (o : Option Named) (i n r : ℕ) → i ≤ n → IfSome o (λ (x : Named). i < n) → r ≤ 1
    → IfNone o (r ≡ 0) → i + r ≤ n
step_within None i n r h k l e = omega (arith, h, e)
step_within (Some x) i n r h k l e = omega (arith, k, l)
