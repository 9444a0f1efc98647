-- What the comparisons of shapes and of digests test.
use Rattle.std.proofs.Common.{◌≡◌, ℕ, Ordering, Less, Equal, Greater, List, refl, ap₂, ◌∙◌, arith}
use Rattle.std.specs.Prelude.{◌==◌, ◌&&◌}
use Rattle.std.specs.Cmp.Lexicographic.{slice_cmp}
use Rattle.std.specs.Ordering.{eq_by_cmp, is_eq, nat_cmp, ordering_then}
use Rattle.std.proofs.lemmas.Bool.Decides.{nat_tests}
use Rattle.std.proofs.lemmas.Map.Text.{is_eq-slice_cmp}
use Rattle.build_commands.specs.Equal.{same_contents, same_shape}
use Rattle.build_commands.specs.declared.equal.Shape.{Shape}

equal_then : (x y : Ordering) → is_eq (ordering_then x y) ≡ (is_eq x && is_eq y)
equal_then Less y = refl
equal_then Equal y = refl
equal_then Greater y = refl

equal_numbers : (x y : ℕ) → is_eq (nat_cmp x y) ≡ (x == y)
equal_numbers x y = grind (arith, nat_tests)

abbrev pub shape_cmp : Shape → Shape → Ordering
shape_cmp s t =
    ordering_then (nat_cmp s.len t.len)
    (ordering_then (nat_cmp s.mode t.mode) (ordering_then (nat_cmp s.uid t.uid) (nat_cmp s.gid t.gid)))

pub shapes_tested : (s t : Shape) → eq_by_cmp shape_cmp s t ≡ same_shape s t
shapes_tested s t =
    equal_then (nat_cmp s.len t.len)
    (ordering_then (nat_cmp s.mode t.mode) (ordering_then (nat_cmp s.uid t.uid) (nat_cmp s.gid t.gid)))
    ∙ ap₂ ◌&&◌ (equal_numbers s.len t.len)
    (equal_then (nat_cmp s.mode t.mode) (ordering_then (nat_cmp s.uid t.uid) (nat_cmp s.gid t.gid))
    ∙ ap₂ ◌&&◌ (equal_numbers s.mode t.mode)
    (equal_then (nat_cmp s.uid t.uid) (nat_cmp s.gid t.gid)
    ∙ ap₂ ◌&&◌ (equal_numbers s.uid t.uid) (equal_numbers s.gid t.gid)))

abbrev pub contents_cmp : Shape × List ℕ → Shape × List ℕ → Ordering
contents_cmp x y = ordering_then (shape_cmp x.0 y.0) (slice_cmp nat_cmp x.1 y.1)

pub contents_tested : (x y : Shape × List ℕ) → eq_by_cmp contents_cmp x y ≡ same_contents x y
contents_tested x y =
    equal_then (shape_cmp x.0 y.0) (slice_cmp nat_cmp x.1 y.1)
    ∙ ap₂ ◌&&◌ (shapes_tested x.0 y.0) (is_eq-slice_cmp x.1 y.1)
