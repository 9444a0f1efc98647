-- The line to which a path leads, by its index.
use Rattle.std.proofs.Common.{◌≡◌, ℕ, List, Option, Some, None, refl}
use Rattle.std.specs.List.{slice_get}
use Rattle.manifest.specs.declared.line.Line.{Line}
use Rattle.plan_rows.specs.Files.{IsIndexOf}

pub no_own : (all : List Line) (l : Option Line) → IsIndexOf all None l → None ≡ l
no_own all None h = refl
no_own all (Some l) h = absurd (cc)

pub own_past : (all : List Line) (i : ℕ) (l : Option Line) → IsIndexOf all (Some i) l → slice_get all i ≡ None
    → None ≡ l
own_past all i None h e = refl
own_past all i (Some l) h e = absurd (cc)

pub own_is : (all : List Line) (i : ℕ) (x : Line) (l : Option Line) → IsIndexOf all (Some i) l
    → slice_get all i ≡ Some x → Some x ≡ l
own_is all i x None h e = absurd (cc)
own_is all i x (Some l) h e = cc
