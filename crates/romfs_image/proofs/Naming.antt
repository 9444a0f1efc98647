-- The faults of a name, and the facts of a row without them.
use Rattle.std.proofs.Common.{◌≡◌, ◌≢◌, ℕ, List, length, Option, None, Some, refl, sym, ap, subst, ◌∙◌, arith}
use Rattle.record_forest.specs.declared.reference.Row.{Row}
use Rattle.record_forest.specs.Faults.{IsLeast}
use Rattle.romfs_format.specs.Record.{name_of, type_of}
use Rattle.romfs_format.specs.Tree.{follow}
use Rattle.rom_tree.specs.Dots.{dot, dot_dot}
use Rattle.romfs_image.specs.Phases.{Repeats, IsNameFault, repeated, here_astray, above_astray, root_renamed}
use Rattle.romfs_image.specs.Phases.{link_astray, IsWellNamed}

-- each number of such a fault is at least 23, and at least 24 if the name is not repeated
module _ {b : List ℕ} {r : ℕ} {all before : List Row} {x : Row} where
  pub least_repeated : Repeats b before x → IsLeast (IsNameFault b r all before x) 23
  least_repeated h = record {
    here = repeated refl h;
    least = λ n f. elim f [
      | repeated e k ↦ omega arith
      | here_astray e k l ↦ omega arith
      | above_astray e k l ↦ omega arith
      | root_renamed e k l ↦ omega arith
      | link_astray e k l m ↦ omega arith
    ];
  }

  pub least_astray : (Repeats b before x → ⊥) → IsNameFault b r all before x 24
      → IsLeast (IsNameFault b r all before x) 24
  least_astray fresh h = record {
    here = h;
    least = λ n f. elim f [
      | repeated e k ↦ absurd (fresh k)
      | here_astray e k l ↦ omega arith
      | above_astray e k l ↦ omega arith
      | root_renamed e k l ↦ omega arith
      | link_astray e k l m ↦ omega arith
    ];
  }

  pub least_link : (Repeats b before x → ⊥) → (name_of b x.offset ≡ dot → follow b all 8 x.offset ≡ Some x.directory)
      → (name_of b x.offset ≡ dot_dot → follow b all 8 x.offset ≡ Some x.parent)
      → (x.offset ≡ r → name_of b x.offset ≡ dot) → IsNameFault b r all before x 25
      → IsLeast (IsNameFault b r all before x) 25
  least_link fresh here above root h = record {
    here = h;
    least = λ n f. elim f [
      | repeated e k ↦ absurd (fresh k)
      | here_astray e k l ↦ absurd (l (here k))
      | above_astray e k l ↦ absurd (l (above k))
      | root_renamed e k l ↦ absurd (l (root k))
      | link_astray e k l m ↦ omega arith
    ];
  }

  pub well_faultless : IsWellNamed b r all before x → (n : ℕ) → IsNameFault b r all before x n → ⊥
  well_faultless w n f = elim f [
    | repeated e k ↦ w.fresh k
    | here_astray e k l ↦ l (w.leads.here k)
    | above_astray e k l ↦ l (w.leads.above k)
    | root_renamed e k l ↦ l (w.root k)
    | link_astray e k l m ↦ let q = w.leads.link k l in m q.0 q.1 q.2
  ]

-- `.` is one of the two, and not the other
pub dot_apart : (name : List ℕ) → name ≡ dot → name ≡ dot_dot → ⊥
dot_apart name e f = let z = ap length (sym e ∙ f) in absurd (omega arith)

-- if a record leads to no record, or to a directory
pub no_target : (b : List ℕ) (o : Option ℕ) → o ≡ None → (q : ℕ) → o ≡ Some q → type_of b q ≢ 1 → ⊥
no_target b o e q f n = let z : None ≡ Some q = sym e ∙ f in absurd (cc)

pub directory_target : (b : List ℕ) (o : Option ℕ) (p : ℕ) → o ≡ Some p → type_of b p ≡ 1 → (q : ℕ) → o ≡ Some q
    → type_of b q ≢ 1 → ⊥
directory_target b o p e t q f n =
    let z : Some p ≡ Some q = sym e ∙ f in let i : p ≡ q = cc in n (subst (λ (v : ℕ). type_of b v ≡ 1) i t)
