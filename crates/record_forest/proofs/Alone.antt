-- Where the root is not valid, only it is reached.
use Rattle.std.proofs.Common.{◌≡◌, ◌<◌, ℕ, [], ◌∷◌, refl, sym, subst, ◌∙◌, arith}
use Rattle.record_forest.specs.declared.reference.Reference.{Reference}
use Rattle.rom_fields.specs.declared.fault.Fault.{Fault}
use Rattle.record_forest.specs.References.{References, Reached, top, more}
use Rattle.record_forest.specs.Faults.{TooMany, HasFault, IsLeastFault}

module _ {g : References} {Sound : Reference → Type 0} (unsound : Sound g.top → ⊥) where
  alone : (x : Reference) → Reached g Sound x → x ≡ g.top
  alone x (top e) = e
  alone x (more {x = z} reached sound k e live) = absurd (unsound (subst Sound (alone z reached) sound))

  pub alone_few : (most : ℕ) → 0 < most → TooMany g Sound most → ⊥
  alone_few most some ([], apart, each, over) = omega arith
  alone_few most some (x ∷ [], apart, each, over) = omega arith
  alone_few most some (x ∷ y ∷ zs, apart, each, over) = apart.0.0 (alone x each.0 ∙ sym (alone y each.1.0))

  pub alone_fault : (Faulty : Reference → Fault → Type 0) (e : Fault) → IsLeastFault (Faulty g.top) e
      → IsLeastFault (HasFault g Sound Faulty) e
  alone_fault Faulty e h = record {
    here = record { reference = g.top; reached = top refl; faulty = h.here };
    least = λ d f. h.least d (subst (λ x. Faulty x d) (alone f.reference f.reached) f.faulty);
  }

-- no reference at all is allowed
pub none_allowed : (g : References) (Sound : Reference → Type 0) (most : ℕ) → most ≡ 0 → TooMany g Sound most
none_allowed g Sound most e = (g.top ∷ [], (tt, tt), (top refl, tt), omega arith)
