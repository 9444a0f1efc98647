use Rattle.std.proofs.Common.{◌≡◌, ◌≢◌, ℕ, List, refl, sym, ap, subst, ◌∙◌, arith}
use Rattle.std.proofs.lemmas.Bool.{false≢true}
use Rattle.rom_fields.specs.declared.fault.Fault.{Fault}
use Rattle.romfs_format.specs.Superblock.{accessible, HasSum, HasRoot, short, no_magic, bad_size, bad_sum, no_root}
use Rattle.romfs_format.specs.Superblock.{root_kind}
use Rattle.romfs_format.specs.Tree.{root_of}
use Rattle.romfs_format.specs.Record.{type_of}
use Rattle.romfs_image.proofs.Reading.{root_above}
use Rattle.romfs_image.proofs.superblock.read_superblock.Goals as goal

pub returns-then-bytes-lt32-clause-fault : goal.returns-then-bytes-lt32-clause-fault
returns-then-bytes-lt32-clause-fault c = short (omega arith) refl

pub returns-then-not-begins-clause-fault : goal.returns-then-not-begins-clause-fault
returns-then-not-begins-clause-fault c =
    no_magic (omega arith) (λ m. false≢true (sym c.if-not-begins.true ∙ c.begins.ensures.1 m)) refl

pub returns-in_default-clause-fault : goal.returns-in_default-clause-fault
returns-in_default-clause-fault c =
    bad_size (omega arith) (c.begins.ensures.0 c.if-not-begins.false) c.in_default.ensures.part refl

-- what a test of the accessible bytes says, if they are these
moved : (P : List ℕ → Type 0) (b bytes : List ℕ) → b ≡ accessible bytes → P b → P (accessible bytes)
moved P b bytes e h = subst P e h

pub returns-then-not-has_sum-clause-fault : goal.returns-then-not-has_sum-clause-fault
returns-then-not-has_sum-clause-fault c =
    bad_sum (omega arith) (c.begins.ensures.0 c.if-not-begins.false) c.in-Some.ensures.part.0
    (moved (λ b. HasSum b → ⊥) _ _ c.in-Some.ensures.part.1
    (λ m. false≢true (sym c.if-not-has_sum.true ∙ c.has_sum.ensures.1 m))) refl

pub root_offset-requires-clause-small : goal.root_offset-requires-clause-small
root_offset-requires-clause-small c = c.in-Some.ensures.small

pub returns-in_default-root_offset-clause-fault : goal.returns-in_default-root_offset-clause-fault
returns-in_default-root_offset-clause-fault c =
    no_root (omega arith) (c.begins.ensures.0 c.if-not-begins.false) c.in-Some.ensures.part.0
    (moved HasSum _ _ c.in-Some.ensures.part.1 (c.has_sum.ensures.0 c.if-not-has_sum.false))
    (moved (λ b. HasRoot b → ⊥) _ _ c.in-Some.ensures.part.1 c.in_default-root_offset.ensures) refl

pub invariant_of-b : goal.invariant_of-b
invariant_of-b c =
    let h = c.in-Some-root_offset.ensures.0.1 in
    let e = c.in-Some-root_offset.ensures.1 in
    record {
      small = c.in-Some.ensures.small;
      below = root_above c.in-Some.part.now c.in-Some-root_offset.root e;
      header = omega arith;
    }

pub returns-then-type_at-ne1-clause-fault : goal.returns-then-type_at-ne1-clause-fault
returns-then-type_at-ne1-clause-fault c =
    let b = c.in-Some.part.now in
    let cut = c.in-Some.ensures.part.1 in
    let root = c.in-Some-root_offset.ensures.1 in
    let kind : type_of b (root_of b) ≢ 1 =
    subst (λ (r : ℕ). type_of b r ≢ 1) root (λ z. c.if-type_at-ne1.true (c.type_at.ensures ∙ z)) in
    root_kind (omega arith) (c.begins.ensures.0 c.if-not-begins.false) c.in-Some.ensures.part.0
    (moved HasSum _ _ cut (c.has_sum.ensures.0 c.if-not-has_sum.false))
    (moved HasRoot _ _ cut c.in-Some-root_offset.ensures.0)
    (moved (λ x. type_of x (root_of x) ≢ 1) _ _ cut kind)
    (ap (λ (r : ℕ). let e : Fault = record { number = 9; at = r } in e) (root ∙ ap root_of cut))
