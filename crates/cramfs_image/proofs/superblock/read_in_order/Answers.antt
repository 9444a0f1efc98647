use Rattle.std.proofs.Common.{◌≡◌, ℕ, List, refl, sym, subst, ◌∙◌, arith}
use Rattle.std.proofs.lemmas.Bool.{false≢true}
use Rattle.cramfs_format.specs.declared.order.Order.{Order}
use Rattle.cramfs_format.specs.Superblock.{accessible, HasFlags, HasCrc, HasSignature, HasRoot, bad_size, bad_flags}
use Rattle.cramfs_format.specs.Superblock.{bad_crc, unsigned, bad_root}
use Rattle.cramfs_image.proofs.superblock.read_in_order.Goals as goal

pub returns-in_default-clause-fault : goal.returns-in_default-clause-fault
returns-in_default-clause-fault c = bad_size c.requires.long c.requires.begins c.in_default.ensures.part refl

-- what a test of the accessible bytes says, if they are these
moved : (o : Order) (P : List ℕ → Type 0) (b bytes : List ℕ) → b ≡ accessible o bytes → P b → P (accessible o bytes)
moved o P b bytes e h = subst P e h

pub returns-then-word-ge-ALL_FLAGS-clause-fault : goal.returns-then-word-ge-ALL_FLAGS-clause-fault
returns-then-word-ge-ALL_FLAGS-clause-fault c = bad_flags c.requires.long c.requires.begins c.in-Some.ensures.part.0
    (moved c.args.order (λ b. HasFlags c.args.order b → ⊥) _ _ c.in-Some.ensures.part.1
    (λ h. let e = c.word.ensures in let l = c.if-word-ge-ALL_FLAGS.true in omega arith)) refl

pub returns-then-not-has_crc-clause-fault : goal.returns-then-not-has_crc-clause-fault
returns-then-not-has_crc-clause-fault c = bad_crc c.requires.long c.requires.begins c.in-Some.ensures.part.0
    (moved c.args.order (HasFlags c.args.order) _ _ c.in-Some.ensures.part.1
    (let e = c.word.ensures in let l = c.if-word-ge-ALL_FLAGS.false in omega arith))
    (moved c.args.order (λ b. HasCrc c.args.order b
    → ⊥) _ _ c.in-Some.ensures.part.1 c.if-not-has_crc.ensures.wrong) refl

pub returns-then-not-has_signature-clause-fault : goal.returns-then-not-has_signature-clause-fault
returns-then-not-has_signature-clause-fault c = unsigned c.requires.long c.requires.begins c.in-Some.ensures.part.0
    (moved c.args.order (HasFlags c.args.order) _ _ c.in-Some.ensures.part.1
    (let e = c.word.ensures in let l = c.if-word-ge-ALL_FLAGS.false in omega arith))
    (moved c.args.order (HasCrc c.args.order) _ _ c.in-Some.ensures.part.1 c.if-not-has_crc.ensures.right)
    (moved c.args.order (λ b. HasSignature b → ⊥) _ _ c.in-Some.ensures.part.1
    (λ m. false≢true (sym c.if-not-has_signature.true ∙ c.has_signature.ensures.1 m))) refl

pub returns-then-not-has_root-clause-fault : goal.returns-then-not-has_root-clause-fault
returns-then-not-has_root-clause-fault c = bad_root c.requires.long c.requires.begins c.in-Some.ensures.part.0
    (moved c.args.order (HasFlags c.args.order) _ _ c.in-Some.ensures.part.1
    (let e = c.word.ensures in let l = c.if-word-ge-ALL_FLAGS.false in omega arith))
    (moved c.args.order (HasCrc c.args.order) _ _ c.in-Some.ensures.part.1 c.if-not-has_crc.ensures.right)
    (moved c.args.order HasSignature _ _ c.in-Some.ensures.part.1
    (c.has_signature.ensures.0 c.if-not-has_signature.false))
    (moved c.args.order (λ b. HasRoot c.args.order b
    → ⊥) _ _ c.in-Some.ensures.part.1 c.if-not-has_root.ensures.other) refl

pub returns-clause-ok : goal.returns-clause-ok
returns-clause-ok c = record {
  long = c.requires.long;
  begins = c.requires.begins;
  size = c.in-Some.ensures.part.0;
  cut = c.in-Some.ensures.part.1;
  flags = let e = c.word.ensures in let l = c.if-word-ge-ALL_FLAGS.false in omega arith;
  crc = c.if-not-has_crc.ensures.right;
  signed = c.has_signature.ensures.0 c.if-not-has_signature.false;
  root = c.if-not-has_root.ensures.root;
}
