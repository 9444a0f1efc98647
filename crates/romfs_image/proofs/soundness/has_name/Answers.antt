use Rattle.std.proofs.Common.{ℕ, List, inr, subst, sym, ◌∙◌}
use Rattle.std.proofs.lemmas.Bool.{false≢true}
use Rattle.std.specs.List.{Contains}
use Rattle.romfs_image.proofs.Reading.{name_slice, before_length}
use Rattle.romfs_image.proofs.soundness.has_name.Goals as goal

pub returns-then-has_slash-clause-other : goal.returns-then-has_slash-clause-other
returns-then-has_slash-clause-other c =
    let e = name_slice c.args.b.now.bytes.now c.args.at c.args.len
    (before_length c.args.b.now.bytes.now c.args.at c.args.len c.requires.len) in
    inr (subst (λ (x : List ℕ). Contains x 47) e (c.has_slash.ensures.0 c.if-has_slash.true))

pub returns-clause-no_slash : goal.returns-clause-no_slash
returns-clause-no_slash c =
    let e = name_slice c.args.b.now.bytes.now c.args.at c.args.len
    (before_length c.args.b.now.bytes.now c.args.at c.args.len c.requires.len) in
    λ h. let k = subst (λ (x : List ℕ). Contains x 47) (sym e) h in false≢true
    (sym c.if-has_slash.false ∙ c.has_slash.ensures.1 k)
