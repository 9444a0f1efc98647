use Rattle.std.proofs.Common.{◌≡◌, false, List, ℕ, [], ◌∷◌, length, refl, rules, arith}
use Rattle.std.specs.Prelude.{◌==◌}
use Rattle.std.proofs.lemmas.Grind.{common_steps}
use Rattle.manifest.specs.Texts.{is_empty}
use Rattle.manifest.proofs.fields.split.Goals as goal

not_empty : (field : List ℕ) → false ≡ (length field == 0) → is_empty field ≡ false
not_empty [] h = absurd (cc)
not_empty (b ∷ bs) h = refl

pub loop-rest-preserved : goal.loop-rest-preserved
loop-rest-preserved c = let field : is_empty c.cut.result.0.now ≡ false =
    not_empty c.cut.result.0.now (search rules) in grind (arith, common_steps)
