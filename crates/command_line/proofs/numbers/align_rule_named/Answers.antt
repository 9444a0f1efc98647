use Rattle.std.proofs.Common.{◌≡◌, ◌+◌, ◌∷◌, ◌++◌, List, ℕ, drop, subst, sym, ap, ◌∙◌}
use Rattle.std.proofs.lemmas.Bool.{eqb-true}
use Rattle.std.proofs.lemmas.List.{take_rest}
use Rattle.command_line.specs.Numbers.{IsAlignRule, align_named, pattern_and_align}
use Rattle.command_line.specs.declared.request.AlignRule.{AlignRule}
use Rattle.command_line.proofs.Loops.{parted}
use Rattle.command_line.proofs.numbers.align_rule_named.Goals as goal

pub returns-in-Ok : goal.returns-in-Ok
returns-in-Ok c =
    let word : List ℕ = c.as_bytes-word.result.now in
    let equals : ℕ = c.in_ok-equals.equals in
    let r : AlignRule = record { pattern = c.in-Ok.pattern; align = c.in_ok-align.align } in
    let parts =
    parted word equals 61 c.in_ok-equals.ensures.0.high (eqb-true _ _ c.in_ok-equals.ensures.1)
    ∙ ap (λ (p : List ℕ). p ++ 61 ∷ drop (equals + 1) word) (sym c.in-Ok.ensures.cases.0) in
    subst (λ (w : List ℕ). IsAlignRule w r) c.as_bytes-word.ensures.value
    (pattern_and_align (drop (equals + 1) word) parts
    (sym (ap align_named (take_rest word (equals + 1))) ∙ sym c.in_ok-align.ensures))
