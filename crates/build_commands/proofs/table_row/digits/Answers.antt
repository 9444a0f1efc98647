use Rattle.std.proofs.Common.{ap, ◌+◌, ℕ, List, drop, sym, ◌∙◌, ◌^◌, arith}
use Rattle.std.proofs.lemmas.List.{at_drop_more, at_drop_all}
use Rattle.manifest.specs.Texts.{below, digits_from}
use Rattle.manifest.proofs.Digits.{digit_step, ends_large, below_small}
use Rattle.build_commands.proofs.table_row.digits.Goals as goal

pub returns-in_err-number : goal.returns-in_err-number
returns-in_err-number c =
    let rest : List ℕ = drop (c.loop-byte.byte-index + 1) c.args.text.now in
    c.from_residual-in_err-number.ensures
    ∙ sym (ends_large (2 ^ 64) c.args.base _ rest (omega (arith, c.requires.0))
    (sym c.with_digit.ensures ∙ c.in_err-number.was))
    ∙ ap (below (2 ^ 64)) (sym (digit_step c.args.base c.loop-byte.number _ _ rest
    (sym c.digit.ensures ∙ c.in_ok-digit.was)))
    ∙ sym (at_drop_more (λ bs. below (2 ^ 64)
    (digits_from c.args.base c.loop-byte.number bs)) c.args.text.now c.loop-byte.byte-index 0 c.loop-byte-test.true)
    ∙ c.loop-byte.invariant.reads

pub returns : goal.returns
returns c =
    sym (below_small (2 ^ 64) c.loop-byte.number c.loop-byte.invariant.fits)
    ∙ sym (at_drop_all (λ bs. below (2 ^ 64)
    (digits_from c.args.base c.loop-byte.number bs)) c.args.text.now c.loop-byte.byte-index c.loop-byte-test.false)
    ∙ c.loop-byte.invariant.reads
