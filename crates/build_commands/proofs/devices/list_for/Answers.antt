use Rattle.std.proofs.Common.{◌∙◌, ap, sym, ◌++◌, List, ℕ, take}
use Rattle.std.proofs.lemmas.List.{take_all}
use Rattle.build_commands.specs.Devices.{nod_lines}
use Rattle.build_commands.proofs.Added.{one_more}
use Rattle.build_commands.proofs.devices.list_for.Goals as goal

pub loop-words-preserved : goal.loop-words-preserved
loop-words-preserved c =
    let ds = c.args.devices.now in
    let i = c.loop-words.words-index in
    c.in_ok-extend_from_slice.ensures.items
    ∙ ap (λ (text : List ℕ). text ++ c.as_bytes.result.now) c.loop-words.invariant
    ∙ ap (λ (line : List ℕ). nod_lines (take i ds) ++ line) (c.as_bytes.ensures.value ∙ c.in_ok-nod_line.ensures)
    ∙ sym (one_more ds i _ c.loop-words-test.true)

pub returns : goal.returns
returns c = c.loop-words.invariant ∙ ap nod_lines (take_all _ _ c.loop-words-test.false)
