use Rattle.std.proofs.Common.{ℕ, ◌+◌, ◌-◌, List, [], ◌∷◌, map, length, sym, ap, ◌∙◌}
use Rattle.path_patterns.specs.Reading.{Part, part_of, parts_from}
use Rattle.std.proofs.Common.{refl}
use Rattle.std.proofs.lemmas.List.{map-append}
use Rattle.path_patterns.proofs.Steps.{parts_end, parts_more}
use Rattle.path_patterns.proofs.reading.pieces_of.Goals as goal

pub returns-then-is_nothing-clause-ok : goal.returns-then-is_nothing-clause-ok
returns-then-is_nothing-clause-ok c =
    sym c.loop-i.invariant
    ∙ parts_end (length c.args.text.now) c.loop-i.i (map part_of c.loop-i.pieces.items) c.loop-i.rest.now
    c.loop-i-test.true (sym c.if-is_nothing.ensures)

pub returns-in-Err-clause-err : goal.returns-in-Err-clause-err
returns-in-Err-clause-err c = λ known.
    sym c.loop-i.invariant
    ∙ parts_more (length c.args.text.now) c.loop-i.i (map part_of c.loop-i.pieces.items) c.loop-i.rest.now
    c.loop-i-test.true (sym c.if-is_nothing.ensures)
    ∙ rw (c.in-Err.ensures.err known) refl

pub loop-i-preserved : goal.loop-i-preserved
loop-i-preserved c =
    let n : ℕ = length c.args.text.now in
    let i : ℕ = c.loop-i.i in
    let old : List Part = map part_of c.loop-i.pieces.items in
    let more = parts_more n i old c.loop-i.rest.now c.loop-i-test.true (sym c.if-is_nothing.ensures) in
    let step = more ∙ rw c.in-Ok.ensures.ok refl in
    let pushed = ap (map part_of) c.in_ok-push.ensures.items
    ∙ map-append part_of c.loop-i.pieces.items (c.in-Ok.read.0 ∷ []) in
    ap (λ (ps : List Part). parts_from (n - (i + 1)) ps c.in-Ok.read.1.now) pushed
    ∙ sym step ∙ c.loop-i.invariant
