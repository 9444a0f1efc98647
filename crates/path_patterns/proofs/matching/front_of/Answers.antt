use Rattle.std.proofs.Common.{arith, sym, ap, ◌∙◌, ◌+◌, ◌<◌, ℕ, Bool, List, length, drop}
use Rattle.std.specs.Prelude.{◌&&◌}
use Rattle.path_patterns.specs.Patterns.{fits, has}
use Rattle.path_patterns.proofs.Rows.{one_at, none_at}
use Rattle.std.proofs.lemmas.Grind.{get_or_default_zero}
use Rattle.path_patterns.proofs.matching.front_of.Goals.{then-n-path-via-then-n-path}
use Rattle.path_patterns.proofs.matching.front_of.Goals.{then-n-path-via-else-n-path+then-not-has}
use Rattle.path_patterns.proofs.matching.front_of.Goals as goal

pub returns-then-n-path-clause-none : goal.returns-then-n-path-clause-none
returns-then-n-path-clause-none c =
    let ps = c.args.pieces.now in
    let cs : List ℕ = c.args.path.now in
    let n : ℕ = c.loop-n.n in
    let p = c.index-pieces-n.result in
    let s = c.in-One.set in
    let is = sym c.index-pieces-n.is ∙ c.in-One.is in
    c.loop-n.invariant.1 ∙ elim c.then-n-path.branch [
      | then-n-path-via-then-n-path w ↦ none_at ps cs n p s c.loop-n-test.true (omega (arith, w.if-n-path.true)) is
      | then-n-path-via-else-n-path+then-not-has w ↦
          one_at ps cs n p s c.loop-n-test.true (omega (arith, w.if-n-path.false)) is
          ∙ ap (λ (b : Bool). b && fits (drop (n + 1) ps) (drop (n + 1) cs))
          (ap (has s) (sym (w.index-path-n.is ∙ get_or_default_zero cs n w.index-path-n.result w.if-n-path.false))
          ∙ sym w.has.ensures ∙ w.if-not-has.true)
    ]

pub loop-n-preserved : goal.loop-n-preserved
loop-n-preserved c =
    let ps = c.args.pieces.now in
    let cs : List ℕ = c.args.path.now in
    let n : ℕ = c.loop-n.n in
    let short : n < length cs = c.if-n-path.false in
    let is = sym c.index-pieces-n.is ∙ c.in-One.is in
    let next = c.index-path-n.is ∙ get_or_default_zero cs n c.index-path-n.result short in
    let fit = ap (has c.in-One.set) (sym next) ∙ sym c.has.ensures ∙ c.if-not-has.false in (
      omega (arith, short),
      c.loop-n.invariant.1 ∙ one_at ps cs n c.index-pieces-n.result c.in-One.set c.loop-n-test.true short is
          ∙ ap (λ (b : Bool). b && fits (drop (n + 1) ps) (drop (n + 1) cs)) fit,
    )
