use Rattle.std.proofs.Common.{◌≡◌, ◌∷◌, [], ◌++◌, List, length, refl, sym, ap, subst, ◌∙◌, arith}
use Rattle.tree_extract.specs.Choices.{kinds_below, kind_chosen, kind_in}
use Rattle.tree_extract.specs.declared.tree.Kind.{Kind}
use Rattle.tree_extract.proofs.Firsts.{kinds_next, kind_is, noted_next, noted_first, file_within}
use Rattle.tree_extract.proofs.choosing.choose.Goals as goal

pub loop-index-init : goal.loop-index-init
loop-index-init c =
    let start = noted_first c.args.kinds.now c.args.chosen.now c.new-firsts.result.items c.resize.new.self.items _
    c.new-firsts.ensures.items c.new-firsts.ensures.len c.in_ok-resize.ensures.items in
    (c.new-made.ensures.items, start.0, start.1)

pub choice-requires : goal.choice-requires
choice-requires c =
    let ks : List Kind = c.args.kinds.now in
    file_within ks (kind_in ks c.loop-index.index) c.loop-index.index (length c.loop-index.firsts.items)
    c.loop-index.invariant.1 c.loop-index-test.true
    (λ first is. c.requires.further c.loop-index.index first c.loop-index-test.true is)

pub loop-index-preserved : goal.loop-index-preserved
loop-index-preserved c =
    let ks : List Kind = c.args.kinds.now in
    let i = c.loop-index.invariant in
    let h = c.loop-index-test.true in
    let kind : c.choice.result ≡ kind_chosen ks c.args.chosen.now c.loop-index.index =
    c.choice.ensures.kind ∙ kind_is ks c.args.chosen.now c.loop-index.index c.loop-index.firsts.items i.2 h
    (λ first is. c.requires.further c.loop-index.index first h is) in (
      c.in_ok-push.ensures.items
          ∙ ap (λ v. v ++ c.choice.result ∷ []) i.0
          ∙ ap (λ v. kinds_below ks c.args.chosen.now c.loop-index.index ++ v ∷ []) kind
          ∙ sym (kinds_next ks c.args.chosen.now c.loop-index.index),
      c.choice.ensures.length ∙ i.1,
      noted_next ks c.args.chosen.now c.loop-index.index c.loop-index.firsts.items i.2 c.choice.new.firsts.items
          c.choice.ensures.noted,
    )

pub returns : goal.returns
returns c =
    let all : c.loop-index.index ≡ length c.args.kinds.now =
    omega (arith, c.loop-index.auto.index-end, c.loop-index-test.false) in
    c.loop-index.invariant.0 ∙ ap (kinds_below c.args.kinds.now c.args.chosen.now) all
