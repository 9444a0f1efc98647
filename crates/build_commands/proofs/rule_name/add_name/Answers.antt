use Rattle.std.proofs.Common.{◌∙◌, ap, ◌+◌, ◌++◌, drop, arith, refl}
use Rattle.build_commands.specs.Names.{spelled_after}
use Rattle.build_commands.proofs.Spelled.{spelled_next, spelled_end}
use Rattle.build_commands.proofs.rule_name.add_name.Goals as goal

pub loop-byte-preserved : goal.loop-byte-preserved
loop-byte-preserved c =
    let t = c.args.is_target in
    let name = c.args.name.now in
    let i = c.loop-byte.byte-index in
    let next = spelled_next t c.loop-byte.count name i _ _ _ c.loop-byte-test.true refl c.in_ok-add_byte.ensures in (
      ap (λ k. c.add_byte.new.text.items ++ spelled_after t k (drop (i + 1) name))
          c.backslashes_after-count.ensures.value
          ∙ next
          ∙ c.loop-byte.invariant.0,
      omega (arith, c.backslashes_after-count.ensures.bound, c.loop-byte.invariant.1),
    )

pub returns : goal.returns
returns c =
    spelled_end c.args.is_target c.loop-byte.count c.args.name.now c.loop-byte.byte-index _ _ c.loop-byte-test.false
    c.loop-byte.invariant.0
