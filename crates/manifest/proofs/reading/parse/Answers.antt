use Rattle.std.proofs.Common.{◌≡◌, ◌+◌, Ok, arith}
use Rattle.std.proofs.lemmas.Grind.{common_steps}
use Rattle.manifest.proofs.Whole.{whole}
use Rattle.manifest.proofs.reading.parse.Goals as goal

pub invariant_of-result : goal.invariant_of-result
invariant_of-result c =
    let invariant = c.loop-rest.invariant in (
      invariant.kept.sources,
      (
        c.args.text.now,
        whole c.loop-rest.reader
            (c.loop-rest.number + 1) c.loop-rest.rest c.args.text.now c.in_default.not-Some invariant.reads,
      ),
    )

pub loop-rest-preserved-in_ok-read : goal.loop-rest-preserved-in_ok-read
loop-rest-preserved-in_ok-read c =
    let was : c.read.result ≡ Ok c.in_ok-read.field-0 = c.in_ok-read.was in grind (arith, common_steps)
