use Rattle.std.proofs.Common.{arith, rules}
use Rattle.rom_fields.proofs.Puts.{put_mid-word}
use Rattle.rom_fields.proofs.word.put_be32.Goals as goal
use Rattle.rom_fields.proofs.word.put_be32.Goals.{then-b-lt4-via-then-b-lt4, then-b-lt4-via-else-b-lt4+then-b-at}

pub returns-clause-put : goal.returns-clause-put
returns-clause-put c =
    put_mid-word c.args.b.now c.args.at c.args.v c.write_u32.new.buf (omega arith) c.write_u32.ensures

pub returns-then-b-lt4-clause-fits : goal.returns-then-b-lt4-clause-fits
returns-then-b-lt4-clause-fits c = (
  (λ h. absurd (search rules)),
  (λ h. elim c.then-b-lt4.branch [
    | then-b-lt4-via-then-b-lt4 w ↦ absurd
        (omega arith)
    | then-b-lt4-via-else-b-lt4+then-b-at w ↦ absurd (omega arith)
  ]),
)
