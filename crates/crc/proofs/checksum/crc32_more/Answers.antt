use Rattle.std.proofs.Common.{refl, [], ◌∙◌}
use Rattle.crc.proofs.Joins.{crc_more, crc_none}
use Rattle.crc.proofs.checksum.crc32_more.Goals as goal

pub returns-clause-more : goal.returns-clause-more
returns-clause-more c = λ xs e. crc_more c.args.c c.remainder.result _ xs c.args.bytes.now e c.remainder.ensures refl

pub returns-clause-first : goal.returns-clause-first
returns-clause-first c =
    λ e. crc_more c.args.c c.remainder.result _ [] c.args.bytes.now (e ∙ crc_none) c.remainder.ensures refl
