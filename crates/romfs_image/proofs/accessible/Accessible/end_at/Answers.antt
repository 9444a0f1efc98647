use Rattle.std.proofs.Common.{arith}
use Rattle.romfs_image.proofs.Reading.{end_is}
use Rattle.romfs_image.proofs.accessible.Accessible.end_at.Goals as goal

pub overflow_add-result-4 : goal.overflow_add-result-4
overflow_add-result-4 c = let e = end_is c.args.self.now.bytes.now c.args.at c.name_at-name.result.now
    c.name_at-name.ensures in let w = c.requires.within in let s = c.args.self.now.small in omega arith

pub returns-clause-value : goal.returns-clause-value
returns-clause-value c = end_is c.args.self.now.bytes.now c.args.at c.name_at-name.result.now c.name_at-name.ensures

pub returns-clause-within : goal.returns-clause-within
returns-clause-within c = let e = end_is c.args.self.now.bytes.now c.args.at c.name_at-name.result.now
    c.name_at-name.ensures in let w = c.requires.within in omega arith
