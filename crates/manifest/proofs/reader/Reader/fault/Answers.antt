use Rattle.std.proofs.Common.{◌≡◌, Some, reverse, arith}
use Rattle.std.proofs.lemmas.Grind.{common_steps}
use Rattle.manifest.specs.Grammar.{fault_of}
use Rattle.manifest.proofs.Reached.{stands_is}
use Rattle.manifest.proofs.reader.Reader.fault.Goals as goal

pub returns-then-not-has_parent : goal.returns-then-not-has_parent
unfolding fault_of
returns-then-not-has_parent c = let four : Some 4 ≡ fault_of (reverse c.args.self.now.lines.items) c.args.line.now =
    grind (arith, common_steps) in four

pub returns-then-is_some : goal.returns-then-is_some
unfolding fault_of
returns-then-is_some c = let five : Some 5 ≡ fault_of (reverse c.args.self.now.lines.items) c.args.line.now =
    grind (arith, stands_is) in five
