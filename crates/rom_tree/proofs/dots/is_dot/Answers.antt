use Rattle.std.proofs.Common.{◌≡◌, ap, ◌∙◌, rules}
use Rattle.std.specs.Str.{bytes_eq}
use Rattle.rom_tree.specs.Dots.{dot}
use Rattle.rom_tree.proofs.dots.is_dot.Goals as goal

pub returns-clause-test : goal.returns-clause-test
returns-clause-test c =
    let text : c.as_slice.result.now ≡ dot = c.as_slice.ensures in c.eq.ensures ∙ ap (bytes_eq c.args.name.now) text

pub returns-clause-dot : goal.returns-clause-dot
returns-clause-dot c = let text : c.as_slice.result.now ≡ dot = c.as_slice.ensures in search rules
