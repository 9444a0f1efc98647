use Rattle.std.proofs.Common.{◌≡◌, ℕ, ◌<◌, ◌≤◌, true, false, nat_lt, rules, tests}
use Rattle.rom_fields.specs.Written.{sink}
use Rattle.rom_fields.proofs.Joins.{chain, puts_nothing}
use Rattle.image_extents.specs.Lines.{beyond}
use Rattle.image_extents.proofs.lines.put_beyond.Goals as goal

lt_is : (a b : ℕ) → a < b → nat_lt a b ≡ true
lt_is a b h = search (rules, tests)

le_is : (a b : ℕ) → b ≤ a → nat_lt a b ≡ false
le_is a b h = search (rules, tests)

pub returns-then-size-file : goal.returns-then-size-file
unfolding beyond
returns-then-size-file g c =
    rw (lt_is c.args.size c.args.file c.if-size-file.true) (chain c.put_range.ensures c.put.ensures)

pub returns-else-size-file : goal.returns-else-size-file
unfolding beyond
returns-else-size-file g c =
    rw (le_is c.args.size c.args.file c.if-size-file.false)
    (puts_nothing (sink (g.W.ByteWrite.output c.args.w.now) c.args.failed.now))
