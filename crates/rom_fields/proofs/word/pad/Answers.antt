use Rattle.std.proofs.Common.{◌≡◌, ◌+◌, ◌-◌, ◌*◌, ◌/◌, ◌<◌, ◌≤◌, ℕ, refl, arith}
use Rattle.std.proofs.lemmas.Grind.{common_steps}
use Rattle.rom_fields.proofs.word.pad.Goals as goal

near : (n k : ℕ) → 1 ≤ k → (n + (k - 1)) / k * k < n + k
near n k low = grind (arith, common_steps)

least : (n k m : ℕ) → 1 ≤ k → n ≤ m * k → (n + (k - 1)) / k * k ≤ m * k
least n k m low h = grind (arith, common_steps)

pub returns-clause-value : goal.returns-clause-value
returns-clause-value c = refl

pub returns-clause-multiple : goal.returns-clause-multiple
returns-clause-multiple c = ((c.args.n + (c.args.k - 1)) / c.args.k, refl)

pub returns-clause-near : goal.returns-clause-near
returns-clause-near c = near c.args.n c.args.k c.requires.low

pub returns-clause-least : goal.returns-clause-least
returns-clause-least c = λ m h. least c.args.n c.args.k m c.requires.low h
