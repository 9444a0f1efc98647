use Rattle.std.proofs.Common.{◌≡◌, ℕ, ◌≤◌, rules, tests}
use Rattle.std.specs.Prelude.{nat_le}
use Rattle.std.specs.Bool.{OnTrue}
use Rattle.romfs_format.specs.Record.{size_of}
use Rattle.romfs_image.proofs.soundness.has_link_size.Goals as goal

fits : (P : Type 0) (r s : ℕ) → r ≡ s → 1 ≤ r → OnTrue (nat_le r 4095) (P → (1 ≤ s) × (s ≤ 4095))
fits P r s e l = search (rules, tests)

pub returns-then-size-ge1-clause-fits : goal.returns-then-size-ge1-clause-fits
returns-then-size-ge1-clause-fits c =
    fits _ c.size_at-size.result (size_of c.args.b.now.bytes.now c.args.at) c.size_at-size.ensures c.if-size-ge1.true
