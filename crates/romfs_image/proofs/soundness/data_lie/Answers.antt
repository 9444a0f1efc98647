use Rattle.std.proofs.Common.{◌≡◌, ℕ, ◌≤◌, ◌+◌, length, rules, tests}
use Rattle.std.specs.Prelude.{nat_le}
use Rattle.std.specs.Bool.{OnTrue}
use Rattle.romfs_format.specs.Record.{size_of}
use Rattle.romfs_image.proofs.soundness.data_lie.Goals as goal

lie : (P : Type 0) (r s e n : ℕ) → r ≡ s → OnTrue (nat_le (e + r) n) (P → e + s ≤ n)
lie P r s e n h = search (rules, tests)

pub returns-then-kind-eq3-clause-lie : goal.returns-then-kind-eq3-clause-lie
returns-then-kind-eq3-clause-lie c =
    lie _ c.size_at.result (size_of c.args.b.now.bytes.now c.args.at) c.args.end
    (length c.args.b.now.bytes.now) c.size_at.ensures
