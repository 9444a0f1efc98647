use Rattle.std.proofs.Common.{◌≡◌, ◌+◌, ◌-◌, ℕ, ap, take, drop, arith}
use Rattle.std.proofs.lemmas.Grind.{common_steps}
use Rattle.rom_fields.proofs.word.part.Goals as goal

pub returns-else-b-at-2 : goal.returns-else-b-at-2
returns-else-b-at-2 c =
    let all : c.args.at + c.args.len - c.args.at ≡ c.args.len = omega arith in
    (grind (arith, common_steps), ap (λ (n : ℕ). take n (drop c.args.at c.args.b.now)) all)
