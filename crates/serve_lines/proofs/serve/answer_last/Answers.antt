use Rattle.std.proofs.Common.{◌≡◌, List, ℕ, [], ◌∷◌, length, refl, rules, arith}
use Rattle.rom_fields.proofs.Joins.{appends_none}
use Rattle.serve_lines.proofs.serve.answer_last.Goals as goal

nothing : (line : List ℕ) → length line ≡ 0 → line ≡ []
nothing [] none = refl
nothing (b ∷ line) none = absurd (omega arith)

pub returns-then-is_empty-clause-ok : goal.returns-then-is_empty-clause-ok
returns-then-is_empty-clause-ok g c =
    let none : length c.args.line.now.items ≡ 0 =
    search rules in rw (nothing c.args.line.now.items none) (appends_none _)

pub returns-then-is_empty-clause-flushed : goal.returns-then-is_empty-clause-flushed
returns-then-is_empty-clause-flushed g c =
    let none : length c.args.line.now.items ≡ 0 = search rules in rw (nothing c.args.line.now.items none) refl
