use Rattle.std.proofs.Common.{◌≡◌, false, take}
use Rattle.std.specs.List.{All}
use Rattle.build_commands.specs.TableRow.{is_space}
use Rattle.build_commands.proofs.table_row.cut_word.Given as goal

abbrev pub invariant-loop-i : goal.invariant-loop-i
invariant-loop-i l = All (λ b. is_space b ≡ false) (take l.i l.text)
