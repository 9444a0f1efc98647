-- The entries that the code's table stands for, and that it is in the file. (This project's own.)
use Rattle.std.specs.Prelude.{ℕ, ◌+◌, ◌*◌, ◌≤◌, List, length}
use Rattle.elf_format.specs.Header.{width}
use Rattle.elf_format.specs.Needs.{rows}
use Rattle.elf_format.specs.declared.table.Table.{Table}

abbrev pub table_rows : List ℕ → Table → List (ℕ × ℕ)
table_rows b t = rows t.class t.order b t.at t.count

abbrev pub IsTable : List ℕ → Table → Type 0
IsTable b t = t.at + t.count * (2 * width t.class) ≤ length b
