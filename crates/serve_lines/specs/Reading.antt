-- `call_by`, `line_by`: the meaning of the code's commands, as calls and lines. (This project's
-- own.)
use Rattle.std.specs.Prelude.{ℕ, ◌≤◌, List, Option, Some, None, Result, Ok, Err}
use Rattle.std.specs.Borrow.{Bor}
use Rattle.serve_lines.specs.declared.bad.Bad.{Bad}
use Rattle.serve_lines.specs.declared.bad.Bad.TheVariants as bad
use Rattle.serve_lines.specs.declared.command.Command.{Command}
use Rattle.serve_lines.specs.declared.command.Command.TheVariants as command
use Rattle.serve_lines.specs.Commands.{Call, on_path, on_fd, read, lend, seek, map_part, quit}
use Rattle.serve_lines.specs.Commands.{mount, umount, Line, asks, is_bad, path_of}

-- the call of a command
abbrev pub call_by : Command → Call
call_by (command.Path c p) = on_path c (path_of p.text.now)
call_by (command.Fd c fd) = on_fd c fd.0
call_by (command.Read fd n) = read fd.0 n
call_by (command.Lend fd n) = lend fd.0 n
call_by (command.Seek fd o) = seek fd.0 o
call_by (command.Map fd o n) = map_part fd.0 o n
call_by command.Quit = quit
call_by (command.Mount i p) = mount i (path_of p.text.now)
call_by (command.Umount i) = umount i

abbrev pub line_by : Result Command Bad → Line
line_by (Ok c) = asks (call_by c)
line_by (Err b) = is_bad b

-- the line of fields that the code has read
abbrev pub one_by : (List ℕ → Line) → Option (Bor (List ℕ)) → Line
one_by line None = is_bad bad.Line
one_by line (Some f) = line f.now

abbrev pub two_by : (List ℕ → List ℕ → Line) → Option (Bor (List ℕ) × Bor (List ℕ)) → Line
two_by line None = is_bad bad.Line
two_by line (Some p) = line p.0.now p.1.now

abbrev pub three_by : (List ℕ → List ℕ → List ℕ → Line)
    → Option (Bor (List ℕ) × Bor (List ℕ) × Bor (List ℕ))
    → Line
three_by line None = is_bad bad.Line
three_by line (Some p) = line p.0.now p.1.now p.2.now

abbrev pub number_by : (ℕ → Line) → Result ℕ Bad → Line
number_by line (Ok n) = line n
number_by line (Err b) = is_bad b

abbrev pub numbers_by : (ℕ → ℕ → Line) → Result (ℕ × ℕ) Bad → Line
numbers_by line (Ok p) = line p.0 p.1
numbers_by line (Err b) = is_bad b

abbrev pub three_numbers_by : (ℕ → ℕ → ℕ → Line) → Result (ℕ × ℕ × ℕ) Bad → Line
three_numbers_by line (Ok p) = line p.0 p.1 p.2
three_numbers_by line (Err b) = is_bad b

-- a `read` command asks for at most 4,096 bytes
abbrev pub is_small : Command → Type 0
is_small (command.Read fd n) = n ≤ 4096
is_small _ = Unit {0}

abbrev pub is_small_line : Result Command Bad → Type 0
is_small_line (Ok c) = is_small c
is_small_line (Err b) = Unit {0}
