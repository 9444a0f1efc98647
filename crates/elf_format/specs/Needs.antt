-- What a program needs before it can start. `interpreter_of`: the path of its interpreter.
-- `needs_of`: the libraries that its dynamic segment names, and the directories in which they are
-- looked for. (System V gABI, "Program Interpreter" and "Dynamic Section"; elf(5); Linux 6.1
-- fs/binfmt_elf.c, `load_elf_binary`, and fs/binfmt_script.c, `load_script`.)
use Rattle.std.specs.Prelude.{ℕ, ◌+◌, ◌-◌, ◌*◌, ◌==◌, ◌&&◌, ◌||◌, not, nat_lt, Bool}
use Rattle.std.specs.Prelude.{if◌then◌else◌, List, [], ◌∷◌, length, take, drop, map, slice_index}
use Rattle.std.specs.Prelude.{find, position, take_while, Option, Some, None, option_map}
use Rattle.std.specs.Prelude.{option_and_then}
use Rattle.std.specs.List.{before_first, prefix_len, range_with_len}
use Rattle.std.specs.Option.{option_or}
use Rattle.std.specs.Result.{result_ok}
use Rattle.elf_format.specs.Dynamic.{entries_in}
use Rattle.elf_format.specs.Header.{header_of, number, program_at, width}
use Rattle.elf_format.specs.declared.header.Header.{Header}
use Rattle.elf_format.specs.declared.numbers.Class.{Class}
use Rattle.elf_format.specs.declared.numbers.Order.{Order}
use Rattle.elf_format.specs.declared.program.Program.{Program}

-- the bytes before the first that ends them, if one does
abbrev pub before : (ℕ → Bool) → List ℕ → Option (List ℕ)
before ends l = option_map (λ i. take i l) (position ends l)

-- a text, which ends before a zero byte
unfoldable pub text : List ℕ → Option (List ℕ)
text l = before (λ x. x == 0) l

-- a space or a tab
abbrev pub is_blank : ℕ → Bool
is_blank x = (x == 32) || (x == 9)

-- a blank, a line feed or a zero byte
abbrev pub ends_name : ℕ → Bool
ends_name x = is_blank x || ((x == 10) || (x == 0))

-- `#!`
abbrev pub is_script : List ℕ → Bool
is_script b =
    not (nat_lt (length b) 2) && ((slice_index b 0 == 35) && (slice_index b 1 == 33))

-- what is behind the blanks at the front
abbrev pub after_blanks : List ℕ → List ℕ
after_blanks l = drop (prefix_len is_blank l) l

-- the 256 bytes of a script that Linux reads, without `#!` and the blanks behind it
abbrev pub script_line : List ℕ → List ℕ
script_line b = after_blanks (drop 2 (take 256 b))

-- the name at its front. The end of a shorter file ends it too; else Linux takes it for cut off
abbrev pub script_name : List ℕ → Option (List ℕ)
script_name b =
    if nat_lt (length b) 256 then Some (before_first ends_name (script_line b))
    else before ends_name (script_line b)

-- a name, if it is not empty
abbrev pub some_name : Option (List ℕ) → Option (List ℕ)
some_name None = None
some_name (Some []) = None
some_name (Some (x ∷ l)) = Some (x ∷ l)

-- all program headers of a file
abbrev pub programs : List ℕ → Header → List Program
programs b h = map (program_at b h) (range_with_len 0 h.count)

-- whether one is of this type, with all of its bytes in the file
abbrev pub is_segment : ℕ → List ℕ → Program → Bool
is_segment kind b p = (p.kind == kind) && not (nat_lt (length b) (p.offset + p.file_size))

-- the first such one
unfoldable pub segment : ℕ → List ℕ → Header → Option Program
segment kind b h = find (is_segment kind b) (programs b h)

-- the bytes of a segment
abbrev pub bytes_of : List ℕ → Program → List ℕ
bytes_of b p = take p.file_size (drop p.offset b)

-- the text of PT_INTERP (3)
abbrev pub elf_interpreter : List ℕ → Option (List ℕ)
elf_interpreter b =
    option_and_then (λ h. option_and_then (λ p. text (bytes_of b p)) (segment 3 b h))
    (result_ok (header_of b))

-- the interpreter that a script or an ELF file names
unfoldable pub interpreter_of : List ℕ → Option (List ℕ)
interpreter_of b = if is_script b then some_name (script_name b) else elf_interpreter b

-- whether one is PT_LOAD (1), and has the byte of an address
abbrev pub has_address : ℕ → List ℕ → Program → Bool
has_address a b p =
    is_segment 1 b p && (not (nat_lt a p.address) && nat_lt a (p.address + p.file_size))

-- the offset in the file of the byte of an address
unfoldable pub place_of : ℕ → List ℕ → Header → Option ℕ
place_of a b h =
    option_map (λ p. p.offset + (a - p.address)) (find (has_address a b) (programs b h))

-- the tag and the value of the i-th entry of the table at an offset
abbrev pub entry_at : Class → Order → List ℕ → ℕ → ℕ → ℕ × ℕ
entry_at c o b at i = (
  number o (width c) b (at + i * (2 * width c)),
  number o (width c) b (at + i * (2 * width c) + width c),
)

-- the first n of them
abbrev pub rows : Class → Order → List ℕ → ℕ → ℕ → List (ℕ × ℕ)
rows c o b at n = map (entry_at c o b at) (range_with_len 0 n)

-- whether one is not DT_NULL (0), which ends the table
abbrev pub is_entry : ℕ × ℕ → Bool
is_entry e = not (e.0 == 0)

-- the entries of a segment
unfoldable pub entries : List ℕ → Header → Program → List (ℕ × ℕ)
entries b h p =
    take_while is_entry (rows h.class h.order b p.offset (entries_in h.class b p))

-- the value of the first entry of a tag
unfoldable pub value_of : ℕ → List (ℕ × ℕ) → Option ℕ
value_of tag es = option_map (λ e. e.1) (find (λ e. e.0 == tag) es)

-- `needed`: for each entry, in their order, the library that it names, if it names one. `run_path`:
-- the directories, with a colon between two
pub record Needed : Type 0 where
  pub needed : List (Option (List ℕ))
  pub run_path : Option (List ℕ)

-- the library that an entry names, if it is DT_NEEDED (1): its value is an offset in the strings
abbrev pub library : List ℕ → ℕ → ℕ × ℕ → Option (List ℕ)
library b strings e = if e.0 == 1 then text (drop (strings + e.1) b) else None

-- the value of DT_RUNPATH (29), or if there is none of DT_RPATH (15)
abbrev pub run_path_of : List (ℕ × ℕ) → Option ℕ
run_path_of es = option_or (value_of 29 es) (value_of 15 es)

-- what these entries need
abbrev pub needs_in : List ℕ → ℕ → List (ℕ × ℕ) → Needed
needs_in b strings es = record {
  needed = map (library b strings) es;
  run_path = option_and_then (λ v. text (drop (strings + v) b)) (run_path_of es);
}

-- the offset in the file of the strings, whose address is the value of DT_STRTAB (5)
abbrev pub strings_of : List ℕ → Header → List (ℕ × ℕ) → Option ℕ
strings_of b h es = option_and_then (λ a. place_of a b h) (value_of 5 es)

-- what the entries of PT_DYNAMIC (2) say, if there are strings
abbrev pub needs_by : List ℕ → Header → Option Needed
needs_by b h =
    option_and_then (λ p. option_map (λ s. needs_in b s (entries b h p))
    (strings_of b h (entries b h p))) (segment 2 b h)

-- what a file needs, if it is an ELF file with such a segment
unfoldable pub needs_of : List ℕ → Option Needed
needs_of b = option_and_then (needs_by b) (result_ok (header_of b))
