-- A dynamic segment has fewer entries than its file has bytes.
use Rattle.std.proofs.Common.{◌≡◌, ◌*◌, ◌≤◌, ℕ, List, length, arith, min}
use Rattle.std.proofs.Common.{Option, Some, None, take}
use Rattle.std.specs.Prelude.{option_and_then, option_map}
use Rattle.std.specs.List.{prefix_len}
use Rattle.std.specs.Result.{result_ok}
use Rattle.std.proofs.lemmas.List.{length-map, length-take}
use Rattle.std.proofs.lemmas.List.FromFn.{length-map-range_with_len}
use Rattle.elf_format.specs.Dynamic.{entries_in}
use Rattle.elf_format.specs.Header.{header_of}
use Rattle.elf_format.specs.Needs.{entries, entry_at, is_entry, library, needs_by, needs_in, needs_of, rows}
use Rattle.elf_format.specs.Needs.{segment, strings_of}
use Rattle.elf_format.specs.declared.header.Header.{Header}
use Rattle.elf_format.specs.declared.numbers.Class.{Class}
use Rattle.elf_format.specs.declared.numbers.Class.TheVariants.{Bits32, Bits64}
use Rattle.elf_format.specs.declared.program.Program.{Program}
use Rattle.program_report.specs.FileNeeded.{needed_or_none}

in_file : (c : Class) (b : List ℕ) (p : Program) → 8 * entries_in c b p ≤ length b
in_file Bits32 b p = omega arith
in_file Bits64 b p = omega arith

few_entries : (b : List ℕ) (h : Header) (p : Program) → length (entries b h p) ≤ entries_in h.class b p
unfolding entries
few_entries b h p =
    let r : List (ℕ × ℕ) = rows h.class h.order b p.offset (entries_in h.class b p) in
    let n : length r ≡ entries_in h.class b p =
    length-map-range_with_len (entry_at h.class h.order b p.offset) 0 (entries_in h.class b p) in
    let t : length (take (prefix_len is_entry r) r) ≡ min (prefix_len is_entry r) (length r) =
    length-take (prefix_len is_entry r) r in
    omega (arith, t, n)

by_strings : (b : List ℕ) (h : Header) (p : Program) (o : Option ℕ)
    → 8 * length (needed_or_none (option_map (λ s. needs_in b s (entries b h p)) o)).needed ≤ length b
by_strings b h p None = omega arith
by_strings b h p (Some s) =
    let n : length (needs_in b s (entries b h p)).needed ≡ length (entries b h p) =
    length-map (entries b h p) (library b s) in
    omega (arith, n, few_entries b h p, in_file h.class b p)

by_segment : (b : List ℕ) (h : Header) (o : Option Program)
    → 8 * length (needed_or_none (option_and_then (λ p. option_map (λ s. needs_in b s (entries b h p))
    (strings_of b h (entries b h p))) o)).needed ≤ length b
by_segment b h None = omega arith
by_segment b h (Some p) = by_strings b h p (strings_of b h (entries b h p))

by_header : (b : List ℕ) (o : Option Header)
    → 8 * length (needed_or_none (option_and_then (needs_by b) o)).needed ≤ length b
by_header b None = omega arith
by_header b (Some h) = by_segment b h (segment 2 b h)

pub few_needed : (b : List ℕ) → 8 * length (needed_or_none (needs_of b)).needed ≤ length b
unfolding needs_of
few_needed b = by_header b (result_ok (header_of b))
