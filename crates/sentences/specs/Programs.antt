-- Why a program is not executed in place, by the word of the reason. (This project's own.)
use Rattle.std.specs.Prelude.{ℕ, List, Option, Some, None, if◌then◌else◌, codes}
use Rattle.std.specs.Str.{bytes_eq}

-- the sentence of a reason
abbrev pub program_sentence : List ℕ → Option (List ℕ)
program_sentence text =
    if bytes_eq text (codes "unaligned") then
    Some (codes "Linux copies a program whose first byte is not at the front of a page; give it an ALIGN of 4096 (--align 4096)")
    else (if bytes_eq text (codes "scattered") then
    Some (codes "Linux copies a program that is not in one piece; build the image with romtool")
    else (if bytes_eq text (codes "unloadable") then
    Some (codes "Linux does not load one of its segments; link it for pages of 4,096 bytes")
    else (if bytes_eq text (codes "table") then
    Some (codes "its program headers are none that Linux loads; link it again for Linux")
    else (if bytes_eq text (codes "romfs") then
    Some (codes "Linux with an MMU executes nothing of romfs in place; use cramfs")
    else (if bytes_eq text (codes "textrel") then
    Some (codes "the dynamic linker writes into its text; compile it with -fPIC")
    else (if bytes_eq text (codes "writable") then
    Some (codes "each page of it is written; link it with a segment that cannot be written (without -N, --omagic)")
    else (if bytes_eq text (codes "shared") then
    Some (codes "Linux copies its last page, which also has other data; pad the source to N + 1 bytes, by the N of its line")
    else None)))))))
