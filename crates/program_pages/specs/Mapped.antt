-- `mapped_sum`: the pages that Linux maps to the flash for the program headers of a file, without
-- those that the dynamic linker writes. (Linux 6.1 fs/binfmt_elf.c and fs/cramfs/inode.c:
-- `elf_format.specs.Loading`, `program_pages.specs.Physmem`. glibc 2.36 elf/dl-map-segments.h:
-- `program_pages.specs.Counted`.)
use Rattle.std.specs.Prelude.{ℕ, zero, suc, ◌+◌, Bool, false, List}
use Rattle.cramfs_format.specs.declared.order.Order.{Order}
use Rattle.program_pages.specs.Physmem.{Flash, mapped_pages}
use Rattle.program_pages.specs.Counted.{is_linked, is_zeroed, kept}
use Rattle.elf_format.specs.Header.{program_at}
use Rattle.elf_format.specs.Loading.{loaded}
use Rattle.elf_format.specs.declared.header.Header.{Header}
use Rattle.elf_format.specs.declared.loading.Loading.{Loading}
use Rattle.elf_format.specs.declared.loading.Loading.TheVariants.{Nothing, Refused, Pages}

-- those of one program header of the file whose inode is at p, if its last page is written or not
abbrev pub mapped_of : Order → Flash → ℕ → Bool → Loading → ℕ
mapped_of o f p zeroed Nothing = 0
mapped_of o f p zeroed Refused = 0
mapped_of o f p zeroed (Pages first count writable) =
    kept zeroed count
    (mapped_pages o f p (record { first = first; count = count; writable = writable }))

-- those of the first n program headers; the file has `size` bytes, which are b
abbrev pub mapped_sum : Order → Flash → ℕ → ℕ → List ℕ → Header → ℕ → ℕ
mapped_sum o f p size b h zero = 0
mapped_sum o f p size b h (suc n) =
    mapped_sum o f p size b h n
    + mapped_of o f p (is_zeroed (is_linked false b h) (program_at b h n))
    (loaded size (program_at b h n))
