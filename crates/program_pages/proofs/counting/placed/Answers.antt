use Rattle.std.proofs.Common.{refl}
use Rattle.program_pages.specs.Counted.{flash_at}
use Rattle.program_pages.proofs.counting.placed.Goals as goal

pub returns-clause-pages : goal.returns-clause-pages
returns-clause-pages c =
    rw c.if-no_mmu.false (c.pages_in_place.ensures.pages (flash_at c.args.flash.now c.args.address) refl refl)
