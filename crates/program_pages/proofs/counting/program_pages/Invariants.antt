use Rattle.std.proofs.Common.{◌≡◌, ◌*◌, ◌^◌, ◌≤◌, true}
use Rattle.program_pages.specs.Counted.{all_load, flash_at, pages_sum}
use Rattle.program_pages.proofs.counting.program_pages.Given as goal

abbrev pub invariant-loop-index : goal.invariant-loop-index
invariant-loop-index l = record {
  sums : l.pages ≡ pages_sum (flash_at l.flash l.address) l.no_mmu l.start l.size l.b l.header l.index;
  load : all_load l.size l.b l.header l.index ≡ true;
  in_place : l.pages.in_place ≤ l.index * 2 ^ 40;
  copied : l.pages.copied ≤ l.index * 2 ^ 40;
  fixed : l.pages.fixed ≤ l.index * 2 ^ 40;
  zero : l.pages.zero ≤ l.index * 2 ^ 53;
  used : l.pages.used ≤ l.size;
}
