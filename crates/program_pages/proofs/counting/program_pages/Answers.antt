use Rattle.std.proofs.Common.{◌≡◌, ◌+◌, max, Bool, true, sym, ap, ◌∙◌, arith, Ok, Err}
use Rattle.elf_format.specs.Loading.{loaded}
use Rattle.elf_format.specs.declared.error.ElfError.TheVariants as elf
use Rattle.elf_format.specs.declared.program.Program.{Program}
use Rattle.program_pages.specs.declared.counting.ProgramPages.{ProgramPages}
use Rattle.program_pages.specs.Counted.{flash_at, is_linked, is_refused, segment_pages}
use Rattle.program_pages.proofs.Sums.{some_refused, none_then, some_then, sums_more, load_more, found, loads, refuses}
use Rattle.program_pages.proofs.counting.program_pages.Goals as goal

pub returns-in-Err-NotElf-clause-is : goal.returns-in-Err-NotElf-clause-is
returns-in-Err-NotElf-clause-is c =
    found c.args.flash.now c.args.address c.args.no_mmu c.args.start c.args.size c.file_in-b.result.now
    (Err elf.NotElf) c.file_in-b.ensures (rw c.in-Err-NotElf.field-0-is at c.in-Err-NotElf.ensures.is)

pub returns-in-Err-Table-clause-is : goal.returns-in-Err-Table-clause-is
returns-in-Err-Table-clause-is c =
    found c.args.flash.now c.args.address c.args.no_mmu c.args.start c.args.size c.file_in-b.result.now
    (Err elf.Table) c.file_in-b.ensures (rw c.in-Err-Table.field-0-is at c.in-Err-Table.ensures.is)

pub returns-in_default-clause-is : goal.returns-in_default-clause-is
returns-in_default-clause-is c =
    let f = flash_at c.args.flash.now c.args.address in
    let b = c.file_in-b.result.now in
    let h = c.in-Ok.header in
    let r : is_refused (loaded c.args.size c.program-program.result) ≡ true =
    none_then (is_refused (loaded c.args.size c.program-program.result))
    (segment_pages f c.args.no_mmu c.args.start c.args.size c.is_linked-linked.result c.program-program.result)
    (sym c.in_default.is ∙ c.segment.ensures.is) in
    refuses f c.args.no_mmu c.args.start c.args.size b h
    (some_refused c.args.size b h c.loop-index.index h.count c.loop-index-test.true
    (sym (ap (λ (p : Program). is_refused (loaded c.args.size p)) c.program-program.ensures) ∙ r))
    ∙ found c.args.flash.now c.args.address c.args.no_mmu c.args.start c.args.size b (Ok h) c.file_in-b.ensures
    c.in-Ok.ensures.is

pub loop-index-preserved : goal.loop-index-preserved
loop-index-preserved c =
    let f = flash_at c.args.flash.now c.args.address in
    let b = c.file_in-b.result.now in
    let h = c.in-Ok.header in
    let i = c.loop-index.invariant in
    let s = some_then (is_refused (loaded c.args.size c.program-program.result))
    (segment_pages f c.args.no_mmu c.args.start c.args.size c.is_linked-linked.result c.program-program.result)
    c.in-Some.more c.in-Some.ensures.is in
    let t : c.in-Some.more
    ≡ segment_pages f c.args.no_mmu c.args.start c.args.size (is_linked c.args.no_mmu b h) c.program-program.result =
    s.1
    ∙ ap (λ (v : Bool). segment_pages f c.args.no_mmu c.args.start c.args.size v c.program-program.result)
    c.is_linked-linked.ensures in
    let e = c.plus-pages.ensures in
    let m = c.in-Some.ensures in
    record {
      sums = sums_more f c.args.no_mmu c.args.start c.args.size b h c.loop-index.index c.loop-index.pages
          c.in-Some.more c.plus-pages.result c.program-program.result e c.program-program.ensures t i.sums;
      load = load_more c.args.size b h c.loop-index.index c.program-program.result c.program-program.ensures s.0 i.load;
      in_place = (
          let k : c.plus-pages.result.in_place ≡ c.loop-index.pages.in_place + c.in-Some.more.in_place =
          ap (λ (p : ProgramPages). p.in_place) e in
          let x = i.in_place in let y = m.in_place in omega arith
          );
      copied = (
          let k : c.plus-pages.result.copied ≡ c.loop-index.pages.copied + c.in-Some.more.copied =
          ap (λ (p : ProgramPages). p.copied) e in
          let x = i.copied in let y = m.copied in omega arith
          );
      fixed = (
          let k : c.plus-pages.result.fixed ≡ c.loop-index.pages.fixed + c.in-Some.more.fixed =
          ap (λ (p : ProgramPages). p.fixed) e in
          let x = i.fixed in let y = m.fixed in omega arith
          );
      zero = (
          let k : c.plus-pages.result.zero ≡ c.loop-index.pages.zero + c.in-Some.more.zero =
          ap (λ (p : ProgramPages). p.zero) e in
          let x = i.zero in let y = m.zero in omega arith
          );
      used = (
          let k : c.plus-pages.result.used ≡ max c.loop-index.pages.used c.in-Some.more.used =
          ap (λ (p : ProgramPages). p.used) e in
          let x = i.used in let y = m.used in omega arith
          );
    }

pub returns-clause-is : goal.returns-clause-is
returns-clause-is c =
    let f = flash_at c.args.flash.now c.args.address in
    let b = c.file_in-b.result.now in
    let h = c.in-Ok.header in
    let i = c.loop-index.invariant in
    let z : c.loop-index.index ≡ h.count =
    (let t = c.loop-index-test.false in let u = c.loop-index.auto.index-end in omega arith) in
    loads f c.args.no_mmu c.args.start c.args.size b h c.loop-index.index c.loop-index.pages z i.load i.sums
    ∙ found c.args.flash.now c.args.address c.args.no_mmu c.args.start c.args.size b (Ok h) c.file_in-b.ensures
    c.in-Ok.ensures.is
