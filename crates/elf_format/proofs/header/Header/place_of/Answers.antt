use Rattle.std.proofs.Common.{ℕ, ◌+◌, ◌-◌, ◌<◌, sym, ap, ◌∙◌, arith, Some, option_map}
use Rattle.elf_format.specs.Header.{program_at}
use Rattle.elf_format.specs.Needs.{has_address, place_of}
use Rattle.elf_format.specs.declared.program.Program.{Program}
use Rattle.elf_format.proofs.Found.{found, not_found}
use Rattle.elf_format.proofs.header.Header.place_of.Goals as goal

pub returns-then-has_address-clause-is : goal.returns-then-has_address-clause-is
unfolding place_of
returns-then-has_address-clause-is c =
    let b = c.args.b.now in
    let h = c.args.self.now in
    let a = c.args.address in
    let i = c.loop-index.index in
    let e = c.program-program.ensures in
    let place = λ (p : Program). p.offset + (a - p.address) in
    ap (λ (p : Program). Some (place p)) e
    ∙ sym (ap (option_map place) (found (program_at b h) (has_address a b) h.count i c.loop-index-test.true
    c.loop-index.invariant
    (sym (ap (has_address a b) e) ∙ (sym c.has_address.ensures ∙ c.if-has_address.true))))

pub returns-clause-is : goal.returns-clause-is
unfolding place_of
returns-clause-is c =
    let b = c.args.b.now in
    let h = c.args.self.now in
    let a = c.args.address in
    let t = c.loop-index-test.false in
    let place = λ (p : Program). p.offset + (a - p.address) in
    sym (ap (option_map place) (not_found (program_at b h) (has_address a b) h.count (program_at b h 0)
    (λ (k : ℕ) (s : k < h.count). c.loop-index.invariant k (omega arith))))
