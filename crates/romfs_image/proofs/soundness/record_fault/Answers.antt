use Rattle.std.proofs.Common.{List, ◌≡◌, ◌≢◌, ◌+◌, ◌-◌, ◌≤◌, ◌<◌, ℕ, length, arith, subst}
use Rattle.std.specs.Prelude.{IsTrue}
use Rattle.rom_fields.specs.Words.{words_sum, part_of}
use Rattle.romfs_format.specs.Record.{size_of, type_of, has_data}
use Rattle.romfs_format.proofs.Faults.{least_data, least_sum, least_name, least_link, sound_of}
use Rattle.romfs_image.proofs.Reading.{end_after}
use Rattle.romfs_image.proofs.soundness.record_fault.Goals as goal

-- the data lie within, counted from where the record ends
lies : (b : List ℕ) (p e f : ℕ) → e ≡ f → (IsTrue (has_data (type_of b p)) → e + size_of b p ≤ length b)
    → IsTrue (has_data (type_of b p)) → f + size_of b p ≤ length b
lies b p e f is h = subst (λ (x : ℕ). IsTrue (has_data (type_of b p)) → x + size_of b p ≤ length b) is h

sums : (b : List ℕ) (p e f : ℕ) → e ≡ f → words_sum (part_of b p (e - p)) ≡ 0 → words_sum (part_of b p (f - p)) ≡ 0
sums b p e f is h = subst (λ (x : ℕ). words_sum (part_of b p (x - p)) ≡ 0) is h

pub returns-then-not-data_lie-clause-fault : goal.returns-then-not-data_lie-clause-fault
returns-then-not-data_lie-clause-fault c =
    let o = c.if-not-data_lie.ensures.outside in
    least_data c.in-Ok.ensures.whole o.0
    (subst (λ (x : ℕ). length c.args.b.now.bytes.now
    < x + size_of c.args.b.now.bytes.now c.args.at) c.in-Ok.ensures.end o.1)

pub sums_to_zero-requires-clause-order : goal.sums_to_zero-requires-clause-order
sums_to_zero-requires-clause-order c =
    let a = end_after c.args.b.now.bytes.now c.args.at in let e = c.in-Ok.ensures.end in omega arith

pub returns-then-not-sums_to_zero-clause-fault : goal.returns-then-not-sums_to_zero-clause-fault
returns-then-not-sums_to_zero-clause-fault c =
    least_sum c.in-Ok.ensures.whole (lies _ _ _ _ c.in-Ok.ensures.end c.if-not-data_lie.ensures.lie)
    (subst (λ (x : ℕ). words_sum (part_of c.args.b.now.bytes.now c.args.at (x - c.args.at))
    ≢ 0) c.in-Ok.ensures.end c.if-not-sums_to_zero.ensures.other)

pub returns-then-not-has_name-clause-fault : goal.returns-then-not-has_name-clause-fault
returns-then-not-has_name-clause-fault c =
    least_name c.in-Ok.ensures.whole (lies _ _ _ _ c.in-Ok.ensures.end c.if-not-data_lie.ensures.lie)
    (sums _ _ _ _ c.in-Ok.ensures.end c.if-not-sums_to_zero.ensures.zero) c.if-not-has_name.ensures.other

pub returns-then-not-has_link_size-clause-fault : goal.returns-then-not-has_link_size-clause-fault
returns-then-not-has_link_size-clause-fault c =
    least_link c.in-Ok.ensures.whole (lies _ _ _ _ c.in-Ok.ensures.end c.if-not-data_lie.ensures.lie)
    (sums _ _ _ _ c.in-Ok.ensures.end c.if-not-sums_to_zero.ensures.zero)
    c.if-not-has_name.ensures.some c.if-not-has_name.ensures.no_slash c.if-not-has_link_size.ensures.link
    c.if-not-has_link_size.ensures.size

pub returns-clause-sound : goal.returns-clause-sound
returns-clause-sound c =
    sound_of c.in-Ok.ensures.whole (lies _ _ _ _ c.in-Ok.ensures.end c.if-not-data_lie.ensures.lie)
    (sums _ _ _ _ c.in-Ok.ensures.end c.if-not-sums_to_zero.ensures.zero)
    c.if-not-has_name.ensures.some c.if-not-has_name.ensures.no_slash c.if-not-has_link_size.ensures.fits
