use Rattle.std.proofs.Common.{◌≤◌, ◌<◌, length, arith}
use Rattle.romfs_format.proofs.Faults.{alone_outside, alone_unended, alone_past}
use Rattle.romfs_format.specs.Record.{end_of}
use Rattle.romfs_image.proofs.Reading.{name_ends, name_unended, name_length, end_length}
use Rattle.romfs_image.proofs.soundness.whole_record.Goals as goal
use Rattle.romfs_image.proofs.soundness.whole_record.Goals.{then-at-root-via-then-at-root}
use Rattle.romfs_image.proofs.soundness.whole_record.Goals.{then-at-root-via-else-at-root+then-b-lt32}
use Rattle.romfs_image.proofs.soundness.whole_record.Goals.{then-at-root-via-else-at-root+else-b-lt32+then-b-at}

pub returns-then-at-root-clause-fault : goal.returns-then-at-root-clause-fault
returns-then-at-root-clause-fault c = alone_outside (λ l. elim c.then-at-root.branch [
  | then-at-root-via-then-at-root w ↦ omega arith
  | then-at-root-via-else-at-root+then-b-lt32 w ↦ omega arith
  | then-at-root-via-else-at-root+else-b-lt32+then-b-at w ↦ omega arith
])

pub returns-in_default-clause-fault : goal.returns-in_default-clause-fault
returns-in_default-clause-fault c =
    alone_unended (omega arith, omega arith) (name_unended c.args.b.now.bytes.now c.args.at c.in_default.ensures)

pub returns-then-end-b-clause-fault : goal.returns-then-end-b-clause-fault
returns-then-end-b-clause-fault c =
    let name = name_length c.args.b.now.bytes.now c.args.at c.in-Some.name c.in-Some.ensures.1 in
    let end = end_length c.args.b.now.bytes.now c.args.at c.in-Some.name name in
    let past : length c.args.b.now.bytes.now < end_of c.args.b.now.bytes.now c.args.at = omega arith in
    alone_past (omega arith, omega arith) (name_ends c.args.b.now.bytes.now c.args.at c.in-Some.ensures.0) past

pub returns-clause-whole : goal.returns-clause-whole
returns-clause-whole c =
    let name = name_length c.args.b.now.bytes.now c.args.at c.in-Some.name c.in-Some.ensures.1 in
    let end = end_length c.args.b.now.bytes.now c.args.at c.in-Some.name name in
    let within : end_of c.args.b.now.bytes.now c.args.at ≤ length c.args.b.now.bytes.now = omega arith in
    ((omega arith, omega arith), name_ends c.args.b.now.bytes.now c.args.at c.in-Some.ensures.0, within)

pub returns-clause-name : goal.returns-clause-name
returns-clause-name c = name_length c.args.b.now.bytes.now c.args.at c.in-Some.name c.in-Some.ensures.1

pub returns-clause-end : goal.returns-clause-end
returns-clause-end c = end_length c.args.b.now.bytes.now c.args.at c.in-Some.name
    (name_length c.args.b.now.bytes.now c.args.at c.in-Some.name c.in-Some.ensures.1)
