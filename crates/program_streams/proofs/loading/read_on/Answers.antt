use Rattle.std.proofs.Common.{rules, arith, ◌≡◌, ◌+◌, ◌≤◌, length}
use Rattle.std.proofs.KnownBytes.{Consumes-more}
use Rattle.std.proofs.Transfers.{starts_with_trans, starts_with_length}
use Rattle.std.proofs.lemmas.List.{places}
use Rattle.program_streams.proofs.loading.read_on.Goals as goal

-- the loop keeps the bytes that were read
pub loop-bytes-preserved : goal.loop-bytes-preserved
loop-bytes-preserved g c =
    let old = c.args.bytes.now.items in
    let mid = c.loop-bytes.bytes.items in
    let new = c.read_some.new.bytes.items in
    let before = c.loop-bytes.invariant in
    let within = starts_with_length mid old before.starts in
    let count : length new ≡ length mid + c.in_ok-read_some.field-0 = search (rules, places) in
    let left : length mid + c.in_ok-read_some.field-0 ≤ c.args.until = search (rules, places, arith) in
    record {
      starts = starts_with_trans new mid old c.read_some.ensures.appends before.starts;
      read = Consumes-more _ _ _ old mid new before.starts c.read_some.ensures.appends before.read
          c.read_some.ensures.bytes;
      most = omega (arith, count, left, within);
      room = search rules;
    }
