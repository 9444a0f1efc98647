use Rattle.std.proofs.Common.{◌≡◌, ◌+◌, ◌-◌, ◌≤◌, List, ℕ, take, drop, length, ap, ◌∙◌, arith}
use Rattle.std.proofs.lemmas.List.{length-take-le, length-drop, length-append, length-replicate}
use Rattle.crc.specs.History.{after_history}
use Rattle.crc.proofs.Ends.{pieces, front}
use Rattle.crc.proofs.blocks.with_blocks.Goals as goal

pub loop-at-init : goal.loop-at-init
loop-at-init c =
    let b = c.as_mut_slice-buf.result.now in
    let new = c.start.new.history in
    let whole : length b ≡ 4396 = ap length c.as_mut_slice-buf.ensures.value ∙ length-replicate {A = ℕ} 4396 0 in
    let first : length new ≡ 300 = c.start.auto.history ∙ length-take-le 300 b (omega arith) in
    record {
      room = omega (arith, length-append new (drop 300 b), length-drop 300 b);
      left = c.requires;
      value = ap (λ (h : List ℕ). after_history h c.args.bytes.now) (front new (drop 300 b) first)
          ∙ c.start.ensures c.args.bytes.now c.requires;
    }

pub loop-at-preserved : goal.loop-at-preserved
loop-at-preserved c =
    let bytes = c.args.bytes.now in
    let at = c.loop-at.at in
    let count = c.min-count.result in
    let few = c.min-count.ensures in
    let some = c.loop-at-test.true in
    let e : at + count - at ≡ count = omega arith in
    let long : 300 ≤ length (drop (at + count) bytes) = omega (arith, length-drop (at + count) bytes) in
    record {
      room = c.take_in.auto.buf ∙ c.loop-at.invariant.room;
      left = omega arith;
      value = c.take_in.ensures (drop (at + count) bytes) long
          ∙ pieces (take 300 c.loop-at.buf) bytes at count (at + count - at) e ∙ c.loop-at.invariant.value;
    }

pub slice_bounds-finish-end : goal.slice_bounds-finish-end
slice_bounds-finish-end c = let r = c.loop-at.invariant.room in let l : 300 ≤ length c.loop-at.buf =
    omega arith in let k = length-take-le 300 c.loop-at.buf l in omega arith

pub finish-requires-clause-history : goal.finish-requires-clause-history
finish-requires-clause-history c = let r = c.loop-at.invariant.room in length-take-le 300 c.loop-at.buf (omega arith)
