use Rattle.std.proofs.Common.{◌≡◌, ◌-◌, ℕ, ◌++◌, take, ap, ◌∙◌, arith}
use Rattle.image_stream.specs.Segments.{segment_at, bytes_of, place, len, zeros}
use Rattle.image_stream.proofs.Fronts.{outline_place, outline_len}
use Rattle.image_stream.proofs.Puts.{written, length_bytes}
use Rattle.image_stream.proofs.writing.put_next.Goals as goal

pub returns-clause-put : goal.returns-clause-put
returns-clause-put g c =
    let p = segment_at (g.L.Segmented.form c.args.layout.now).segments c.args.i in
    let s = c.segment-segment.result in
    let bytes = bytes_of c.args.contents.now p in
    let at_place : s.place ≡ place p = outline_place p s c.segment-segment.ensures in
    let n : s.len ≡ len p = outline_len p s c.segment-segment.ensures in
    written c.args.out.now c.zero.new.out c.put_segment.new.out bytes c.args.at s.place s.len
    (n ∙ length_bytes (g.L.Segmented.form c.args.layout.now).sizes c.args.contents.now p c.requires.file
    c.requires.sized) (omega arith) (omega arith) c.zero.ensures c.put_segment.ensures
    ∙ ap (λ (k : ℕ). take c.args.at c.args.out.now ++ (zeros (k - c.args.at) ++ bytes)) at_place
