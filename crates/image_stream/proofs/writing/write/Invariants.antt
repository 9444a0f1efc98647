use Rattle.std.proofs.Common.{◌≡◌, ◌++◌, length, take, drop}
use Rattle.image_stream.specs.Segments.{SegmentsRise, image_from}
use Rattle.image_stream.proofs.writing.write.Given as goal

abbrev pub invariant-loop-i : goal.invariant-loop-i
invariant-loop-i g l =
    let L = g.L.Segmented in
    record {
      room : length l.out ≡ (L.form l.layout).end;
      rises : SegmentsRise l.at (drop l.i (L.form l.layout).segments) (L.form l.layout).end;
      put : take l.at l.out ++ image_from l.contents l.at (drop l.i (L.form l.layout).segments) (L.form l.layout).end
          ≡ (L.form l.layout).head 0 ++ image_from l.contents (L.form l.layout).start (L.form l.layout).segments
          (L.form l.layout).end;
    }
