use Rattle.std.proofs.Common.{◌≡◌, ℕ, [], ◌++◌, take, ap, sym, subst, ◌∙◌, arith}
use Rattle.image_stream.proofs.Images.{rises_end, rises_here}
use Rattle.image_stream.proofs.Puts.{put_end, head_first, head_over}
use Rattle.image_stream.specs.Segments.{SegmentsRise, image_from}
use Rattle.image_stream.proofs.writing.write.Goals as goal

pub put_head-requires : goal.put_head-requires
put_head-requires g c =
    let L = g.L.Segmented in
    let h = rises_end (L.form c.args.layout.now).start (L.form c.args.layout.now).end
    (L.form c.args.layout.now).segments c.requires.laid.rises in
    let r = c.requires.room in
    omega arith

pub put_next-at-requires-clause-room : goal.put_next-at-requires-clause-room
put_next-at-requires-clause-room g c =
    let L = g.L.Segmented in
    let h = rises_here (L.form c.args.layout.now).segments c.loop-i.i c.loop-i.at (L.form c.args.layout.now).end
    (omega arith) c.loop-i.invariant.rises in
    let r = c.loop-i.invariant.room in
    omega arith

pub returns-clause-ok : goal.returns-clause-ok
returns-clause-ok g c =
    let f = g.L.Segmented.form c.args.layout.now in
    let cs = c.args.contents.now in
    let rest = image_from cs f.start f.segments f.end in
    let n = c.count-i-end.ensures in
    let t = c.loop-i-test.false in
    let whole : c.zero.new.out ≡ f.head 0 ++ rest =
    put_end cs f.segments f.end c.loop-i.at c.loop-i.i c.loop-i.out c.zero.new.out (f.head 0 ++ rest) (omega arith)
    c.loop-i.invariant.room c.loop-i.invariant.put c.zero.ensures in
    let stored : c.value.result ≡ g.C.Checksum.stored (f.head 0 ++ rest) =
    c.value.ensures c.zero.new.out (c.add.ensures [] c.start-check.ensures) ∙ ap g.C.Checksum.stored whole in (
      c.in-Ok.ensures.ok,
      head_over (f.head 0) (f.head c.value.result) c.zero.new.out c.put_head-2.new.out rest f.start
          c.put_head.ensures.length whole
          c.put_head-2.ensures.put ∙ ap (λ (v : ℕ). f.head v ++ rest) stored,
    )

pub loop-i-init : goal.loop-i-init
loop-i-init g c =
    let f = g.L.Segmented.form c.args.layout.now in
    let cs = c.args.contents.now in
    let at = c.head_len-at.ensures in
    record {
      room = c.put_head.auto.out ∙ c.requires.room;
      rises = subst (λ (k : ℕ). SegmentsRise k f.segments f.end) (sym at) c.requires.laid.rises;
      put = ap (λ (k : ℕ). take k c.put_head.new.out ++ image_from cs k f.segments f.end) at
          ∙ ap (λ v. v ++ image_from cs f.start f.segments f.end)
          (head_first (f.head 0) c.args.out.now c.put_head.new.out f.start c.put_head.ensures.length
          c.put_head.ensures.put);
    }
