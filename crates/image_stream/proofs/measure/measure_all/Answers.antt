use Rattle.std.proofs.Common.{arith}
use Rattle.std.proofs.Common.{◌≡◌, ◌∙◌, length, get_or}
use Rattle.image_stream.specs.Sources.{content_of}
use Rattle.image_stream.proofs.Answering.{grew_join, sized_more}
use Rattle.image_stream.proofs.measure.measure_all.Goals as goal

pub loop-file-preserved : goal.loop-file-preserved
loop-file-preserved g c =
    let inv = c.loop-file.invariant in
    record {
      room = c.measure.auto.buffer ∙ inv.room;
      known = c.measure.ensures.known ∙ inv.known;
      files = c.measure.ensures.files ∙ inv.files;
      names = c.measure.ensures.names ∙ inv.names;
      grew = grew_join (g.S.Sources.IsLog c.args.sources.now) (g.S.Sources.IsLog c.loop-file.sources)
          (g.S.Sources.IsLog c.measure.new.sources) inv.grew c.in-Ok.ensures.grew;
      read = c.in-Ok.ensures.quiet ∙ inv.read;
      sized = λ cs is.
          let here : length (content_of cs c.loop-file.file)
          ≡ get_or (g.L.Segmented.form c.args.layout.now).sizes c.loop-file.file 0 =
          c.in-Ok.ensures.ok cs (inv.known ∙ is) ∙ c.size.ensures in
          sized_more (g.L.Segmented.form c.args.layout.now).sizes cs c.loop-file.file (inv.sized cs is) here;
    }

pub returns-clause-ok : goal.returns-clause-ok
returns-clause-ok g c = λ cs is k l.
    let n = c.files-file-end.ensures in
    let t = c.loop-file-test.false in
    c.loop-file.invariant.sized cs is k (omega arith)
